-- The ledger of a stripe: the contents that were accepted last, and which member is lost; kept from the events and, of an update, from whether
-- it was accepted. It sees no byte of the stripe. And what it says that reads and rebuilds answer. Assumes nothing.
use Rattle.std.specs.Prelude.{◌≡◌, Bool, true, false, not, cond, List, [], ◌∷◌, ℕ, ◌<◌, eqb, ltb, length, get_or, set}
use Rattle.layout.specs.Answers.{refuse}
use Rattle.layout.specs.Arrays.{data_members}
use Rattle.layout.specs.Places.{stripe_of, index_of, member_of}
use Rattle.layout.specs.declared.Array.{Array}
use Rattle.tag.specs.Blocks.{format_at}
use Rattle.tag.specs.Tags.{bad}
use Rattle.stripe.specs.Tables.{table, part}
use Rattle.life.specs.Events.{Event, update, read, rebuild, lose, Answer, numbered}

-- ---- what is kept

-- the d contents, by data index: at first the parts of what was sealed
abbrev pub opened : Array → List ℕ → List (List ℕ)
opened a content = table (data_members a) (part (format_at a).data_length content)

-- a refusal number of zero
abbrev pub accepted : Answer → Bool
accepted x = eqb (get_or x.numbers 0 1) 0

-- an accepted update enters its data; a refused one counts as not made; nothing else enters anything
abbrev pub entered : Array → List (List ℕ) → Event → Answer → List (List ℕ)
entered a contents (update block new) x = cond (accepted x) (set contents (index_of a block) new) contents
entered a contents (read block out) x = contents
entered a contents (rebuild member) x = contents
entered a contents (lose member block) x = contents

-- ---- which member is lost: from the events alone

pub data Standing : Type 0 where
  whole : Standing
  lacks : ℕ → Standing

abbrev pub is_lost : Standing → ℕ → Bool
is_lost whole m = false
is_lost (lacks k) m = eqb m k

-- no member but this one is lost
abbrev pub no_other : Standing → ℕ → Bool
no_other whole m = true
no_other (lacks k) m = eqb m k

-- the lost member's rebuild ends the loss
abbrev pub standing_after : Standing → Event → Standing
standing_after s (update block new) = s
standing_after s (read block out) = s
standing_after s (rebuild member) = cond (no_other s member) whole s
standing_after s (lose member block) = lacks member

-- ---- the condition: losses of one member at a time

-- a loss: one member's whole block becomes bytes that check bad there, while no other member is lost
pub record Loss (a : Array) (stripe : ℕ) (s : Standing) (member : ℕ) (block : List ℕ) : Type 0 where
  pub alone : no_other s member ≡ true
  pub here : member < a.members
  pub size : length block ≡ (format_at a).block_length
  pub checks_bad : bad a stripe member block ≡ true

-- updates and reads are of blocks of this stripe; a rebuild may be of any member
abbrev pub Allowed : Array → ℕ → Standing → Event → Type 0
Allowed a stripe s (update block new) = stripe_of a block ≡ stripe
Allowed a stripe s (read block out) = stripe_of a block ≡ stripe
Allowed a stripe s (rebuild member) = Unit {0}
Allowed a stripe s (lose member block) = Loss a stripe s member block

abbrev pub OneAtATime : Array → ℕ → Standing → List Event → Type 0
OneAtATime a stripe s [] = Unit {0}
OneAtATime a stripe s (e ∷ events) = Allowed a stripe s e × OneAtATime a stripe (standing_after s e) events

-- ---- what calls answer by the ledger

-- a read: what is kept for its block, rebuilt where its member is lost and stored otherwise; or 6, where the buffer is not as long as data are
abbrev pub read_kept : Array → List (List ℕ) → Standing → ℕ → List ℕ → Answer
read_kept a contents s block out =
    cond (eqb (length out) (format_at a).data_length)
    (record { numbers = 1 ∷ 0 ∷ cond (is_lost s (member_of a block)) 1 0 ∷ []; left = get_or contents (index_of a block) [] })
    (record { numbers = 0 ∷ 6 ∷ 0 ∷ []; left = out })

-- a rebuild: 5 where there is no such member, 9 while another is lost, else done
abbrev pub rebuild_kept : Array → Standing → ℕ → Answer
rebuild_kept a s member = numbered (refuse (not (ltb member a.members)) 5 (refuse (not (no_other s member)) 9 0))

-- an update may be refused or not: the ledger goes by what it is told
abbrev pub AsKept : Array → List (List ℕ) → Standing → Event → Answer → Type 0
AsKept a contents s (update block new) x = Unit {0}
AsKept a contents s (read block out) x = x ≡ read_kept a contents s block out
AsKept a contents s (rebuild member) x = x ≡ rebuild_kept a s member
AsKept a contents s (lose member block) x = Unit {0}

-- all answers, one for each event
abbrev pub AllAsKept : Array → List (List ℕ) → Standing → List Event → List Answer → Type 0
AllAsKept a contents s [] [] = Unit {0}
AllAsKept a contents s [] (x ∷ answers) = ⊥
AllAsKept a contents s (e ∷ events) [] = ⊥
AllAsKept a contents s (e ∷ events) (x ∷ answers) = AsKept a contents s e x × AllAsKept a (entered a contents e x) (standing_after s e) events answers
