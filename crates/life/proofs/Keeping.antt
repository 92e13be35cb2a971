-- The ledger by itself: an answer in the middle of a list, and that the entry of a block is what was last accepted for its number.
-- Assumes nothing.
use mathlib.Core.Path.{◌≡◌, refl, sym, ap, ap₂, ◌∙◌}
use mathlib.Core.Bool.{Bool, true, false, cond, ◌&&◌}
use mathlib.Core.List.{List, [], ◌∷◌, ◌++◌, foldl}
use Prim.Native.Nat.{ℕ, ◌<◌}
use native.Mathlib.Omega.{arith}
use borrow.Author.Tests.{eqb-true, eqb-false}
use lib.Dec.{eqb}
use lib.ListN.{length, get_or, set, length-set}
use lib.Seq.{get_or-set_same, get_or-set_other}
use Rattle.layout.specs.Places.{block_at, stripe_of, index_of}
use Rattle.layout.specs.declared.Array.{Array}
use Rattle.layout.proofs.Blocks.{block_of_parts}
use Rattle.life.specs.Events.{Event, update, read, rebuild, lose, Answer, unanswered}
use Rattle.life.specs.Ledger.{accepted, entered, Standing, standing_after, OneAtATime, read_kept, AllAsKept}
use Rattle.life.specs.LastAccepted.{kept_after, latest, last_accepted}

-- the answer of a read after some events
pub answer-after : (a : Array) (before later : List Event) (block : ℕ) (out : List ℕ) (answers : List Answer) (contents : List (List ℕ)) (s : Standing)
    → AllAsKept a contents s (before ++ (read block out ∷ later)) answers
    → get_or answers (length before) unanswered ≡ read_kept a (kept_after a contents before answers) (foldl standing_after s before) block out
answer-after a [] later block out [] contents s kept = absurd kept
answer-after a [] later block out (x ∷ answers) contents s kept = kept.0
answer-after a (e ∷ before) later block out [] contents s kept = absurd kept
answer-after a (e ∷ before) later block out (x ∷ answers) contents s kept =
    answer-after a before later block out answers (entered a contents e x) (standing_after s e) kept.1

-- two blocks of a stripe with one index are one
pub one_index : (a : Array) (b c : ℕ) → stripe_of a b ≡ stripe_of a c → index_of a b ≡ index_of a c → b ≡ c
one_index a b c s i = sym (block_of_parts a b) ∙ ap₂ (block_at a) s i ∙ block_of_parts a c

module _ (a : Array) (stripe block : ℕ) (own : stripe_of a block ≡ stripe) where
  length-entered : (contents : List (List ℕ)) (e : Event) (x : Answer) → length (entered a contents e x) ≡ length contents
  length-entered contents (update other new) x = by_flag (accepted x) refl
    where
      same : length (set contents (index_of a other) new) ≡ length contents
      same = length-set contents (index_of a other) new

      by_flag : (f : Bool) → accepted x ≡ f → length (entered a contents (update other new) x) ≡ length contents
      by_flag true e = rw e (omega (arith, same))
      by_flag false e = rw e (omega (arith, same))
  length-entered contents (read other out) x = refl
  length-entered contents (rebuild member) x = refl
  length-entered contents (lose member lost) x = refl

  -- one event moves both alike
  entry_latest : (contents : List (List ℕ)) (s : Standing) (kept : List ℕ) (e : Event) (x : Answer) (later : List Event) → index_of a block < length contents
      → OneAtATime a stripe s (e ∷ later) → get_or contents (index_of a block) [] ≡ kept → get_or (entered a contents e x) (index_of a block) [] ≡ latest block kept e x
  entry_latest contents s kept (update other new) x later here single same = by_flags (eqb other block) (accepted x) refl
    where
      by_flags : (f g : Bool) → eqb other block ≡ f → get_or (cond g (set contents (index_of a other) new) contents) (index_of a block) [] ≡ cond (f && g) new kept
      by_flags true true e =
          ap (λ (k : ℕ). get_or (set contents (index_of a k) new) (index_of a block) []) (eqb-true other block e) ∙ get_or-set_same contents (index_of a block) new [] here
      by_flags false true e =
          get_or-set_other contents (index_of a other) (index_of a block) new [] (λ q. eqb-false other block e (one_index a other block (single.0 ∙ sym own) (sym q))) ∙ same
      by_flags true false e = same
      by_flags false false e = same
  entry_latest contents s kept (read other out) x later here single same = same
  entry_latest contents s kept (rebuild member) x later here single same = same
  entry_latest contents s kept (lose member lost) x later here single same = same

  pub entry_last : (before later : List Event) (answers : List Answer) (contents : List (List ℕ)) (s : Standing) (kept : List ℕ) → index_of a block < length contents
      → OneAtATime a stripe s (before ++ later) → get_or contents (index_of a block) [] ≡ kept
      → get_or (kept_after a contents before answers) (index_of a block) [] ≡ last_accepted block kept before answers
  entry_last [] later answers contents s kept here single same = same
  entry_last (e ∷ before) later [] contents s kept here single same = same
  entry_last (e ∷ before) later (x ∷ answers) contents s kept here single same =
      entry_last before later answers (entered a contents e x) (standing_after s e) (latest block kept e x) (rw (length-entered contents e x) here) single.1
      (entry_latest contents s kept e x (before ++ later) here single same)

-- a read among events that are allowed is of a block of the stripe
pub read_here : (a : Array) (stripe : ℕ) (before later : List Event) (block : ℕ) (out : List ℕ) (s : Standing)
    → OneAtATime a stripe s (before ++ (read block out ∷ later)) → stripe_of a block ≡ stripe
read_here a stripe [] later block out s single = single.0
read_here a stripe (e ∷ before) later block out s single = read_here a stripe before later block out (standing_after s e) single.1
