-- The ledger in figures: three members, so two contents, that of block 0 and that of block 1. Assumes nothing.
use mathlib.Core.Path.{◌≡◌, refl}
use mathlib.Core.List.{List, [], ◌∷◌}
use Prim.Native.Nat.{ℕ}
use Rattle.format.specs.Methods.{format_of}
use Rattle.layout.specs.Arrays.{array_of}
use Rattle.layout.specs.Places.{index_of}
use Rattle.layout.specs.declared.Array.{Array}
use Rattle.life.specs.Events.{Event, update, read, rebuild, lose, Answer, numbered, unanswered}
use Rattle.life.specs.Ledger.{entered, whole, lacks, standing_after, read_kept, rebuild_kept}
use Rattle.life.specs.LastAccepted.{kept_after, last_accepted}

abbrev three : Array
three = array_of 3 1 7 1 1

abbrev one : ℕ → List ℕ
one byte = byte ∷ []

abbrev kept : List (List ℕ)
kept = one 10 ∷ one 11 ∷ []

-- accepted, it is entered at its block; refused, it is not; and no other event enters anything
pub entries : (entered three kept (update 0 (one 20)) (numbered 0) ≡ one 20 ∷ one 11 ∷ []) × (entered three kept (update 1 (one 20)) (numbered 0) ≡ one 10 ∷ one 20 ∷ [])
    × (entered three kept (update 1 (one 20)) (numbered 9) ≡ kept) × (entered three kept (update 1 (one 20)) (numbered 6) ≡ kept)
    × (entered three kept (rebuild 1) (numbered 0) ≡ kept) × (entered three kept (lose 1 (one 20)) unanswered ≡ kept)
unfolding index_of
entries = (refl, refl, refl, refl, refl, refl)

-- the last one that was accepted for its number counts
abbrev updates : List Event
updates = update 1 (one 20) ∷ update 0 (one 21) ∷ read 1 [] ∷ update 1 (one 22) ∷ update 1 (one 23) ∷ []

abbrev numbers : List Answer
numbers = numbered 0 ∷ numbered 0 ∷ unanswered ∷ numbered 0 ∷ numbered 9 ∷ []

pub last-ones : (last_accepted 1 (one 11) updates numbers ≡ one 22) × (last_accepted 0 (one 10) updates numbers ≡ one 21)
    × (last_accepted 1 (one 11) [] numbers ≡ one 11) × (kept_after three kept updates numbers ≡ one 21 ∷ one 22 ∷ [])
unfolding index_of
last-ones = (refl, refl, refl, refl)

-- which member is lost: until its own rebuild
pub standings : (standing_after whole (lose 1 []) ≡ lacks 1) × (standing_after (lacks 1) (lose 1 []) ≡ lacks 1) × (standing_after (lacks 1) (update 1 []) ≡ lacks 1)
    × (standing_after (lacks 1) (rebuild 2) ≡ lacks 1) × (standing_after (lacks 1) (rebuild 1) ≡ whole)
standings = (refl, refl, refl, refl, refl)

-- a rebuild's number, and a read into a buffer that does not fit
pub answers : (rebuild_kept three whole 2 ≡ numbered 0) × (rebuild_kept three whole 3 ≡ numbered 5) × (rebuild_kept three (lacks 1) 3 ≡ numbered 5)
    × (rebuild_kept three (lacks 1) 2 ≡ numbered 9) × (rebuild_kept three (lacks 1) 1 ≡ numbered 0)
    × (read_kept three kept whole 0 (one 5) ≡ record { numbers = 0 ∷ 6 ∷ 0 ∷ []; left = one 5 })
unfolding format_of
answers = (refl, refl, refl, refl, refl, refl)
