-- Laws of `sets`, bytes written over others from a place on: by single stores, one run behind another, and past the end.
-- Assumes nothing.
use mathlib.Core.Path.{◌≡◌, refl, sym, ap}
use mathlib.Core.List.{List, [], ◌∷◌, ◌++◌, append_assoc}
use Prim.Native.Nat.{ℕ, zero, suc, ◌+◌, ◌≤◌, ◌<◌}
use native.Mathlib.Nat.{add-suc, suc-add, add-zero}
use native.Mathlib.Numerals.{add-one}
use native.Mathlib.Omega.{arith}
use lib.ListN.{length, get_or, take, drop, set, drop_of_length-le, length-set}
use lib.Seq.{sets, sets-eq, drop-cons, drop-drop}
use borrow.Rule.Slice.PartMut.{put_mid}

-- the loop of single stores: one turn, and its end
pub sets-turn : (t : List ℕ) (at i : ℕ) (bytes : List ℕ) → i < length bytes
    → sets (set t (at + i) (get_or bytes i 0)) (at + (i + 1)) (drop (i + 1) bytes) ≡ sets t (at + i) (drop i bytes)
sets-turn t at i bytes h = rw (add-one, add-suc, drop-cons bytes i 0)

pub sets_end : (t : List ℕ) (at i : ℕ) (bytes : List ℕ) → length bytes ≤ i → sets t (at + i) (drop i bytes) ≡ t
sets_end t at i bytes h = rw (drop_of_length-le bytes h)

-- two runs written one behind the other are their join
pub sets-append : (t : List ℕ) (at : ℕ) (a b : List ℕ) → sets (sets t at a) (at + length a) b ≡ sets t at (a ++ b)
sets-append t at [] b = rw add-zero
sets-append t at (x ∷ a) b = rw add-suc (rw suc-add at (sets-append (set t at x) (suc at) a b))

-- what lies past the end is not written
set_past : (t : List ℕ) (at x : ℕ) → length t ≤ at → set t at x ≡ t
set_past [] at x h = refl
set_past (y ∷ t) zero x h = absurd (omega arith)
set_past (y ∷ t) (suc at) x h = ap (λ (l : List ℕ). y ∷ l) (set_past t at x (omega arith))

pub sets-past : (t : List ℕ) (at : ℕ) (bytes : List ℕ) → length t ≤ at → sets t at bytes ≡ t
sets-past t at [] h = refl
sets-past t at (x ∷ bytes) h = rw (set_past t at x h) (sets-past t (suc at) bytes (omega arith))

pub sets-room : (t : List ℕ) (at room : ℕ) (bytes : List ℕ) → length t ≤ at + room → sets t at (take room bytes) ≡ sets t at bytes
sets-room t at zero [] h = refl
sets-room t at (suc room) [] h = refl
sets-room t at zero (x ∷ bytes) h = sym (sets-past t at (x ∷ bytes) (omega arith))
sets-room t at (suc room) (x ∷ bytes) h = sets-room (set t at x) (suc at) room bytes (rw length-set (omega arith))

-- a part of a list with a run in its place
pub sets-part : (t : List ℕ) (at k : ℕ) (bytes : List ℕ) → k ≡ length bytes → at + k ≤ length t → put_mid at k t bytes ≡ sets t at bytes
sets-part t at k bytes e h = sym (rw (sets-eq bytes t at (omega arith), ← e, append_assoc, ← drop-drop k at t) refl)
