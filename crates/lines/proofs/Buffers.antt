-- A header that lies in the first bytes of a buffer: what its first bytes tell, whatever the buffer holds behind them. Assumes nothing.
use mathlib.Core.Path.{◌≡◌, refl, ap, ◌∙◌, sym}
use mathlib.Core.List.{List, ◌∷◌}
use mathlib.Core.Bool.{Bool, true, false, cond}
use mathlib.Core.Logic.{◌≢◌}
use Prim.Native.Nat.{ℕ, zero, suc, ◌+◌, ◌≤◌, ◌<◌, min}
use native.Mathlib.Nat.{add-zero}
use native.Mathlib.Decide.{dec_lt}
use native.Mathlib.Omega.{arith}
use borrow.Author.Tests.{ltb-true}
use lib.Dec.{ltb}
use lib.ListN.{length, get_or, take, drop, length-take}
use lib.Seq.{get_or-take}
use Rattle.tag.proofs.Numbers.{elements_from, take_elements}
use Rattle.lines.specs.Headers.{header_room, form_of, header_form, header_size, later, array_in, header_refusal}
use Rattle.lines.proofs.Headers.{form-most, size_least, short_refused, size_unknown, size_of_known}

elements_taken : (l : List ℕ) (have i passed n : ℕ) → i + passed + n ≤ have → elements_from (take have l) i passed n ≡ elements_from l i passed n
elements_taken l have i passed zero h = refl
elements_taken l have i passed (suc n) h =
    let here : i + passed < have = omega arith in
    rw (get_or-take have l (i + passed) 0 here) (ap (λ (t : List ℕ). get_or l (i + passed) 0 ∷ t) (elements_taken l have i (suc passed) n (omega arith)))

module _ (header : List ℕ) (have : ℕ) (long : length header ≡ header_room) where
  length_taken : length (take have header) ≡ min have header_room
  length_taken = length-take have header ∙ ap (λ (k : ℕ). min have k) long

  form-taken : 3 ≤ have → header_form (take have header) ≡ header_form header
  form-taken h = ap form_of (get_or-take have header 2 0 (omega arith))

  part-taken : (at n : ℕ) → at + n ≤ have → at + n ≤ header_room → take n (drop at (take have header)) ≡ take n (drop at header)
  part-taken at n h l =
      rw add-zero at
      (take_elements (take have header) at 0 n (omega (arith, length_taken)) ∙ elements_taken header have at 0 n (omega arith)
      ∙ sym (take_elements header at 0 n (omega arith)))

  later-taken : (k : ℕ) → 3 ≤ have → 5 + (header_form header).wide + (header_form header).more ≤ have → later (take have header) k ≡ later header k
  unfolding later
  later-taken k h room =
      rw (form-taken h) (by_test (ltb k (header_form header).more) (ltb-true k (header_form header).more))
    where
      by_test : (t : Bool) → (t ≡ true → k < (header_form header).more)
          → cond t (get_or (take have header) (5 + (header_form header).wide + k) 0) 1 ≡ cond t (get_or header (5 + (header_form header).wide + k) 0) 1
      by_test true e = let told : k < (header_form header).more = e refl in get_or-take have header (5 + (header_form header).wide + k) 0 (omega arith)
      by_test false e = refl

  array-taken : 3 ≤ have → 5 + (header_form header).wide + (header_form header).more ≤ have → array_in (take have header) ≡ array_in header
  unfolding array_in
  array-taken h room =
      rw (
        form-taken h,
        later-taken 0 h room,
        later-taken 1 h room,
        part-taken 5 (header_form header).wide (omega arith) (omega (arith, form-most (get_or header 2 0) _ refl)),
        get_or-take have header 3 0 (omega arith),
        get_or-take have header 4 0 (omega arith),
      )

  -- the tests, with the size as the code has it
  module _ (size : ℕ) (told : size ≡ header_size (take have header)) where
    pub unknown_refused : size ≡ 3 → header_refusal (take have header) ≡ 10
    unfolding header_refusal
    unknown_refused e = rw (size_unknown (get_or (take have header) 2 0) (sym told ∙ e))

    pub lacking_refused : have < size → header_refusal (take have header) ≡ 10
    lacking_refused h = short_refused (take have header) (omega (arith, length_taken))

    module _ (some : size ≢ 3) (enough : size ≤ have) where
      three : 3 ≤ have
      three = omega (arith, size_least (get_or (take have header) 2 0))

      pub whole-array : array_in (take have header) ≡ array_in header
      whole-array =
          let whole = size_of_known (get_or (take have header) 2 0) (λ f. some (told ∙ f)) in
          let came : 5 + (header_form (take have header)).wide + (header_form (take have header)).more ≤ have = omega (arith, whole) in
          let room : 5 + (header_form header).wide + (header_form header).more ≤ have = rw (form-taken three) at came in
          array-taken three room

  -- so the array of a header that is not refused with 10 is read from the buffer, whatever stands behind the header there
  pub array_told : header_refusal (take have header) ≢ 10 → array_in (take have header) ≡ array_in header
  array_told e =
      let size = header_size (take have header) in
      whole-array size refl (λ z. e (unknown_refused size refl z)) (go (dec_lt have size))
    where
      go : Dec (have < header_size (take have header)) → header_size (take have header) ≤ have
      go (yes h) = absurd (e (lacking_refused (header_size (take have header)) refl h))
      go (no h) = omega arith

  pub array-there : header_refusal (take have header) ≡ 0 → array_in (take have header) ≡ array_in header
  array-there e = array_told (λ z. let n : ◌≡◌ {A = ℕ} 0 10 = sym e ∙ z in omega arith)
