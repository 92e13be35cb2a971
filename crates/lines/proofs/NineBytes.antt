-- The header as it was before the table, nine bytes of version 1, written out: method 1, rows of one. But for the later rows of the table, the table
-- refuses with the same number on all bytes, and of version 1 it reads the same array. Assumes nothing.
use mathlib.Core.Path.{◌≡◌, refl, sym, ◌∙◌}
use mathlib.Core.Bool.{Bool, true, false, not, ◌&&◌}
use mathlib.Core.List.{List}
use mathlib.Core.Logic.{◌≢◌}
use Prim.Native.Nat.{ℕ}
use borrow.Author.Tests.{eqb-true, eqb-false, ne_eqb}
use lib.Dec.{leb, eqb}
use lib.ListN.{length, get_or, take, drop}
use Rattle.layout.specs.Answers.{refuse}
use Rattle.layout.specs.Arrays.{array_of, array_refusal}
use Rattle.layout.specs.declared.Array.{Array}
use Rattle.tag.specs.Numbers.{number_of}
use Rattle.lines.specs.Headers.{form_of, header_form, known, form_size, header_size, later, array_in, header_refusal}

unfoldable pub nine_byte_array : List ℕ → Array
nine_byte_array header = array_of (get_or header 3 0) (number_of (take 4 (drop 5 header))) (get_or header 4 0) 1 1

unfoldable pub nine_byte_refusal : List ℕ → ℕ
nine_byte_refusal header =
    refuse (not (leb 9 (length header) && eqb (number_of (take 2 header)) 7 && eqb (get_or header 2 0) 1)) 10 (array_refusal (nine_byte_array header))

-- of version 1, or of one that is in no row
abbrev pub Plain : List ℕ → Type 0
Plain bytes = known (header_form bytes) ≡ true → get_or bytes 2 0 ≡ 1

-- the test of the version as the first or the last of three
tests_turned : (enough long : Bool) (later : ℕ) → refuse (not (true && enough && long)) 10 later ≡ refuse (not (enough && long && true)) 10 later
tests_turned true true later = refl
tests_turned true false later = refl
tests_turned false long later = refl

last_fails : (enough long : Bool) (later : ℕ) → refuse (not (enough && long && false)) 10 later ≡ 10
last_fails true true later = refl
last_fails true false later = refl
last_fails false long later = refl

module _ (bytes : List ℕ) where
  module _ (first : get_or bytes 2 0 ≡ 1) where
    pub same-array : array_in bytes ≡ nine_byte_array bytes
    unfolding array_in nine_byte_array later form_of
    same-array = rw first

    pub nine-bytes : header_size bytes ≡ 9
    unfolding form_of form_size
    nine-bytes = rw first

    first-refusal : header_refusal bytes ≡ nine_byte_refusal bytes
    unfolding header_refusal nine_byte_refusal form_of form_size
    first-refusal = rw (same-array, first) (tests_turned (leb 9 (length bytes)) (eqb (number_of (take 2 bytes)) 7) (array_refusal (nine_byte_array bytes)))

  pub other_version_refused : get_or bytes 2 0 ≢ 1 → nine_byte_refusal bytes ≡ 10
  unfolding nine_byte_refusal
  other_version_refused other =
      rw (ne_eqb (get_or bytes 2 0) 1 other) (last_fails (leb 9 (length bytes)) (eqb (number_of (take 2 bytes)) 7) (array_refusal (nine_byte_array bytes)))

  module _ (none : known (header_form bytes) ≡ false) where
    pub three-bytes : header_size bytes ≡ 3
    unfolding form_size
    three-bytes = rw none

    no_row_refused : header_refusal bytes ≡ 10
    unfolding header_refusal
    no_row_refused = rw none

  module _ (plain : Plain bytes) where
    pub in_no_row : get_or bytes 2 0 ≢ 1 → known (header_form bytes) ≡ false
    in_no_row other = go (known (header_form bytes)) plain
      where
        go : (k : Bool) → (k ≡ true → get_or bytes 2 0 ≡ 1) → k ≡ false
        go true p = absurd (other (p refl))
        go false p = refl

    pub same-refusal : header_refusal bytes ≡ nine_byte_refusal bytes
    same-refusal = go (eqb (get_or bytes 2 0) 1) refl
      where
        go : (f : Bool) → eqb (get_or bytes 2 0) 1 ≡ f → header_refusal bytes ≡ nine_byte_refusal bytes
        go true e = first-refusal (eqb-true (get_or bytes 2 0) 1 e)
        go false e =
            let other = eqb-false (get_or bytes 2 0) 1 e in
            no_row_refused (in_no_row other) ∙ sym (other_version_refused other)
