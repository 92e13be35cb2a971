-- Images that are refused, at their header or at their end, by computation: what is written of the image, and the list. Assumes nothing.
use mathlib.Core.Path.{◌≡◌, refl}
use mathlib.Core.List.{List, [], ◌∷◌}
use Prim.Native.Nat.{ℕ}
use Rattle.format.specs.Methods.{format_of}
use Rattle.layout.specs.Arrays.{array_refusal}
use Rattle.tag.specs.Numbers.{number_of}
use Rattle.lines.specs.Text.{decimal, refused_word}
use Rattle.lines.specs.Lines.{refused_line}
use Rattle.lines.specs.Headers.{form_of, form_size, later, array_in, header_refusal}
use Rattle.repair.specs.Repairs.{refused_with, repair_refusal, ending, repair_stripes, repair_of}

-- "REFUSED ", two digits, and the end of the line
abbrev pub told : ℕ → ℕ → List ℕ
told ten one = 0x52 ∷ 0x45 ∷ 0x46 ∷ 0x55 ∷ 0x53 ∷ 0x45 ∷ 0x44 ∷ 0x20 ∷ ten ∷ one ∷ 0x0A ∷ []

-- no byte at all: no image, and "REFUSED 10"
pub nothing-came : repair_of [] ≡ record { image = []; list = told 0x31 0x30 }
unfolding repair_of repair_refusal header_refusal form_of form_size array_refusal array_in later number_of refused_line refused_word decimal
nothing-came = refl

-- large blocks: no image, and "REFUSED 12"; so where the row length would be refused too, which is 13 by another method
pub large-blocks : repair_of (0 ∷ 8 ∷ 2 ∷ 3 ∷ 7 ∷ 0 ∷ 0 ∷ 0 ∷ 1 ∷ 3 ∷ []) ≡ record { image = []; list = told 0x31 0x32 }
unfolding repair_of repair_refusal header_refusal form_of form_size array_refusal array_in later number_of refused_line refused_word decimal
large-blocks = refl

pub large-before_row : (repair_of (0 ∷ 9 ∷ 3 ∷ 3 ∷ 7 ∷ 0 ∷ 0 ∷ 0 ∷ 1 ∷ 3 ∷ 3 ∷ []) ≡ refused_with 12) × (repair_of (0 ∷ 9 ∷ 3 ∷ 3 ∷ 7 ∷ 0 ∷ 0 ∷ 0 ∷ 1 ∷ 1 ∷ 3 ∷ []) ≡ refused_with 13)
unfolding repair_of repair_refusal header_refusal form_of form_size array_refusal array_in later number_of
large-before_row = (refl, refl)

-- what is tested before the method keeps its number: two members; no stripe
pub tested_before : (repair_of (0 ∷ 8 ∷ 2 ∷ 2 ∷ 7 ∷ 0 ∷ 0 ∷ 0 ∷ 1 ∷ 3 ∷ []) ≡ refused_with 1) × (repair_of (0 ∷ 8 ∷ 2 ∷ 3 ∷ 7 ∷ 0 ∷ 0 ∷ 0 ∷ 0 ∷ 3 ∷ []) ≡ refused_with 2)
unfolding repair_of repair_refusal header_refusal form_of form_size array_refusal array_in later number_of
tested_before = (refl, refl)

-- three members and one stripe, and no byte of it: the header, and "REFUSED 11"
pub ends_early : repair_of (0 ∷ 7 ∷ 1 ∷ 3 ∷ 7 ∷ 0 ∷ 0 ∷ 0 ∷ 1 ∷ []) ≡ record { image = 0 ∷ 7 ∷ 1 ∷ 3 ∷ 7 ∷ 0 ∷ 0 ∷ 0 ∷ 1 ∷ []; list = told 0x31 0x31 }
unfolding format_of form_of form_size repair_of repair_stripes repair_refusal header_refusal array_refusal array_in later number_of refused_line refused_word decimal
ends_early = refl

-- a byte behind the last stripe
pub goes_on : (byte : ℕ) (bytes : List ℕ) → ending (byte ∷ bytes) ≡ refused_with 11
unfolding ending
goes_on byte bytes = refl
