-- An image that is not refused is whole; where one is refused, its number ends the list. Assumes nothing.
use mathlib.Core.Path.{◌≡◌, refl, sym, ap, ◌∙◌}
use mathlib.Core.Logic.{◌≢◌}
use mathlib.Core.Bool.{Bool, true, false, not}
use mathlib.Core.List.{List, [], ◌∷◌, ◌++◌, append_assoc}
use Prim.Native.Nat.{ℕ, zero, suc, ◌+◌, ◌-◌, ◌*◌, ◌≤◌, ◌<◌}
use native.Mathlib.Nat.{mul-zero, mul-suc}
use native.Mathlib.Decide.{dec_lt, ℕ_discrete}
use native.Mathlib.Omega.{arith}
use borrow.Author.Tests.{lt-ltb, eqb-true, eq-eqb, ne_eqb}
use lib.Dec.{eqb}
use lib.ListN.{length, get_or, take, drop, length-take, length-drop, get_or-eq_default}
use lib.Seq.{get_or-take}
use Rattle.layout.specs.Answers.{refuse, after}
use Rattle.layout.specs.declared.Array.{Array}
use Rattle.stripe.specs.Stripes.{stripe_length}
use Rattle.lines.specs.Lines.{refused_line}
use Rattle.lines.specs.Headers.{header_size}
use Rattle.lines.proofs.Headers.{volume_there}
use Rattle.mend.specs.Mending.{listed}
use Rattle.repair.specs.Repairs.{Output, repair_refusal, ending, repair_stripes, header_of, array_of, stripes_of, repair_of, image_refusal}
use Rattle.repair.specs.SecondPass.{SecondPass, Ends}
use Rattle.repair.proofs.Images.{one-stripe, second_pass}

module _ (image : List ℕ) where
  abbrev number : ℕ
  number = repair_refusal (header_of image)

  abbrev due : ℕ
  due = stripe_length (array_of image) * (array_of image).stripes

  pub whole-image : image_refusal image ≡ 0 → (number ≡ 0) × (length (stripes_of image) ≡ due)
  unfolding image_refusal
  whole-image e = by_number number (eqb (length (stripes_of image)) due) refl e
    where
      by_number : (n : ℕ) (f : Bool) → eqb (length (stripes_of image)) due ≡ f → after n (refuse (not f) 11 0) ≡ 0 → (n ≡ 0) × (length (stripes_of image) ≡ due)
      by_number zero true k z = (refl, eqb-true (length (stripes_of image)) due k)
      by_number zero false k z = absurd (omega arith)
      by_number (suc n) f k z = absurd (omega arith)

-- ---- the list of an image that is cut, or too long, ends with refusal 11

stripes_end : (a : Array) (left stripe : ℕ) (bytes : List ℕ) → length bytes ≢ stripe_length a * left → Ends (repair_stripes a left stripe bytes).list 11
unfolding repair_stripes ending
stripes_end a zero stripe [] e = absurd (e (sym (mul-zero (stripe_length a))))
stripes_end a zero stripe (b ∷ bytes) e = record { lines = []; ends = refl }
stripes_end a (suc left) stripe bytes e = go (stripes_end a left (stripe + 1) (drop (stripe_length a) bytes)) (dec_lt (length bytes) (stripe_length a))
  where
    go : (length (drop (stripe_length a) bytes) ≢ stripe_length a * left → Ends (repair_stripes a left (stripe + 1) (drop (stripe_length a) bytes)).list 11)
        → Dec (length bytes < stripe_length a) → Ends (repair_stripes a (suc left) stripe bytes).list 11
    go later (yes h) = rw (lt-ltb (length bytes) (stripe_length a) h) record { lines = []; ends = refl }
    go later (no h) =
        let here = take (stripe_length a) bytes in
        let enough : stripe_length a ≤ length bytes = omega arith in
        let other : length (drop (stripe_length a) bytes) ≢ stripe_length a * left =
        λ z. e (let k : length bytes - stripe_length a ≡ stripe_length a * left = sym (length-drop (stripe_length a) bytes) ∙ z in omega (arith, mul-suc (stripe_length a) left)) in
        let rest = later other in
        record {
          lines = listed a stripe here ++ rest.lines;
          ends = ap (λ (o : Output). o.list) (one-stripe a left stripe bytes enough) ∙ ap (λ (l : List ℕ). listed a stripe here ++ l) rest.ends
              ∙ sym (append_assoc (listed a stripe here) rest.lines (refused_line 11));
        }

pub refused_ends : (image : List ℕ) → image_refusal image ≢ 0 → Ends (repair_of image).list (image_refusal image)
unfolding repair_of image_refusal
refused_ends image e = go (ℕ_discrete (number image) 0)
  where
    first : (n : ℕ) → n ≢ 0 → after n (refuse (not (eqb (length (stripes_of image)) (due image))) 11 0) ≡ n
    first zero z = absurd (z refl)
    first (suc n) z = refl

    go : Dec (number image ≡ 0) → Ends (repair_of image).list (image_refusal image)
    go (no refused) =
        rw (ne_eqb (number image) 0 refused, first (number image) refused) record { lines = []; ends = refl }
    go (yes none) =
        let other : length (stripes_of image) ≢ due image = λ z. e (rw (none, eq-eqb (length (stripes_of image)) (due image) z)) in
        let eleven : after (number image) (refuse (not (eqb (length (stripes_of image)) (due image))) 11 0) ≡ 11 = rw (none, ne_eqb (length (stripes_of image)) (due image) other) in
        let end = stripes_end (array_of image) (array_of image).stripes 0 (stripes_of image) other in
        rw (eleven, none) end

-- ---- a whole image, of bytes

module _ (image : List ℕ) (bytes : (i : ℕ) → get_or image i 0 < 256) where
  pub volume_small : (array_of image).volume < 256
  volume_small = rw (volume_there (header_of image)) (go (dec_lt 4 (header_size image)))
    where
      go : Dec (4 < header_size image) → get_or (header_of image) 4 0 < 256
      go (yes h) = rw (get_or-take (header_size image) image 4 0 h) (bytes 4)
      go (no h) = rw (get_or-eq_default (header_of image) 0 {n = 4} (rw (length-take (header_size image) image) (omega arith))) (omega arith)

  pub repaired_once : image_refusal image ≡ 0 → SecondPass image (repair_of image)
  repaired_once e = let w = whole-image image e in second_pass image w.0 w.1 volume_small
