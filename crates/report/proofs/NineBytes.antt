-- The report as it was before the table of header versions, from a header of nine bytes, written out: it is the same for every image,
-- but for those of a later row of the table. Assumes nothing.
use mathlib.Core.Path.{◌≡◌, refl, sym, ◌∙◌}
use mathlib.Core.Bool.{Bool, true, false, cond}
use mathlib.Core.List.{List, ◌++◌}
use mathlib.Core.Logic.{◌≢◌}
use Prim.Native.Nat.{ℕ, ◌<◌}
use native.Mathlib.Omega.{arith}
use borrow.Author.Tests.{eqb-true, eqb-false}
use lib.Dec.{eqb}
use lib.ListN.{get_or, take, drop}
use lib.Seq.{get_or-take}
use Rattle.lines.specs.Lines.{first_line, refused_line}
use Rattle.lines.specs.Headers.{header_refusal}
use Rattle.lines.proofs.NineBytes.{nine_byte_array, nine_byte_refusal, Plain, in_no_row, same-refusal, same-array, nine-bytes, three-bytes, other_version_refused}
use Rattle.report.specs.Reports.{none, stripe_lines, report_of}

unfoldable pub nine_byte_report : List ℕ → List ℕ
nine_byte_report image =
    let header = take 9 image in
    let a = nine_byte_array header in
    cond (eqb (nine_byte_refusal header) 0) (first_line a ++ stripe_lines a a.stripes 0 none (drop 9 image)) (refused_line (nine_byte_refusal header))

pub same_report : (image : List ℕ) → Plain image → report_of image ≡ nine_byte_report image
unfolding report_of nine_byte_report
same_report image plain = go (eqb (get_or image 2 0) 1) refl
  where
    version : (n : ℕ) → 2 < n → get_or (take n image) 2 0 ≡ get_or image 2 0
    version n h = get_or-take n image 2 0 h

    plain_part : (n : ℕ) → 2 < n → Plain (take n image)
    plain_part n h = rw (version n h) plain

    refused : get_or image 2 0 ≢ 1 → (n : ℕ) → 2 < n → nine_byte_refusal (take n image) ≡ 10
    refused other n h = other_version_refused (take n image) (λ e. other (sym (version n h) ∙ e))

    go : (f : Bool) → eqb (get_or image 2 0) 1 ≡ f → report_of image ≡ nine_byte_report image
    go true e =
        let first = eqb-true (get_or image 2 0) 1 e in
        rw (nine-bytes image first, same-refusal (take 9 image) (plain_part 9 (omega arith)), same-array (take 9 image) (version 9 (omega arith) ∙ first))
    go false e =
        let other = eqb-false (get_or image 2 0) 1 e in
        let three : header_refusal (take 3 image) ≡ 10 = same-refusal (take 3 image) (plain_part 3 (omega arith)) ∙ refused other 3 (omega arith) in
        rw (three-bytes image (in_no_row image plain other), three, refused other 9 (omega arith))
