-- `scan::Scan::guards_left` meets its contract. Assumes nothing.
use mathlib.Core.Path.{refl, sym, ap, ◌∙◌}
use mathlib.Core.List.{map}
use Prim.Native.Nat.{ℕ, ◌*◌}
use native.Mathlib.Omega.{arith}
use lib.Bits.{bit_xor, xor_zero_l}
use Rattle.std.proofs.Common.{rules, tests}
use Rattle.std.specs.List.{range_with_len}
use Rattle.std.proofs.lemmas.Iterator.{YieldsList-from_range}
use Rattle.std.proofs.lemmas.Iterator.Consumers.{fold_from_yields_List}
use Rattle.std.proofs.lemmas.List.Folds.{fold-map}
use Rattle.tag.specs.Blocks.{format_at}
use Rattle.tag.specs.Tags.{found}
use Rattle.stripe.specs.Tables.{span}
use Rattle.stripe.proofs.Carried.{left-carried}
use Rattle.verdict.specs.Verdicts.{combined_guards}
use Rattle.scan.specs.Steps.{held_guards}
use Rattle.scan.proofs.Replacing.{fold-guards, table-range}
use Rattle.scan.proofs.Scan.guards_left.Goals as goal

pub returns : goal.returns
unfolding held_guards
returns c =
    let s = c.args.self.now in
    let n = s.array.members in
    let F = format_at s.array in
    let guard : ℕ → ℕ = λ m. (found F (span (F.tag_length * m) F.tag_length s.tag)).guard in
    fold_from_yields_List _ (λ left m. bit_xor left (guard m)) 0 c.fold.result c.fold.ensures.ran (YieldsList-from_range 0 n n refl (omega arith))
    (λ b x r q k. search (rules, tests))
    ∙ sym (fold-map bit_xor guard 0 (range_with_len 0 n)) ∙ fold-guards (map guard (range_with_len 0 n)) 0 ∙ xor_zero_l _ ∙ ap combined_guards (sym (table-range guard n))
    ∙ sym (left-carried F (held_guards F n s.tag) (sym c.carries.ensures ∙ c.if-not-carries.false))
