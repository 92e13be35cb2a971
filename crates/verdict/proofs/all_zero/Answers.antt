-- `verdict::all_zero` meets its contract. Assumes nothing.
use mathlib.Core.Path.{◌≡◌, ap, ◌∙◌}
use Prim.Native.Nat.{ℕ, max}
use lib.Dec.{eqb}
use Rattle.std.proofs.Common.{rules}
use Rattle.std.specs.List.{fold}
use Rattle.verdict.proofs.Greatest.{none-greater}
use Rattle.verdict.proofs.all_zero.Goals as goal

pub returns : goal.returns
returns c =
    let bytes = c.args.bytes.now in
    let e : c.fold.result ≡ fold max 0 bytes = search rules in
    ap (λ (n : ℕ). eqb n 0) e ∙ none-greater bytes
