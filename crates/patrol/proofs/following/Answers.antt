-- `patrol::following` meets its contract: one more, and at the number of stripes nothing remains. Assumes nothing.
use mathlib.Core.Path.{sym, ap, ◌∙◌}
use Prim.Native.Nat.{ℕ, ◌+◌, ◌%◌, ◌<◌}
use native.Mathlib.Nat.{mod-eq_of_lt, mod_self}
use native.Mathlib.Omega.{arith}
use Rattle.patrol.specs.Patrols.{following}
use Rattle.patrol.proofs.following.Goals as goal

pub returns-then-next-array : goal.returns-then-next-array
unfolding following
returns-then-next-array c =
    let n = c.args.array.stripes in
    sym (ap (λ (x : ℕ). x % n) c.if-next-array.true ∙ mod_self n)

pub returns-else-next-array : goal.returns-else-next-array
unfolding following
returns-else-next-array c =
    let before_end : c.args.stripe + 1 < c.args.array.stripes = omega arith in
    sym (mod-eq_of_lt before_end)
