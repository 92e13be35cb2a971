-- `format::blank_if_odd` meets its contract. Assumes nothing.
use mathlib.Core.Path.{◌≡◌, sym, ap}
use Prim.Native.Nat.{ℕ, ◌*◌, ◌%◌}
use native.Mathlib.Omega.{arith}
use Rattle.format.proofs.blank_if_odd.Goals as goal

pub returns-then-members-eq0 : goal.returns-then-members-eq0
returns-then-members-eq0 c = sym (ap (λ (x : ℕ). 0x98F94189 * x) c.if-members-eq0.true)

pub returns-else-members-eq0 : goal.returns-else-members-eq0
returns-else-members-eq0 c = let one : c.args.members % 2 ≡ 1 = omega (arith, c.if-members-eq0.false) in sym (ap (λ (x : ℕ). 0x98F94189 * x) one)
