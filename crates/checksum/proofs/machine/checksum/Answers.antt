-- `checksum::machine::checksum` meets its contract: a block at once, any other run by the machine. Assumes nothing.
use mathlib.Core.Path.{ap, ◌∙◌}
use mathlib.Core.List.{List}
use Prim.Native.Nat.{ℕ}
use Rattle.checksum.specs.Checksum.{words, sums, first, checksum}
use Rattle.checksum.specs.declared.Register.{Register}
use Rattle.checksum.proofs.Joined.{guard-checksum}
use Rattle.checksum.proofs.machine.checksum.Goals as goal

pub returns-in-Some : goal.returns-in-Some
unfolding checksum
returns-in-Some c = c.block.ensures ∙ ap (λ (l : List ℕ). sums first (words l)) c.in-Some.ensures.cases.same

pub returns : goal.returns
returns c = ap (λ (r : Register). r.value) c.from_even-register.ensures ∙ guard-checksum c.args.bytes.now
