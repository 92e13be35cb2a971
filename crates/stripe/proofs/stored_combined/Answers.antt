-- `stripe::stored_combined` meets its contract. The invariant: what was combined so far, with the guards of the members still to come, gives what is
-- due. Assumes nothing.
use mathlib.Core.Path.{ap, ◌∙◌}
use Prim.Native.Nat.{ℕ, ◌+◌}
use native.Mathlib.Omega.{arith}
use lib.Bits.{bit_xor}
use lib.ListN.{drop}
use Rattle.format.specs.Methods.{format_of}
use Rattle.verdict.specs.Verdicts.{combined_guards}
use Rattle.stripe.proofs.Carried.{walked, guards_whole, guards-taken, guards-passed, guards-done}
use Rattle.stripe.proofs.stored_combined.Goals as goal
use Rattle.stripe.proofs.stored_combined.Goals.{then-member-skip, else-member-skip}

pub loop-member-init : goal.loop-member-init
loop-member-init c = let a = c.args in guards_whole (format_of a.method) a.members a.skip a.bytes.now

pub loop-member-preserved : goal.loop-member-preserved
loop-member-preserved c =
    let at = c.loop-member in
    let a = c.args in
    let F = format_of a.method in
    let rest = combined_guards (drop (at.member + 1) (walked F a.members a.skip a.bytes.now)) in
    elim c.if-member-skip.branch [
      | then-member-skip w ↦
          ap (λ (g : ℕ). bit_xor g rest) w.guards-is
          ∙ guards-taken F a.members a.skip a.bytes.now at.guards at.member w.stored_guard-guards.result (omega arith) w.if-member-skip.true w.stored_guard-guards.ensures ∙ at.invariant
      | else-member-skip w ↦
          ap (λ (g : ℕ). bit_xor g rest) w.guards-is
          ∙ guards-passed F a.members a.skip a.bytes.now at.guards at.member (omega arith) w.if-member-skip.false ∙ at.invariant
    ]

pub returns : goal.returns
returns c =
    let at = c.loop-member in
    let a = c.args in
    guards-done (format_of a.method) a.members a.skip a.bytes.now at.guards at.member (omega arith) ∙ at.invariant
