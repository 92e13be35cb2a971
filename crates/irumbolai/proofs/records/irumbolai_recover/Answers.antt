-- The member that `recover` answers fits its field. Assumes nothing.
use mathlib.Core.Path.{ap}
use mathlib.Core.List.{List}
use Prim.Native.Nat.{ℕ}
use native.Mathlib.Omega.{arith}
use lib.ListN.{get_or}
use Rattle.intent.proofs.Rules.{recover_small}
use Rattle.irumbolai.proofs.records.irumbolai_recover.Goals as goal

pub recovery_answer-requires : goal.recovery_answer-requires
recovery_answer-requires c =
    let a = c.args in
    let told = ap (λ (l : List ℕ). get_or l 3 0) c.recover.ensures.result_value in
    omega (arith, told, recover_small c.array_of-array.result a.stripe a.bytes.now a.log.now)
