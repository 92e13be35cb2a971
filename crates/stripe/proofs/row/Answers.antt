-- `stripe::row` meets its contract. The invariant: the rows of the members still to come, added to the row now, give the row due.
-- Assumes nothing.
use mathlib.Core.Path.{refl, ap, ◌∙◌}
use Prim.Native.Nat.{ℕ, ◌+◌}
use native.Mathlib.Omega.{arith}
use lib.ListN.{length, drop}
use mathlib.Core.List.{List}
use Rattle.format.specs.Methods.{format_of}
use Rattle.xor.specs.Xors.{xors, add_all}
use Rattle.xor.proofs.Lists.{length-xors}
use Rattle.stripe.specs.Tables.{span}
use Rattle.stripe.proofs.Rows.{member_rows, row_whole, row_turn, row_skip, row_done, lent-span}
use Rattle.stripe.proofs.row.Goals as goal
use Rattle.stripe.proofs.row.Goals.{then-member-skip, else-member-skip}

pub loop-member-init : goal.loop-member-init
loop-member-init c = let a = c.args in (refl, row_whole (format_of a.method) a.at 128 a.members a.skip a.bytes.now c.requires.at_bound)

pub loop-member-preserved : goal.loop-member-preserved
loop-member-preserved c =
    let at = c.loop-member in
    let a = c.args in
    let F = format_of a.method in
    let rows = member_rows F a.at 128 a.members a.skip a.bytes.now in
    elim c.if-member-skip.branch [
      | then-member-skip w ↦ (
        ap length (w.row-is ∙ w.xor_into.ensures) ∙ length-xors _ _ ∙ at.invariant.0,
        ap (λ (r : List ℕ). add_all r (drop (at.member + 1) rows))
            (w.row-is ∙ w.xor_into.ensures ∙ ap (xors at.row) (lent-span (w.block_at.result + a.at) 128 a.bytes.now ∙ ap (λ (k : ℕ). span (k + a.at) 128 a.bytes.now) w.block_at.ensures))
            ∙ row_turn F a.at 128 a.members a.skip a.bytes.now at.row at.member (omega arith) w.if-member-skip.true c.requires.at_bound ∙ at.invariant.1,
      )
      | else-member-skip w ↦ (
        ap length w.row-is ∙ at.invariant.0,
        ap (λ (r : List ℕ). add_all r (drop (at.member + 1) rows)) w.row-is
            ∙ row_skip F a.at 128 a.members a.skip a.bytes.now at.row at.member (omega arith) w.if-member-skip.false ∙ at.invariant.1,
      )
    ]

pub returns : goal.returns
returns c =
    let at = c.loop-member in
    let a = c.args in
    row_done (format_of a.method) a.at 128 a.members a.skip a.bytes.now at.row at.member (omega arith) ∙ at.invariant.1
