-- `stripe::Held::passes` meets its contract.
-- Assumes nothing.
use mathlib.Core.Path.{sym, ap, ◌∙◌}
use Prim.Native.Nat.{ℕ}
use lib.Dec.{eqb}
use Rattle.stripe.proofs.Checked.{stands-there}
use Rattle.stripe.proofs.Others.{watched_other}
use Rattle.stripe.proofs.Held.passes.Goals as goal

pub returns : goal.returns
returns c =
    let a = c.args in
    let s = a.self.now.stripe in
    let how = stands-there s.array s.number a.member a.data_guard c.standing_by.result a.self.now.bytes.now c.stored-found.result c.stored-found.ensures
    c.requires.data_guard_value c.standing_by.ensures in
    ap (λ (x : ℕ). eqb x 0) how ∙ sym (watched_other s.array s.number a.skip a.self.now.bytes.now a.member c.requires.member_in c.if-member-skip.false)
