-- `stripe::searching::is_amiss` meets its contract. Assumes nothing.
use mathlib.Core.Path.{sym, ap, ◌∙◌}
use mathlib.Core.Bool.{not}
use borrow.Author.Tests.{eq-eqb, ne_eqb}
use Rattle.layout.specs.Places.{parity_member}
use Rattle.stripe.specs.InPart.{amiss}
use Rattle.stripe.proofs.Rooms.{parity_named}
use Rattle.stripe.proofs.searching.is_amiss.Goals as goal

pub returns-then-member-held : goal.returns-then-member-held
unfolding amiss
returns-then-member-held c =
    let s = c.args.held.now.stripe in
    rw (eq-eqb c.args.member (parity_member s.array s.number) (c.if-member-held.true ∙ parity_named s.array s.number s.in_array s.seat s.seated))

pub returns : goal.returns
unfolding amiss
returns c =
    let s = c.args.held.now.stripe in
    rw (ne_eqb c.args.member (parity_member s.array s.number) (λ e. c.if-member-held.false (e ∙ sym (parity_named s.array s.number s.in_array s.seat s.seated)))) (ap not c.is_good.ensures)
