-- `stripe::Held::made_guard` meets its contract. Assumes nothing.
use Rattle.std.proofs.Common.{Some}
use mathlib.Core.Path.{◌≡◌, sym, ap, ◌∙◌}
use mathlib.Core.Logic.{◌≢◌}
use borrow.Author.Tests.{eq-eqb, ne_eqb}
use Rattle.format.specs.Formats.{guard}
use Rattle.layout.specs.Places.{parity_member}
use Rattle.tag.specs.Blocks.{format_at}
use Rattle.tag.proofs.Guards.{carried-parity, own_data, guard-carried, guard-own}
use Rattle.stripe.specs.Stripes.{others_guards}
use Rattle.stripe.proofs.Carried.{fit-parity, fit_data}
use Rattle.stripe.proofs.Rooms.{parity_named}
use Rattle.stripe.proofs.Held.made_guard.Goals as goal

pub returns-then-member-self : goal.returns-then-member-self
returns-then-member-self c =
    let a = c.args in
    let s = a.self.now.stripe in
    let g = guard (format_at s.array) a.content.now in
    let here = c.if-member-self.true ∙ parity_named s.array s.number s.in_array s.seat s.seated in
    rw (fit-parity s.array s.number a.member a.self.now.bytes.now g here)
    (ap Some (c.stored_combined-others.ensures ∙ sym (guard-carried s.array s.number a.member _ g (carried-parity s.array s.number a.member c.requires here))))

pub returns-then-others-own : goal.returns-then-others-own
returns-then-others-own c =
    let a = c.args in
    let s = a.self.now.stripe in
    let g = guard (format_at s.array) a.content.now in
    let others = others_guards (format_at s.array) s.array.members a.member a.self.now.bytes.now in
    let apart : a.member ≢ parity_member s.array s.number = λ e. c.if-member-self.false (e ∙ sym (parity_named s.array s.number s.in_array s.seat s.seated)) in
    let own : c.from-own.result ≡ g = c.from-own.ensures ∙ c.guard.ensures in
    let same : others ≡ g = sym c.stored_combined-others.ensures ∙ c.if-others-own.true ∙ own in
    rw (fit_data s.array s.number a.member a.self.now.bytes.now g c.requires apart, eq-eqb others g same)
    (ap Some (own ∙ sym (guard-own s.array s.number a.member others g (own_data s.array s.number a.member apart))))

pub returns-else-others-own : goal.returns-else-others-own
returns-else-others-own c =
    let a = c.args in
    let s = a.self.now.stripe in
    let g = guard (format_at s.array) a.content.now in
    let others = others_guards (format_at s.array) s.array.members a.member a.self.now.bytes.now in
    let apart : a.member ≢ parity_member s.array s.number = λ e. c.if-member-self.false (e ∙ sym (parity_named s.array s.number s.in_array s.seat s.seated)) in
    let own : c.from-own.result ≡ g = c.from-own.ensures ∙ c.guard.ensures in
    rw (fit_data s.array s.number a.member a.self.now.bytes.now g c.requires apart, ne_eqb others g (λ e. c.if-others-own.false (c.stored_combined-others.ensures ∙ e ∙ sym own)))
