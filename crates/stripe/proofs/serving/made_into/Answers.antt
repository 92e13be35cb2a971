-- `stripe::serving::made_into` meets its contract.
-- Assumes nothing.
use mathlib.Core.Path.{refl, sym, ap, ◌∙◌}
use mathlib.Core.Bool.{Bool, cond}
use Rattle.tag.specs.Blocks.{format_at}
use Rattle.stripe.specs.Stripes.{others_data}
use Rattle.stripe.proofs.Carried.{fit_plain}
use Rattle.stripe.proofs.Served.{cannot_good, serve_by_fit}
use Rattle.stripe.proofs.serving.made_into.Goals as goal

pub returns-then-not-others_good : goal.returns-then-not-others_good
returns-then-not-others_good c =
    let h = c.args.held.now in
    let cannot = cannot_good h.stripe.array h.stripe.number c.args.member h.bytes.now (sym c.others_good.ensures ∙ c.if-not-others_good.true) in record {
      value = sym cannot;
      out_after = rw cannot refl;
    }

pub returns-then-carries : goal.returns-then-carries
returns-then-carries c =
    let a = c.args in
    let h = a.held.now in
    let s = h.stripe in
    let decided = serve_by_fit s.array s.number a.member h.bytes.now (sym c.others_good.ensures ∙ c.if-not-others_good.false) in record {
      value = c.carried_into.ensures.value ∙ sym decided;
      out_after = c.carried_into.ensures.out_after ∙ ap (λ (b : Bool). cond b (others_data (format_at s.array) s.array.members a.member h.bytes.now) a.out.now) (sym decided);
    }

pub returns : goal.returns
returns c =
    let a = c.args in
    let h = a.held.now in
    let s = h.stripe in
    let decided = serve_by_fit s.array s.number a.member h.bytes.now (sym c.others_good.ensures ∙ c.if-not-others_good.false) in
    let can = decided ∙ fit_plain s.array s.number a.member h.bytes.now _ (sym c.carries.ensures ∙ c.if-carries.false) in record {
      value = sym can;
      out_after = rw can c.combined_into.ensures;
    }
