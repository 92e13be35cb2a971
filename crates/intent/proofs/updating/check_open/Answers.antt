-- `intent::updating::check_open` tells the first reason that holds. Assumes nothing.
use mathlib.Core.Path.{refl, ◌∙◌}
use Rattle.refusal.proofs.Passing.{passed_on}
use Rattle.layout.proofs.Answers.{after_reason}
use Rattle.layout.proofs.Ranges.{stripe_sound}
use Rattle.tag.specs.Blocks.{format_at}
use Rattle.intent.proofs.Calling.{passed, open_steps}
use Rattle.intent.proofs.updating.check_open.Goals as goal

pub returns-in_err-check_scrub : goal.returns-in_err-check_scrub
returns-in_err-check_scrub c =
    let a = c.args in
    passed_on _ _ c.from_residual.ensures.1 ∙ after_reason _ _ _ c.in_err-check_scrub.ensures
    ∙ open_steps a.array a.stripe a.content a.length a.log.now (format_at a.array).data_length c.requires refl c.told-log

pub returns-in_err-demand : goal.returns-in_err-demand
returns-in_err-demand c =
    let a = c.args in
    passed_on _ _ c.from_residual-in_err-demand.ensures.1 ∙ passed _ _ _ c.in_ok-check_scrub.ensures (after_reason _ _ _ c.in_err-demand.ensures)
    ∙ open_steps a.array a.stripe a.content a.length a.log.now c.data_length.result c.requires c.data_length.ensures c.told-log

pub check_entry-requires : goal.check_entry-requires
check_entry-requires c = (stripe_sound c.args.array c.args.stripe c.requires).here

pub returns : goal.returns
returns c =
    let a = c.args in
    passed _ _ _ c.in_ok-check_scrub.ensures (passed _ _ _ c.in_ok-demand.ensures c.check_entry.ensures)
    ∙ open_steps a.array a.stripe a.content a.length a.log.now c.data_length.result c.requires c.data_length.ensures c.told-log
