-- `castagnoli_fold::calls::lead` meets its contract.
-- Assumes nothing.
use mathlib.Core.Path.{◌∙◌}
use Rattle.castagnoli_fold.proofs.Leads.{led}
use Rattle.castagnoli_fold.proofs.calls.lead.Goals as goal

pub returns : goal.returns
returns c =
    led c.args.register c.args.w.now c.copy_from_slice.new.self c.requires.w_len c.requires.by_index (c.copy_from_slice.ensures.after ∙ c.to_le_bytes.ensures)
