-- `stripe::updating::update` meets its contract: both stores of an update in part. Assumes nothing.
use mathlib.Core.Path.{◌∙◌}
use Rattle.stripe.proofs.InParts.{part-whole}
use Rattle.stripe.proofs.updating.update.Goals as goal

pub returns : goal.returns
returns c =
    let a = c.args in record {
      value = c.update_in_part.ensures.value;
      bytes_after = c.update_in_part.ensures.bytes_after ∙ part-whole a.array a.block a.content.now a.bytes.now;
    }
