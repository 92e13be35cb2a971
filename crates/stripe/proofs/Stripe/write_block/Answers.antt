-- `stripe::Stripe::write_block` meets its contract.
-- Assumes nothing.
use mathlib.Core.Path.{ap, ◌∙◌}
use Prim.Native.Nat.{ℕ}
use lib.Seq.{sets}
use Rattle.stripe.proofs.Blocks.{data_then_tag}
use Rattle.stripe.proofs.Stripe.write_block.Goals as goal

pub returns : goal.returns
returns c =
    let a = c.args in
    data_then_tag a.self.array a.self.number a.member a.guard a.bytes.now c.put.new.dst c.write_tag.new.bytes a.content.now
    c.requires.content_len (c.put.ensures ∙ ap (λ (k : ℕ). sets a.bytes.now k a.content.now) c.block_at.ensures) c.write_tag.ensures
