-- `stripe::stored` meets its contract. Assumes nothing.
use mathlib.Core.Path.{ap₂}
use Prim.Native.Nat.{ℕ, ◌+◌}
use Rattle.format.specs.Methods.{format_of}
use Rattle.stripe.proofs.Checked.{stored_there}
use Rattle.stripe.proofs.stored.Goals as goal

pub returns : goal.returns
returns c =
    let a = c.args in
    stored_there (format_of a.method) a.member (c.block_at.result + c.data_length.result) c.quarter.result a.bytes.now
    (ap₂ (λ (x y : ℕ). x + y) c.block_at.ensures c.data_length.ensures) c.quarter.ensures c.fields_at.result
    c.fields_at.ensures.guard_value c.fields_at.ensures.application_value c.fields_at.ensures.reference_value
