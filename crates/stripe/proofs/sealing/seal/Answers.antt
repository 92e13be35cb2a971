-- `stripe::sealing::seal` meets its contract.
-- Assumes nothing.
use mathlib.Core.Path.{sym, ap₂, ◌∙◌}
use Prim.Native.Nat.{ℕ}
use lib.ListN.{length}
use Rattle.refusal.proofs.Passing.{number-some}
use Rattle.layout.specs.declared.Array.{Array}
use Rattle.stripe.specs.Jobs.{sealed}
use Rattle.stripe.proofs.Seals.{seal_fitting, seal_kept, seal_done}
use Rattle.stripe.proofs.sealing.seal.Goals as goal

pub returns-in_err-check_seal-clause-bytes_after : goal.returns-in_err-check_seal-clause-bytes_after
returns-in_err-check_seal-clause-bytes_after c =
    let a = c.args in
    seal_kept a.array a.stripe a.content.now a.bytes.now (λ z. number-some _ (c.in_err-check_seal.ensures ∙ z))

pub at-requires : goal.at-requires
at-requires c = let a = c.args in (seal_fitting a.array a.stripe (length a.content.now) (length a.bytes.now) (sym c.in_ok-check_seal.ensures)).stripe-good

pub write_all-requires : goal.write_all-requires
write_all-requires c =
    let a = c.args in
    let fits = seal_fitting a.array a.stripe (length a.content.now) (length a.bytes.now) (sym c.in_ok-check_seal.ensures) in record {
      content_len = rw c.at.ensures.array_kept fits.content_long;
      bytes_len = rw c.at.ensures.array_kept fits.stripe-long;
    }

pub returns-clause-bytes_after : goal.returns-clause-bytes_after
returns-clause-bytes_after c =
    let a = c.args in
    c.write_all.ensures ∙ ap₂ (λ (x : Array) (s : ℕ). sealed x s a.content.now) c.at.ensures.array_kept c.at.ensures.number_kept
    ∙ seal_done a.array a.stripe a.content.now a.bytes.now (sym c.in_ok-check_seal.ensures)
