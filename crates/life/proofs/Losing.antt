-- A loss at any time: the lost member's place holds what checks bad, and all others what they held. Assumes nothing.
use mathlib.Core.Path.{◌≡◌, sym, ap, ◌∙◌, subst}
use mathlib.Core.Logic.{◌≢◌}
use mathlib.Core.Bool.{true}
use mathlib.Core.List.{List}
use Prim.Native.Nat.{ℕ, ◌*◌, ◌<◌}
use native.Mathlib.Omega.{arith}
use borrow.Author.Tests.{eqb-true, eqb-false}
use lib.Seq.{length-sets}
use Rattle.layout.specs.declared.Array.{Array}
use Rattle.format.proofs.Sizes.{times-next}
use Rattle.tag.specs.Blocks.{format_at}
use Rattle.tag.specs.Tags.{bad}
use Rattle.stripe.specs.Stripes.{block_of}
use Rattle.stripe.specs.Jobs.{with_block}
use Rattle.stripe.proofs.Blocks.{block_written, block-kept}
use Rattle.life.specs.Ledger.{Standing, lacks, Loss}
use Rattle.life.proofs.Stands.{others-there, Stands}

pub loss_stands : (a : Array) (stripe : ℕ) {contents : List (List ℕ)} {s : Standing} {bytes : List ℕ} → Stands a stripe contents s bytes
    → (member : ℕ) (block : List ℕ) → Loss a stripe s member block → Stands a stripe contents (lacks member) (with_block (format_at a) bytes member block)
loss_stands a stripe {s = s} {bytes = bytes} st member block loss =
    record {
      content = st.content;
      content_long = st.content_long;
      kept = st.kept;
      long = length-sets bytes ((format_at a).block_length * member) block ∙ st.long;
      there = λ m h e. let apart : m ≢ member = eqb-false m member e in
          block-kept (format_at a) bytes member m block loss.size apart ∙ st.there m h (others-there s member loss.alone m apart);
      lost_in = λ m e. subst (λ (k : ℕ). k < a.members) (sym (eqb-true m member e)) loss.here;
      lost-bad = λ m e. subst (λ (k : ℕ). bad a stripe k (block_of (format_at a) (with_block (format_at a) bytes member block) k) ≡ true) (sym (eqb-true m member e)) struck;
    }
  where
    struck : bad a stripe member (block_of (format_at a) (with_block (format_at a) bytes member block) member) ≡ true
    struck =
        ap (bad a stripe member)
        (block_written (format_at a) bytes member block loss.size (omega (arith, st.long, times-next (format_at a).block_length member a.members loss.here)))
        ∙ loss.checks_bad
