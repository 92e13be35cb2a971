-- Which step a call of feed takes: none without room or input, else the one of its stage. Assumes nothing.
use mathlib.Core.Path.{◌≡◌, refl}
use mathlib.Core.Bool.{Bool, true, false, cond, ◌||◌}
use mathlib.Core.List.{List}
use Prim.Native.Nat.{ℕ, ◌≤◌, ◌<◌}
use native.Mathlib.Omega.{arith}
use borrow.Author.Tests.{lt-ltb, le-ltb, eq-eqb, ne_eqb}
use lib.Dec.{ltb}
use lib.ListN.{length, take}
use Rattle.lines.specs.Lines.{line_room}
use Rattle.report.specs.declared.Report.{Report}
use Rattle.report.specs.Feeding.{header_lacks, header_took, stripe_fit, block_lacks, stripe_took, idle, skipped, too_long, stage_step, feed_step}

module _ (r : Report) (input w : List ℕ) where
  module _ (room : ℕ) where
    pub without_room : room < line_room → feed_step r input w room ≡ idle r w
    unfolding feed_step
    without_room h = rw (lt-ltb room line_room h)

    pub without_input : length input ≡ 0 → feed_step r input w room ≡ idle r w
    unfolding feed_step
    without_input e = rw (eq-eqb (length input) 0 e) (either (ltb room line_room))
      where
        either : (t : Bool) → cond (t || true) (idle r w) (stage_step r input w) ≡ idle r w
        either true = refl
        either false = refl

    pub with_both : line_room ≤ room → 0 < length input → feed_step r input w room ≡ stage_step r input w
    unfolding feed_step
    with_both h some = rw (le-ltb room line_room h, ne_eqb (length input) 0 (λ e. omega arith))

  pub in_the_header : r.stage ≡ 0 → stage_step r input w ≡ header_took r (take (header_lacks r) input) w
  unfolding stage_step
  in_the_header e = rw (eq-eqb r.stage 0 e)

  pub in_a_stripe : r.stage ≡ 1 → stripe_fit r ≡ true → stage_step r input w ≡ stripe_took r (take (block_lacks r) input) w
  unfolding stage_step
  in_a_stripe e fit = rw (ne_eqb r.stage 0 (λ z. omega arith), eq-eqb r.stage 1 e, fit)

  pub behind_the_last : r.stage ≡ 2 → stage_step r input w ≡ too_long r input w
  unfolding stage_step
  behind_the_last e = rw (ne_eqb r.stage 0 (λ z. omega arith), ne_eqb r.stage 1 (λ z. omega arith), eq-eqb r.stage 2 e)

  pub when_over : 2 < r.stage → stage_step r input w ≡ skipped r input w
  unfolding stage_step
  when_over h = rw (ne_eqb r.stage 0 (λ z. omega arith), ne_eqb r.stage 1 (λ z. omega arith), ne_eqb r.stage 2 (λ z. omega arith))
