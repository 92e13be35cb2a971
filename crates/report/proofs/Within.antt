-- What a call of feed uses and writes, from any state: no more bytes than its input has, and a line that fits; and a line of close fits.
-- Assumes nothing.
use mathlib.Core.Path.{◌≡◌, refl}
use mathlib.Core.Bool.{Bool, true, false}
use mathlib.Core.List.{List}
use Prim.Native.Nat.{ℕ, ◌+◌, ◌≤◌, ◌<◌, zero-le}
use native.Mathlib.Nat.{le_refl}
use native.Mathlib.Decide.{dec_lt}
use native.Mathlib.Omega.{arith}
use borrow.Author.Tests.{ltb-false}
use lib.Dec.{eqb, ltb}
use lib.ListN.{length, get_or, take, drop, length-take}
use Rattle.stripe.specs.Stripes.{stripe_length}
use Rattle.lines.specs.Lines.{line_room}
use Rattle.lines.specs.Headers.{header_size, array_in, header_refusal}
use Rattle.lines.proofs.Lines.{first-line-fits, stripe-line-fits, total_line-fits, refused_line-fits}
use Rattle.report.specs.declared.Report.{Report}
use Rattle.report.specs.Feeding.{Step, header_came, header_whole, header_held, header_took, header_lacks, stripe_fit, stripe_judged, stripe_whole, stripe_took, block_lacks, stage_step, feed_step, tally_of, close_line}
use Rattle.report.proofs.Choosing.{without_room, without_input, with_both}

pub record Within (most room : ℕ) (st : Step) : Type 0 where
  pub uses : st.used ≤ most
  pub fits : length st.line ≤ room

by_test : {P : Type 0} (test : Bool) → (test ≡ true → P) → (test ≡ false → P) → P
by_test true held failed = held refl
by_test false held failed = failed refl

header-whole-within : (used : ℕ) (r : Report) (w : List ℕ) → Within used line_room (header_whole used r w)
unfolding header_whole
header-whole-within used r w =
    by_test (eqb (header_refusal (header_came r)) 0) (λ e. rw e record { uses = le_refl used; fits = first-line-fits (array_in (header_came r)) })
    (λ e. rw e record { uses = le_refl used; fits = refused_line-fits (header_refusal (header_came r)) })

header-held-within : (used : ℕ) (r : Report) (w : List ℕ) → Within used line_room (header_held used r w)
unfolding header_held
header-held-within used r w =
    by_test (ltb r.have (header_size (header_came r))) (λ e. rw e record { uses = le_refl used; fits = zero-le })
    (λ e. rw e (header-whole-within used r w))

stripe-judged-within : (used : ℕ) (r : Report) (w verdict : List ℕ) → Within used line_room (stripe_judged used r w verdict)
unfolding stripe_judged
stripe-judged-within used r w verdict =
    let fits = stripe-line-fits r.scan.stripe verdict in
    by_test (ltb (r.scan.stripe + 1) r.scan.array.stripes) (λ e. rw e record { uses = le_refl used; fits = fits })
    (λ e. rw e record { uses = le_refl used; fits = fits })

stripe-whole-within : (used : ℕ) (r : Report) (w answer : List ℕ) → Within used line_room (stripe_whole used r w answer)
unfolding stripe_whole
stripe-whole-within used r w answer =
    by_test (eqb (get_or answer 0 0) 1) (λ e. rw e (stripe-judged-within used r w (drop 2 answer)))
    (λ e. rw e record { uses = le_refl used; fits = refused_line-fits (get_or answer 1 0) })

header-took-within : (r : Report) (bytes w : List ℕ) → Within (length bytes) line_room (header_took r bytes w)
unfolding header_took
header-took-within r bytes w = header-held-within (length bytes) _ w

stripe-took-within : (r : Report) (bytes w : List ℕ) → Within (length bytes) line_room (stripe_took r bytes w)
unfolding stripe_took
stripe-took-within r bytes w =
    by_test (ltb (r.have + length bytes) (stripe_length r.scan.array)) (λ e. rw e record { uses = le_refl (length bytes); fits = zero-le })
    (λ e. rw e (stripe-whole-within (length bytes) _ _ _))

module _ (r : Report) (input w : List ℕ) where
  -- of a first part no more is used than of the whole
  of_first : (n : ℕ) {st : Step} → Within (length (take n input)) line_room st → Within (length input) line_room st
  of_first n p =
      let few : length (take n input) ≤ length input = simp length-take (omega arith) in
      record { uses = omega (arith, p.uses); fits = p.fits }

  stage_within : Within (length input) line_room (stage_step r input w)
  unfolding stage_step
  stage_within =
      by_test (eqb r.stage 0) (λ e. rw e (of_first (header_lacks r) (header-took-within r (take (header_lacks r) input) w)))
      (λ header. by_test (eqb r.stage 1)
      (λ e. by_test (stripe_fit r) (λ fit. rw (header, e, fit) (of_first (block_lacks r) (stripe-took-within r (take (block_lacks r) input) w)))
      (λ unfit. rw (header, e, unfit) record { uses = le_refl (length input); fits = zero-le }))
      (λ stripes. by_test (eqb r.stage 2) (λ e. rw (header, stripes, e) record { uses = le_refl (length input); fits = refused_line-fits 11 })
      (λ e. rw (header, stripes, e) record { uses = le_refl (length input); fits = zero-le })))

  pub feed-within : (room : ℕ) → Within (length input) room (feed_step r input w room)
  feed-within room = go (dec_lt room line_room) (dec_lt 0 (length input))
    where
      go : Dec (room < line_room) → Dec (0 < length input) → Within (length input) room (feed_step r input w room)
      go (yes h) d = rw (without_room r input w room h) (record { uses = zero-le; fits = zero-le })
      go (no h) (no k) = rw (without_input r input w room (omega arith)) (record { uses = zero-le; fits = zero-le })
      go (no h) (yes k) =
          rw (with_both r input w room (omega arith) k) (record { uses = stage_within.uses; fits = omega (arith, stage_within.fits) })

pub close_fits : (r : Report) (room : ℕ) → length (close_line r room) ≤ room
unfolding close_line
close_fits r room =
    by_test (ltb room line_room) (λ narrow. rw narrow zero-le)
    (λ wide. let enough = ltb-false room line_room wide in
    by_test (eqb r.stage 0) (λ e. rw (wide, e) (omega (arith, refused_line-fits 10)))
    (λ header. by_test (eqb r.stage 1) (λ e. rw (wide, header, e) (omega (arith, refused_line-fits 11)))
    (λ stripes. by_test (eqb r.stage 2) (λ e. rw (wide, header, stripes, e) (omega (arith, total_line-fits r.scan.array (tally_of r))))
    (λ e. rw (wide, header, stripes, e) zero-le))))

pub closed-within : (r : Report) (room : ℕ) {written : ℕ} → written ≡ length (close_line r room) → written ≤ room
closed-within r room told = rw told (close_fits r room)
