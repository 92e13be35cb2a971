-- One call of feed, wherever the report stands: it leads on, it uses a byte at least where there is one and there is room for a line,
-- and what it writes fits. Assumes nothing.
use mathlib.Core.Path.{◌≡◌, refl, sym, ap, ◌∙◌}
use mathlib.Core.List.{List, [], ◌∷◌, ◌++◌, append-nil}
use Prim.Native.Nat.{ℕ, zero, suc, ◌-◌, ◌%◌, ◌≤◌, ◌<◌, zero-le}
use native.Mathlib.Decide.{dec_lt}
use native.Mathlib.Omega.{arith}
use lib.ListN.{length, take, length-take}
use lib.Seq.{take-length}
use Rattle.layout.specs.declared.Array.{Array}
use Rattle.tag.specs.Blocks.{format_at}
use Rattle.lines.specs.declared.tally.Tally.{Tally}
use Rattle.lines.specs.Lines.{refused_line, line_room}
use Rattle.lines.specs.Headers.{header_size}
use Rattle.lines.proofs.Lines.{refused_line-fits}
use Rattle.report.specs.declared.Report.{Report}
use Rattle.report.specs.Reports.{ending}
use Rattle.report.specs.Feeding.{Step, idle, header_lacks, block_lacks, header_took, stripe_took, stage_step, feed_step}
use Rattle.report.proofs.Blocks.{rest-short}
use Rattle.report.proofs.Stages.{Stage, in_header, in_stripe, behind, over, to_say, Stands, Leads}
use Rattle.report.proofs.Beginning.{header_leads}
use Rattle.report.proofs.Choosing.{without_room, without_input, with_both, in_the_header, in_a_stripe, behind_the_last, when_over}
use Rattle.report.proofs.Striping.{is_fit, stripe_leads}

-- the part that a call uses is a first part of its input
pub record Feeds (g : Stage) (input : List ℕ) (room : ℕ) (st : Step) : Type 0 where
  pub to : Stage
  pub stands : Stands to st.state st.work
  pub says : (rest : List ℕ) → to_say g (take st.used input ++ rest) ≡ st.line ++ to_say to rest
  pub goes : line_room ≤ room → 0 < length input → 0 < st.used
  pub fits : length st.line ≤ room

-- a first part has as many bytes as it takes
take_of_take : (n : ℕ) (l : List ℕ) → take (length (take n l)) l ≡ take n l
take_of_take zero l = refl
take_of_take (suc n) [] = refl
take_of_take (suc n) (x ∷ l) = ap (λ (k : List ℕ). x ∷ k) (take_of_take n l)

one_too_many : (a : Array) (t : Tally) (bytes rest : List ℕ) → 0 < length bytes → ending a t (bytes ++ rest) ≡ refused_line 11
unfolding ending
one_too_many a t [] rest h = absurd (omega arith)
one_too_many a t (b ∷ bytes) rest h = refl

module _ (r : Report) (input w : List ℕ) (room : ℕ) where
  nothing-done : (g : Stage) → Stands g r w → (line_room ≤ room → 0 < length input → 0 < zero) → Feeds g input room (idle r w)
  nothing-done g q h = record { to = g; stands = q; says = λ rest. refl; goes = h; fits = zero-le }

  module _ (wide : line_room ≤ room) (some : 0 < length input) where
    -- from a step over the first n bytes
    over_first : (g : Stage) (n : ℕ) (st : Step) → 0 < n → Leads (λ rest. to_say g (take n input ++ rest)) (length (take n input)) st → Feeds g input room st
    over_first g n st h l =
        let front : take st.used input ≡ take n input = ap (λ (k : ℕ). take k input) l.uses ∙ take_of_take n input in
        let many : 0 < length (take n input) = simp length-take (omega arith) in
        record {
          to = l.to;
          stands = l.stands;
          says = λ rest. rw front (l.says rest);
          goes = λ _ _. rw l.uses many;
          fits = omega (arith, l.short);
        }

    -- by where it stands
    stage_feeds : (g : Stage) → Stands g r w → Feeds g input room (stage_step r input w)
    stage_feeds (in_header h) q =
        let lacks : header_lacks r ≡ header_size h - length h = rw (q.have, q.bytes) in
        rw (in_the_header r input w q.stage) (over_first (in_header h) (header_lacks r) (header_took r (take (header_lacks r) input) w)
        (rw lacks (omega (arith, q.short))) (header_leads h r w (take (header_lacks r) input) q (rw lacks (simp length-take (omega (arith, q.short))))))
    stage_feeds (in_stripe a stripe t h) q =
        let lacks : block_lacks r ≡ (format_at a).block_length - r.have % (format_at a).block_length =
        ap (λ (b : Array). (format_at b).block_length - r.have % (format_at b).block_length) q.scanned.array in
        rw (in_a_stripe r input w q.stage (is_fit a stripe t h r w q)) (over_first (in_stripe a stripe t h) (block_lacks r)
        (stripe_took r (take (block_lacks r) input) w) (omega (arith, rest-short (format_at r.scan.array) r.have))
        (stripe_leads a stripe t h r w q (take (block_lacks r) input) (simp length-take (omega (arith, lacks, rest-short (format_at a) r.have)))))
    stage_feeds (behind a t) q =
        rw (behind_the_last r input w q.stage) record {
          to = over;
          stands = refl;
          says = λ rest. rw (take-length input) (one_too_many a t input rest some ∙ sym (append-nil (refused_line 11)));
          goes = λ _ _. some;
          fits = omega (arith, refused_line-fits 11);
        }
    stage_feeds over q = rw (when_over r input w (omega arith)) record { to = over; stands = q; says = λ rest. refl; goes = λ _ _. some; fits = zero-le }

  pub feed_leads : (g : Stage) → Stands g r w → Feeds g input room (feed_step r input w room)
  feed_leads g q = go (dec_lt room line_room) (dec_lt 0 (length input))
    where
      go : Dec (room < line_room) → Dec (0 < length input) → Feeds g input room (feed_step r input w room)
      go (yes h) d = rw (without_room r input w room h) (nothing-done g q (λ wide some. absurd (omega arith)))
      go (no h) (no k) = rw (without_input r input w room (omega arith)) (nothing-done g q (λ wide some. absurd (omega arith)))
      go (no h) (yes k) = rw (with_both r input w room (omega arith) k) (stage_feeds (omega arith) k g q)
