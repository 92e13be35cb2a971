-- A stripe whose bytes come in order, by the scan: after its start, and after each piece within one block, the scan holds what the bytes
-- so far make, and once the stripe is whole its verdict is the full scrub's. The scan is lent the front of the work buffer.
-- Assumes nothing.
use mathlib.Core.Path.{◌≡◌, refl, sym, ap, ◌∙◌, subst}
use mathlib.Core.List.{List, [], ◌∷◌, ◌++◌}
use Prim.Native.Nat.{ℕ, ◌+◌, ◌*◌, ◌≤◌, ◌<◌}
use native.Mathlib.Omega.{arith}
use borrow.Author.Tests.{eq-eqb}
use lib.ListN.{length, get_or, length-take}
use lib.Seq.{length-sets}
use Rattle.layout.specs.Answers.{answer}
use Rattle.layout.specs.Arrays.{stripe_refusal}
use Rattle.layout.specs.declared.Array.{Array}
use Rattle.tag.specs.Blocks.{format_at}
use Rattle.stripe.specs.Tables.{table}
use Rattle.stripe.specs.Stripes.{stripe_length, block_of}
use Rattle.stripe.specs.Verdicts.{verdict, scrub_blocks}
use Rattle.stripe.proofs.Tables.{length-table}
use Rattle.scan.specs.declared.Scan.{Scan}
use Rattle.scan.specs.History.{finish, answer_to}
use Rattle.scan.specs.Scans.{start_refusal, start_state, start_work, piece_state, piece_work, finish_numbers}
use Rattle.scan.specs.Holding.{held, Holds}
use Rattle.scan.proofs.Refusals.{verdicts_even}
use Rattle.scan.proofs.Machine.{call_answered}
use Rattle.scan.proofs.States.{finish-numbers_are, piece-holds, work-long}
use Rattle.scan.proofs.Starts.{start-holds}
use Rattle.scan.proofs.Feeding.{finish-answers}
use Rattle.report.specs.Reports.{verdict_of}
use Rattle.report.specs.Feeding.{work_length, front, fronted, begun_scan, begun_work, took_scan, took_work, judgement}
use Rattle.report.proofs.Storing.{written-there}
use Rattle.report.proofs.Filling.{begun-blocks, blocks-whole, blocks-kept}

-- the scan of a stripe of which these bytes have come
abbrev pub Scanned : Array → ℕ → List ℕ → Scan → List ℕ → Type 0
Scanned a stripe bytes s w = Holds a stripe s (front a w) (table a.members (block_of (format_at a) bytes))

-- ---- the front of a work buffer

module _ (a : Array) (w : List ℕ) (long : length w ≡ work_length) where
  front_long : length (front a w) ≡ (format_at a).data_length
  front_long = let F = format_at a in simp length-take (omega (arith, F.data_most))

  -- what is put there is there
  front-there : (y : List ℕ) → length y ≡ (format_at a).data_length → front a (fronted w y) ≡ y
  front-there y e = let F = format_at a in rw (← e) (written-there w y (omega (arith, F.data_most)))

pub fronted-long : (w y : List ℕ) → length w ≡ work_length → length (fronted w y) ≡ work_length
fronted-long w y long = length-sets w 0 y ∙ long

module _ (a : Array) (stripe : ℕ) (sound : stripe_refusal a stripe ≡ 0) where
  -- these bytes of the stripe, held in a work buffer of just the data's length
  abbrev HeldIn : List ℕ → Scan → List ℕ → Type 0
  HeldIn bytes s work = Holds a stripe s work (table a.members (block_of (format_at a) bytes))

  starts : (old : List ℕ) → length old ≡ (format_at a).data_length → HeldIn [] (start_state a stripe (length old)) (start_work a stripe old)
  unfolding start_refusal
  starts old long =
      subst (λ (history : List (List ℕ)). Holds a stripe (start_state a stripe (length old)) (start_work a stripe old) history)
      (begun-blocks (format_at a).block_length a.members) (start-holds a stripe old accepted refl refl)
    where
      accepted : start_refusal a stripe (length old) ≡ 0
      accepted = rw (sound, eq-eqb (length old) (format_at a).data_length long)

  held-long : (s : Scan) (work h : List ℕ) → HeldIn h s work → length work ≡ (format_at a).data_length
  held-long s work h t = work-long a stripe sound s work (table a.members (block_of (format_at a) h)) t

  -- what a call left in the front is what the scan holds
  behind-front : (s : Scan) (w y h : List ℕ) → length w ≡ work_length → HeldIn h s y → Scanned a stripe h s (fronted w y)
  behind-front s w y h long t =
      subst (λ (work : List ℕ). HeldIn h s work) (sym (front-there a w long y (held-long s y h t))) t

  module _ (w : List ℕ) (long : length w ≡ work_length) where
    pub scan_starts : Scanned a stripe [] (begun_scan a stripe w) (begun_work a stripe w)
    scan_starts = behind-front (begun_scan a stripe w) w _ [] long (starts (front a w) (front_long a w long))

    module _ (s : Scan) (h : List ℕ) (t : Scanned a stripe h s w) where
      pub scan_goes_on : (x : List ℕ) (m p : ℕ) → length h ≡ (format_at a).block_length * m + p → p + length x ≤ (format_at a).block_length → m < a.members
          → Scanned a stripe (h ++ x) (took_scan s m x w) (took_work s m x w)
      scan_goes_on x m p at room l =
          let f = front a w in
          let next : HeldIn (h ++ x) (piece_state s m x (length f)) (piece_work s m x f) =
          subst (λ (history : List (List ℕ)). Holds a stripe (piece_state s m x (length f)) (piece_work s m x f) history)
          (blocks-kept (format_at a).block_length h x m p at room a.members (scrub_blocks a stripe) l)
          (piece-holds a stripe sound s f (table a.members (block_of (format_at a) h)) t m x refl refl) in
          subst (λ (b : Array). Scanned a stripe (h ++ x) (piece_state s m x (length (front b w))) (fronted w (piece_work s m x (front b w)))) (sym t.array)
          (behind-front (piece_state s m x (length f)) w (piece_work s m x f) (h ++ x) long next)

      pub scan_judges : length h ≡ stripe_length a → judgement s w ≡ 1 ∷ 0 ∷ verdict_of a stripe h
      scan_judges e =
          let blocks = table a.members (block_of (format_at a) h) in
          let all : (i : ℕ) → i < length blocks → length (get_or blocks i []) ≡ (format_at a).block_length =
          λ i l. blocks-whole (format_at a).block_length a.members h e i (rw (length-table a.members (block_of (format_at a) h)) at l) in
          let last = finish-answers (format_at a).block_length a.members (scrub_blocks a stripe) blocks all in
          let told : answer_to (format_at a).block_length a.members (scrub_blocks a stripe) blocks finish ≡ answer 0 (scrub_blocks a stripe blocks) = cc last in
          ap (λ (b : Array). finish_numbers s (front b w)) t.array
          ∙ finish-numbers_are a stripe sound s (front a w) blocks t
          ∙ call_answered (format_at a) a.members (verdict a stripe) (held (format_at a) s (front a w)) blocks t.follows (verdicts_even a stripe) finish ∙ told
