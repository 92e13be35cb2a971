-- Each call of a scan gives a refusal number exactly where its row of the table holds (specs/Rows), and 0 exactly where none does.
-- A call's number has a row, found test by test; and a row gives its number. Assumes nothing.
use mathlib.Core.Path.{◌≡◌, refl, sym, ap, ◌∙◌}
use mathlib.Core.Bool.{Bool, true, false, not, ◌||◌, true≢false}
use mathlib.Core.Logic.{◌↔◌}
use Prim.Native.Nat.{ℕ, zero, suc, ◌-◌, ◌^◌, ◌≤◌, ◌<◌}
use native.Mathlib.Omega.{arith}
use borrow.Author.Tests.{le-leb, ltb-true, ltb-false, lt-ltb, le-ltb, eqb-true, eqb-false, eq-eqb, ne_eqb}
use lib.Dec.{leb, ltb, eqb}
use lib.ListN.{length, get_or}
use Rattle.layout.specs.Answers.{refuse, after}
use Rattle.layout.specs.Arrays.{stripe_refusal}
use Rattle.layout.specs.declared.Array.{Array}
use Rattle.layout.proofs.Answers.{after_refused}
use Rattle.tag.specs.Blocks.{format_at}
use Rattle.scan.specs.declared.Scan.{Scan}
use Rattle.scan.specs.Scans.{start_refusal, fit, piece_refusal, finish_refusal}
use Rattle.scan.specs.Rows.{FitState, Accepted, AllWhole, StartRow, PieceRow, FinishRow, out_of_range, unfit, no_member, other_length, too_long, too_early, done}
use Rattle.scan.specs.Steps.{all_whole}
use Rattle.scan.proofs.Fitness.{all_first, first-all, flag_table, fit-state}

-- a test that fails, from what it asks for
module _ {P : Type 0} (flag : Bool) (means : (flag ≡ true) ↔ P) where
  fails : flag ≡ false → ¬ P
  fails e h = true≢false (sym (means.1 h) ∙ e)

  failed : ¬ P → flag ≡ false
  failed h = go flag refl
    where
      go : (f : Bool) → flag ≡ f → f ≡ false
      go true e = absurd (h (means.0 e))
      go false e = refl

-- ---- a fit state

module _ (s : Scan) where
  state-fit : FitState s → fit s ≡ true
  unfolding fit
  state-fit h =
      let F = format_at s.array in
      rw (
        h.numbers,
        first-all (λ p. leb p F.block_length) s.at s.array.members (λ i k l. le-leb (get_or s.at i 0) F.block_length (h.near i k)),
        flag_table s.array.members (λ m. ltb (get_or s.register m 0) (256 ^ F.quarter)) (λ i k. lt-ltb (get_or s.register i 0) (256 ^ F.quarter) (h.narrow i k)),
        flag_table s.array.members (λ m. eqb (get_or s.waiting m 0) 0 || F.waits (get_or s.at m 0))
            (λ i k. may_wait_lem (get_or s.waiting i 0) (F.waits (get_or s.at i 0)) refl (h.alone i k)),
      )
    where
      may_wait_lem : (w : ℕ) (x : Bool) {y : Bool} → y ≡ x → (y ≡ false → w ≡ 0) → (eqb w 0 || y) ≡ true
      may_wait_lem w true e a = ap (λ (z : Bool). eqb w 0 || z) e ∙ or_true (eqb w 0)
        where
          or_true : (z : Bool) → (z || true) ≡ true
          or_true true = refl
          or_true false = refl
      may_wait_lem w false {y} e a = ap (λ (z : Bool). z || y) (eq-eqb w 0 (a e))

  pub fit_exactly : (fit s ≡ true) ↔ FitState s
  fit_exactly = (fit-state s, state-fit)

  whole_exactly : s.array.members ≤ length s.at → (all_whole (format_at s.array) s.array.members s.at ≡ true) ↔ AllWhole s
  whole_exactly long = (
    λ e i h. eqb-true (get_or s.at i 0) (format_at s.array).block_length (all_first (λ p. eqb p (format_at s.array).block_length) s.at s.array.members e i h (omega arith)),
    λ w. first-all (λ p. eqb p (format_at s.array).block_length) s.at s.array.members (λ i h k. eq-eqb (get_or s.at i 0) (format_at s.array).block_length (w i h)),
  )

-- ---- start

module _ (a : Array) (stripe workBytes : ℕ) where
  start_row : StartRow a stripe workBytes (start_refusal a stripe workBytes)
  unfolding start_refusal
  start_row = go (stripe_refusal a stripe) refl (eqb workBytes (format_at a).data_length) refl
    where
      go : (earlier : ℕ) → stripe_refusal a stripe ≡ earlier → (l : Bool) → eqb workBytes (format_at a).data_length ≡ l
          → StartRow a stripe workBytes (after earlier (refuse (not l) 6 0))
      go zero e true d = done e (eqb-true workBytes (format_at a).data_length d)
      go zero e false d = other_length e (eqb-false workBytes (format_at a).data_length d)
      go (suc k) e l d =
          let row : StartRow a stripe workBytes (stripe_refusal a stripe) = out_of_range (λ q. omega arith) in
          rw e at row

  row_start : {number : ℕ} → StartRow a stripe workBytes number → start_refusal a stripe workBytes ≡ number
  unfolding start_refusal
  row_start (out_of_range h) = after_refused (stripe_refusal a stripe) (refuse (not (eqb workBytes (format_at a).data_length)) 6 0) h
  row_start (other_length e h) = rw (e, ne_eqb workBytes (format_at a).data_length h)
  row_start (done e h) = rw (e, eq-eqb workBytes (format_at a).data_length h)

  pub start_refused_exactly : (number : ℕ) → (start_refusal a stripe workBytes ≡ number) ↔ StartRow a stripe workBytes number
  start_refused_exactly number = (λ e. rw e at start_row, row_start)

-- ---- piece

module _ (s : Scan) (member pieceBytes workBytes : ℕ) where
  piece_row : PieceRow s member pieceBytes workBytes (piece_refusal s member pieceBytes workBytes)
  unfolding piece_refusal
  piece_row =
      go (fit s) refl (ltb member s.array.members) refl (eqb workBytes (format_at s.array).data_length) refl (ltb ((format_at s.array).block_length - get_or s.at member 0) pieceBytes) refl
    where
      go : (f : Bool) → fit s ≡ f → (m : Bool) → ltb member s.array.members ≡ m → (l : Bool) → eqb workBytes (format_at s.array).data_length ≡ l
          → (p : Bool) → ltb ((format_at s.array).block_length - get_or s.at member 0) pieceBytes ≡ p
          → PieceRow s member pieceBytes workBytes (refuse (not f) 4 (refuse (not m) 5 (refuse (not l) 6 (refuse p 7 0))))
      go false e m n l d p q = unfit (fails (fit s) (fit_exactly s) e)
      go true e false n l d p q = no_member (fit-state s e) (ltb-false member s.array.members n)
      go true e true n false d p q = other_length (fit-state s e) (ltb-true member s.array.members n) (eqb-false workBytes (format_at s.array).data_length d)
      go true e true n true d true q =
          too_long (fit-state s e) (ltb-true member s.array.members n) (eqb-true workBytes (format_at s.array).data_length d)
          (omega (arith, ltb-true ((format_at s.array).block_length - get_or s.at member 0) pieceBytes q))
      go true e true n true d false q =
          let state = fit-state s e in
          let here = ltb-true member s.array.members n in
          done (record {
            state = state;
            here = here;
            long = eqb-true workBytes (format_at s.array).data_length d;
            room = omega (arith, state.near member here, ltb-false ((format_at s.array).block_length - get_or s.at member 0) pieceBytes q);
          })

  row_piece : {number : ℕ} → PieceRow s member pieceBytes workBytes number → piece_refusal s member pieceBytes workBytes ≡ number
  unfolding piece_refusal
  row_piece (unfit h) = rw (failed (fit s) (fit_exactly s) h)
  row_piece (no_member f h) = rw (state-fit s f, le-ltb member s.array.members h)
  row_piece (other_length f m h) = rw (state-fit s f, lt-ltb member s.array.members m, ne_eqb workBytes (format_at s.array).data_length h)
  row_piece (too_long f m l h) =
      let past : ltb ((format_at s.array).block_length - get_or s.at member 0) pieceBytes ≡ true = lt-ltb ((format_at s.array).block_length - get_or s.at member 0) pieceBytes (omega (arith, f.near member m)) in
      rw (state-fit s f, lt-ltb member s.array.members m, eq-eqb workBytes (format_at s.array).data_length l, past)
  row_piece (done h) =
      let room : ltb ((format_at s.array).block_length - get_or s.at member 0) pieceBytes ≡ false = le-ltb ((format_at s.array).block_length - get_or s.at member 0) pieceBytes (omega (arith, h.room)) in
      rw (state-fit s h.state, lt-ltb member s.array.members h.here, eq-eqb workBytes (format_at s.array).data_length h.long, room)

  pub piece_refused_exactly : (number : ℕ) → (piece_refusal s member pieceBytes workBytes ≡ number) ↔ PieceRow s member pieceBytes workBytes number
  piece_refused_exactly number = (λ e. rw e at piece_row, row_piece)

  pub accepted : piece_refusal s member pieceBytes workBytes ≡ 0 → Accepted s member pieceBytes workBytes
  accepted e = taken ((piece_refused_exactly 0).0 e)
    where
      taken : PieceRow s member pieceBytes workBytes 0 → Accepted s member pieceBytes workBytes
      taken (done h) = h

  -- its member is one of the sixteen
  pub accepted_few : piece_refusal s member pieceBytes workBytes ≡ 0 → member < 16
  accepted_few e = let h = accepted e in omega (arith, h.here, h.state.few)

-- ---- finish: of a state with sixteen positions, as every state of the code has

module _ (s : Scan) (sixteen : length s.at ≡ 16) (workBytes : ℕ) where
  finish_row : FinishRow s workBytes (finish_refusal s workBytes)
  unfolding finish_refusal
  finish_row = go (fit s) refl (eqb workBytes (format_at s.array).data_length) refl (all_whole (format_at s.array) s.array.members s.at) refl
    where
      go : (f : Bool) → fit s ≡ f → (l : Bool) → eqb workBytes (format_at s.array).data_length ≡ l → (w : Bool) → all_whole (format_at s.array) s.array.members s.at ≡ w
          → FinishRow s workBytes (refuse (not f) 4 (refuse (not l) 6 (refuse (not w) 8 0)))
      go false e l d w q = unfit (fails (fit s) (fit_exactly s) e)
      go true e false d w q = other_length (fit-state s e) (eqb-false workBytes (format_at s.array).data_length d)
      go true e true d false q =
          let state = fit-state s e in
          too_early state (eqb-true workBytes (format_at s.array).data_length d) (fails (all_whole (format_at s.array) s.array.members s.at) (whole_exactly s (omega (arith, state.few, sixteen))) q)
      go true e true d true q =
          let state = fit-state s e in
          done state (eqb-true workBytes (format_at s.array).data_length d) ((whole_exactly s (omega (arith, state.few, sixteen))).0 q)

  row_finish : {number : ℕ} → FinishRow s workBytes number → finish_refusal s workBytes ≡ number
  unfolding finish_refusal
  row_finish (unfit h) = rw (failed (fit s) (fit_exactly s) h)
  row_finish (other_length f h) = rw (state-fit s f, ne_eqb workBytes (format_at s.array).data_length h)
  row_finish (too_early f l h) =
      let some = failed (all_whole (format_at s.array) s.array.members s.at) (whole_exactly s (omega (arith, f.few, sixteen))) h in
      rw (state-fit s f, eq-eqb workBytes (format_at s.array).data_length l, some)
  row_finish (done f l h) =
      let all-stand = (whole_exactly s (omega (arith, f.few, sixteen))).1 h in
      rw (state-fit s f, eq-eqb workBytes (format_at s.array).data_length l, all-stand)

  pub finish_refused_exactly : (number : ℕ) → (finish_refusal s workBytes ≡ number) ↔ FinishRow s workBytes number
  finish_refused_exactly number = (λ e. rw e at finish_row, row_finish)
