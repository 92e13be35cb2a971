-- The declared state and the lent buffer of a scan that began with an accepted start: its numbers stay, what it holds follows from
-- the history, so that it is fit, and each call does what the machine does.
-- Assumes nothing.
use mathlib.Core.Path.{◌≡◌, refl, sym, ap, subst, ◌∙◌}
use mathlib.Core.Bool.{Bool, true, false, cond, ◌||◌}
use mathlib.Core.List.{List, [], map}
use Prim.Native.Nat.{ℕ, ◌-◌, ◌^◌, ◌≤◌, ◌<◌}
use native.Mathlib.Omega.{arith}
use lib.Dec.{eqb, ltb}
use borrow.Author.Tests.{eq-eqb, eqb-true, ltb-true, lt-ltb}
use lib.ListN.{length, get_or}
use Rattle.xor.proofs.Combination.{length-combination}
use Rattle.layout.specs.Answers.{refuse}
use Rattle.layout.specs.Arrays.{stripe_refusal}
use Rattle.layout.proofs.Answers.{refuse-none}
use Rattle.layout.proofs.Ranges.{stripe_sound}
use Rattle.layout.specs.declared.Array.{Array}
use Rattle.format.specs.Formats.{Format}
use Rattle.tag.specs.Blocks.{format_at, data_of}
use Rattle.format.proofs.Sizes.{none_kept}
use Rattle.stripe.specs.Formats.{register_of}
use Rattle.stripe.specs.Verdicts.{verdict, scrub_blocks}
use Rattle.scan.specs.declared.Scan.{Scan}
use Rattle.scan.specs.History.{piece, finish, kept}
use Rattle.scan.specs.Scans.{values_fit, waiting_fit, fit, piece_refusal, advanced, piece_state, piece_work, finish_refusal, finish_numbers, buffer}
use Rattle.scan.specs.Holding.{Held, Follows, held, Holds}
use Rattle.scan.specs.Machines.{taken, held_piece_number, held_answer, held_after}
use Rattle.scan.proofs.Pieces.{position_is}
use Rattle.scan.proofs.Fitness.{flag_table}
use Rattle.scan.proofs.Registers.{register-alone, register-held, held-advanced, advanced-array, advanced-stripe, advanced-values, advanced-narrow, advanced-waiters}
use Rattle.scan.proofs.Finishes.{positions-fit}
use Rattle.scan.proofs.Machine.{call_follows}

module _ (a : Array) (stripe : ℕ) (sound : stripe_refusal a stripe ≡ 0) (s : Scan) (w : List ℕ) (history : List (List ℕ)) (t : Holds a stripe s w history) where
  few : a.members ≤ 16
  few = (stripe_sound a stripe sound).array.many

  -- so no byte waits where none can
  waiting_right : (m : ℕ) → m < a.members → (eqb (get_or s.waiting m 0) 0 || (format_at a).waits (get_or s.at m 0)) ≡ true
  waiting_right m h = by_case ((format_at a).waits (get_or s.at m 0)) refl
    where
      or_true : (x : Bool) → (x || true) ≡ true
      or_true true = refl
      or_true false = refl

      position : get_or s.at m 0 ≡ length (get_or history m [])
      position = position_is (format_at a) a.members (held (format_at a) s w) history t.follows m [] h

      alone : (format_at a).waits (length (get_or history m [])) ≡ false → register_of (format_at a) (get_or history m []) < 256 ^ (format_at a).quarter
      alone e = register-alone (format_at a) (get_or history m []) e

      by_case : (x : Bool) → (format_at a).waits (get_or s.at m 0) ≡ x → (eqb (get_or s.waiting m 0) 0 || (format_at a).waits (get_or s.at m 0)) ≡ true
      by_case true e = ap (λ (y : Bool). eqb (get_or s.waiting m 0) 0 || y) e ∙ or_true (eqb (get_or s.waiting m 0) 0)
      by_case false e =
          let none = none_kept (format_at a) (get_or s.register m 0) (get_or s.waiting m 0) (rw (register-held (format_at a) s w history a.members t.follows few m h) (alone (ap (format_at a).waits (sym position) ∙ e))) in
          ap (λ (y : Bool). y || (format_at a).waits (get_or s.at m 0)) (eq-eqb (get_or s.waiting m 0) 0 none)

  waiting_all : waiting_fit (format_at a) a.members s.at s.waiting ≡ true
  waiting_all = flag_table a.members (λ m. eqb (get_or s.waiting m 0) 0 || (format_at a).waits (get_or s.at m 0)) waiting_right

  values-all : values_fit (format_at a) a.members s.register ≡ true
  values-all = flag_table a.members (λ m. ltb (get_or s.register m 0) (256 ^ (format_at a).quarter)) (λ m h. lt-ltb (get_or s.register m 0) (256 ^ (format_at a).quarter) (t.narrow m (omega (arith, few))))

  pub is_fit : fit s ≡ true
  unfolding fit
  is_fit =
      let F = format_at a in
      rw (t.array, t.place, sound, positions-fit F a.members (held F s w) history t.follows, values-all, waiting_all)

  pub work-long : length w ≡ (format_at a).data_length
  work-long = ap length t.follows.work_is ∙ length-combination (format_at a).data_length (map (data_of (format_at a)) history)

  work_right : eqb (length w) (format_at a).data_length ≡ true
  work_right = eq-eqb (length w) (format_at a).data_length work-long

  pub piece-refusal_is : (m : ℕ) (bytes : List ℕ) → piece_refusal s m (length bytes) (length w) ≡ held_piece_number (format_at a) a.members (held (format_at a) s w) m bytes
  unfolding piece_refusal
  piece-refusal_is m bytes = rw (is_fit, t.array, work_right)

  pub finish-numbers_are : finish_numbers s w ≡ held_answer (format_at a) a.members (verdict a stripe) (held (format_at a) s w) finish
  unfolding finish_numbers finish_refusal held_answer
  finish-numbers_are = rw (is_fit, t.array, work_right, t.place)

  pub piece-holds : (m : ℕ) (bytes : List ℕ) {s' : Scan} {w' : List ℕ} → s' ≡ piece_state s m bytes (length w) → w' ≡ piece_work s m bytes w
      → Holds a stripe s' w' (kept (format_at a).block_length a.members (scrub_blocks a stripe) history (piece m bytes))
  unfolding piece_state piece_work held_after
  piece-holds m bytes e f =
      rw (e, f, piece-refusal_is m bytes)
      (let flag = eqb (held_piece_number (format_at a) a.members (held (format_at a) s w) m bytes) 0 in
      record {
        array = same-array flag;
        place = same_place flag;
        values = same-values flag;
        narrow = same-narrow flag;
        waiters = same-waiters flag;
        follows = go flag refl (call_follows (format_at a) a.members (verdict a stripe) (held (format_at a) s w) history t.follows (piece m bytes));
      })
    where
      next : List (List ℕ)
      next = kept (format_at a).block_length a.members (scrub_blocks a stripe) history (piece m bytes)

      same-array : (f : Bool) → (cond f (advanced s m bytes) s).array ≡ a
      same-array true = advanced-array s m bytes ∙ t.array
      same-array false = t.array

      same_place : (f : Bool) → (cond f (advanced s m bytes) s).stripe ≡ stripe
      same_place true = advanced-stripe s m bytes ∙ t.place
      same_place false = t.place

      same-values : (f : Bool) → length (cond f (advanced s m bytes) s).register ≡ 16
      same-values true = advanced-values s m bytes ∙ t.values
      same-values false = t.values

      same-narrow : (f : Bool) → (k : ℕ) → k < 16 → get_or (cond f (advanced s m bytes) s).register k 0 < 256 ^ (format_at a).quarter
      same-narrow true =
          subst (λ (G : Format). (k : ℕ) → k < 16 → get_or (advanced s m bytes).register k 0 < 256 ^ G.quarter) (ap format_at t.array)
          (advanced-narrow s m bytes t.values (subst (λ (G : Format). (k : ℕ) → k < 16 → get_or s.register k 0 < 256 ^ G.quarter) (sym (ap format_at t.array)) t.narrow))
      same-narrow false = t.narrow

      same-waiters : (f : Bool) → length (cond f (advanced s m bytes) s).waiting ≡ 16
      same-waiters true = advanced-waiters s m bytes ∙ t.waiters
      same-waiters false = t.waiters

      -- an accepted piece is for one of the members
      inside : eqb (held_piece_number (format_at a) a.members (held (format_at a) s w) m bytes) 0 ≡ true → m < a.members
      inside e =
          ltb-true m a.members
          (refuse-none (ltb m a.members) 4 (refuse (ltb ((format_at a).block_length - get_or s.at m 0) (length bytes)) 7 0)
          (eqb-true (held_piece_number (format_at a) a.members (held (format_at a) s w) m bytes) 0 e)).0

      held_after_lem : m < a.members → held (format_at a) (advanced s m bytes) (buffer (format_at s.array) s.at w m bytes) ≡ taken (format_at a) (held (format_at a) s w) m bytes
      held_after_lem here =
          subst (λ (G : Format). held G (advanced s m bytes) (buffer (format_at s.array) s.at w m bytes) ≡ taken G (held G s w) m bytes) (ap format_at t.array)
          (held-advanced s w history a.members (subst (λ (G : Format). Follows G a.members (held G s w) history) (sym (ap format_at t.array)) t.follows) t.values t.waiters few m bytes here)

      go : (f : Bool) → eqb (held_piece_number (format_at a) a.members (held (format_at a) s w) m bytes) 0 ≡ f
          → Follows (format_at a) a.members (cond f (taken (format_at a) (held (format_at a) s w) m bytes) (held (format_at a) s w)) next
          → Follows (format_at a) a.members (held (format_at a) (cond f (advanced s m bytes) s) (cond f (buffer (format_at s.array) s.at w m bytes) w)) next
      go true e x = subst (λ (h : Held (format_at a)). Follows (format_at a) a.members h next) (sym (held_after_lem (inside e))) x
      go false e x = x
