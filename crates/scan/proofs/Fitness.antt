-- What a call that is not refused may count on, from its refusal number; and the loop over the first positions.
-- Assumes nothing.
use mathlib.Core.Path.{◌≡◌, refl, sym, ap, ◌∙◌}
use mathlib.Core.Bool.{Bool, true, false, not, cond, ◌&&◌, ◌||◌}
use mathlib.Core.List.{List, [], ◌∷◌, map}
use mathlib.Core.Logic.{◌≢◌}
use Prim.Native.Nat.{ℕ, zero, suc, ◌^◌, ◌≤◌, ◌<◌, zero-le, suc-le-suc}
use native.Mathlib.Nat.{le_of_suc-le-suc, not-suc-le-zero, zero-lt-suc}
use native.Mathlib.Decide.{ℕ_discrete, dec_lt}
use native.Mathlib.Omega.{arith}
use borrow.Author.Tests.{leb-true, le-leb, ltb-true, lt-ltb, eqb-true, eq-eqb, ne_eqb}
use lib.Dec.{leb, ltb, eqb}
use lib.ListN.{length, get_or, take, replicate, get_or-eq_default}
use Rattle.layout.specs.Answers.{refuse, after}
use Rattle.layout.specs.Arrays.{no_array, stripe_refusal}
use Rattle.layout.specs.declared.Array.{Array}
use Rattle.layout.proofs.Answers.{refuse-none}
use Rattle.layout.proofs.Ranges.{stripe_sound}
use Rattle.stripe.specs.Tables.{table, all}
use Rattle.stripe.proofs.Tables.{length-table, get_or-table}
use Rattle.stripe.proofs.Others.{all-at, at_all}
use Rattle.tag.specs.Blocks.{format_at}
use Rattle.scan.specs.declared.Scan.{Scan}
use Rattle.scan.specs.Scans.{
  start_refusal,
  empty_scan,
  start_state,
  start_work,
  values_fit,
  waiting_fit,
  fit,
  piece_refusal,
  advanced,
  piece_state,
  buffer,
  piece_work,
  finish_refusal,
}
use Rattle.scan.specs.Rows.{FitState}
use Rattle.scan.specs.Steps.{member_fit, members_fit, none_past, all_whole}
use Rattle.format.specs.Formats.{Format}

-- ---- flags over the first n elements of a list

both : (s t : Bool) → (s && t) ≡ true → (s ≡ true) × (t ≡ true)
both true t e = (refl, e)
both false t e = (e, (cc))

three : (x y z : Bool) → (x && y && z) ≡ true → (x ≡ true) × (y ≡ true) × (z ≡ true)
three x y z e = let h = both (x && y) z e in let k = both x y h.0 in (k.0, k.1, h.1)

-- a flag holds of all of them exactly if it holds at each place of the list below n
pub all_first : (f : ℕ → Bool) (l : List ℕ) (n : ℕ) → all (map f (take n l)) ≡ true → (i : ℕ) → i < n → i < length l → f (get_or l i 0) ≡ true
all_first f l zero e i h k = absurd (not-suc-le-zero h)
all_first f [] (suc n) e i h k = absurd (not-suc-le-zero k)
all_first f (x ∷ l) (suc n) e zero h k = (both (f x) (all (map f (take n l))) e).0
all_first f (x ∷ l) (suc n) e (suc i) h k = all_first f l n (both (f x) (all (map f (take n l))) e).1 i (le_of_suc-le-suc h) (le_of_suc-le-suc k)

pub first-all : (f : ℕ → Bool) (l : List ℕ) (n : ℕ) → ((i : ℕ) → i < n → i < length l → f (get_or l i 0) ≡ true) → all (map f (take n l)) ≡ true
first-all f l zero h = refl
first-all f [] (suc n) h = refl
first-all f (x ∷ l) (suc n) h =
    rw (h 0 (zero-lt-suc n) (zero-lt-suc (length l))) (first-all f l n (λ i a b. h (suc i) (suc-le-suc a) (suc-le-suc b)))

-- the same of a table of flags
module _ (n : ℕ) (f : ℕ → Bool) where
  pub table_flag : all (table n f) ≡ true → (i : ℕ) → i < n → f i ≡ true
  table_flag e i h = sym (get_or-table n f true i h) ∙ all-at (table n f) e i

  pub flag_table : ((i : ℕ) → i < n → f i ≡ true) → all (table n f) ≡ true
  flag_table h = at_all (table n f) (λ i l. let here : i < n = rw length-table at l in get_or-table n f true i here ∙ h i here)

-- ---- a choice by a refusal number

module _ {A : Type 0} (number : ℕ) (x y : A) where
  pub when_done : number ≡ 0 → cond (eqb number 0) x y ≡ x
  when_done e = rw e

  pub when_refused : number ≢ 0 → cond (eqb number 0) x y ≡ y
  when_refused h = rw (ne_eqb number 0 h)

-- ---- start

module _ (a : Array) (stripe : ℕ) (w : List ℕ) where
  started_long : start_refusal a stripe (length w) ≡ 0 → length w ≡ (format_at a).data_length
  unfolding start_refusal
  started_long = go (stripe_refusal a stripe)
    where
      go : (earlier : ℕ) → after earlier (refuse (not (eqb (length w) (format_at a).data_length)) 6 0) ≡ 0 → length w ≡ (format_at a).data_length
      go zero e = eqb-true (length w) (format_at a).data_length (refuse-none (eqb (length w) (format_at a).data_length) 5 0 e).0
      go (suc k) e = absurd (omega arith)

  pub started : start_refusal a stripe (length w) ≡ 0 → (s : Scan) (w' : List ℕ) → s ≡ empty_scan a stripe → w' ≡ replicate (length w) 0
      → (s ≡ start_state a stripe (length w)) × (w' ≡ start_work a stripe w)
  unfolding start_state start_work
  started none s w' e f = (
    e ∙ sym (when_done (start_refusal a stripe (length w)) (empty_scan a stripe) (empty_scan no_array 0) none),
    f ∙ ap (λ (n : ℕ). replicate n 0) (started_long none)
        ∙ sym (when_done (start_refusal a stripe (length w)) (replicate (format_at a).data_length 0) w none),
  )

  pub start_refused : start_refusal a stripe (length w) ≢ 0 → (s : Scan) → s ≡ empty_scan no_array 0
      → (s ≡ start_state a stripe (length w)) × (w ≡ start_work a stripe w)
  unfolding start_state start_work
  start_refused some s e = (
    e ∙ sym (when_refused (start_refusal a stripe (length w)) (empty_scan a stripe) (empty_scan no_array 0) some),
    sym (when_refused (start_refusal a stripe (length w)) (replicate (format_at a).data_length 0) w some),
  )

-- ---- the members one by one

module _ (F : Format) (n : ℕ) (at register waiting : List ℕ) where
  abbrev narrow : ℕ → Bool
  narrow m = ltb (get_or register m 0) (256 ^ F.quarter)

  abbrev alone : ℕ → Bool
  alone m = eqb (get_or waiting m 0) 0 || F.waits (get_or at m 0)

  abbrev stands : ℕ → Bool
  stands m = member_fit F (get_or at m 0) (get_or register m 0) (get_or waiting m 0)

  -- by their positions, by their values and by what waits, together
  pub members_by_parts : n ≤ length at → members_fit F n at register waiting ≡ (none_past F n at && values_fit F n register && waiting_fit F n at waiting)
  members_by_parts inside = alike (members_fit F n at register waiting) (none_past F n at && values_fit F n register && waiting_fit F n at waiting) there back
    where
      alike : (x y : Bool) → (x ≡ true → y ≡ true) → (y ≡ true → x ≡ true) → x ≡ y
      alike true y f g = sym (f refl)
      alike false true f g = g refl
      alike false false f g = refl

      joined : (x y z : Bool) → x ≡ true → y ≡ true → z ≡ true → (x && y && z) ≡ true
      joined x y z e f g = rw (e, f, g)

      there : members_fit F n at register waiting ≡ true → (none_past F n at && values_fit F n register && waiting_fit F n at waiting) ≡ true
      there e =
          let each : (i : ℕ) → i < n → (leb (get_or at i 0) F.block_length ≡ true) × (narrow i ≡ true) × (alone i ≡ true) =
          λ i h. three (leb (get_or at i 0) F.block_length) (narrow i) (alone i) (table_flag n stands e i h) in
          joined (none_past F n at) (values_fit F n register) (waiting_fit F n at waiting) (first-all (λ p. leb p F.block_length) at n (λ i h k. (each i h).0))
          (flag_table n narrow (λ i h. (each i h).1)) (flag_table n alone (λ i h. (each i h).2))

      back : (none_past F n at && values_fit F n register && waiting_fit F n at waiting) ≡ true → members_fit F n at register waiting ≡ true
      back e =
          let h = three (none_past F n at) (values_fit F n register) (waiting_fit F n at waiting) e in
          flag_table n stands
          (λ i k. joined (leb (get_or at i 0) F.block_length) (narrow i) (alone i) (all_first (λ p. leb p F.block_length) at n h.0 i k (omega arith)) (table_flag n narrow h.1 i k) (table_flag n alone h.2 i k))

  -- at once, where none of all sixteen is too far, none too great and none waits
  members-at-once : ((i : ℕ) → i < n → get_or at i 0 ≤ F.block_length) → ((i : ℕ) → i < n → get_or register i 0 < 256 ^ F.quarter) → ((i : ℕ) → i < n → get_or waiting i 0 ≡ 0)
      → members_fit F n at register waiting ≡ true
  members-at-once near small none =
      flag_table n stands (λ i h. rw (le-leb (get_or at i 0) F.block_length (near i h), lt-ltb (get_or register i 0) (256 ^ F.quarter) (small i h), none i h))

-- ---- a fit state

module _ (s : Scan) where
  pub numbers-unfit : stripe_refusal s.array s.stripe ≢ 0 → fit s ≡ false
  unfolding fit
  numbers-unfit h = rw (ne_eqb (stripe_refusal s.array s.stripe) 0 h)

  numbers_parts : stripe_refusal s.array s.stripe ≡ 0
      → fit s
      ≡ (none_past (format_at s.array) s.array.members s.at && values_fit (format_at s.array) s.array.members s.register
      && waiting_fit (format_at s.array) s.array.members s.at s.waiting)
  unfolding fit
  numbers_parts e = rw e

  pub numbers_fit : stripe_refusal s.array s.stripe ≡ 0 → s.array.members ≤ length s.at
      → members_fit (format_at s.array) s.array.members s.at s.register s.waiting ≡ fit s
  numbers_fit e inside = members_by_parts (format_at s.array) s.array.members s.at s.register s.waiting inside ∙ sym (numbers_parts e)

  -- told at once, where of all sixteen none is too far, none too great and none waits
  pub fit-told : ((i : ℕ) → i < 16 → get_or s.at i 0 ≤ (format_at s.array).block_length) → ((i : ℕ) → i < 16 → get_or s.register i 0 < 256 ^ (format_at s.array).quarter)
      → ((i : ℕ) → i < 16 → get_or s.waiting i 0 ≡ 0) → length s.at ≡ 16
      → eqb (stripe_refusal s.array s.stripe) 0 ≡ fit s
  fit-told near small none long = go (ℕ_discrete (stripe_refusal s.array s.stripe) 0)
    where
      go : Dec (stripe_refusal s.array s.stripe ≡ 0) → eqb (stripe_refusal s.array s.stripe) 0 ≡ fit s
      go (yes e) =
          let few = (stripe_sound s.array s.stripe e).array.many in
          eq-eqb (stripe_refusal s.array s.stripe) 0 e
          ∙ sym (members-at-once (format_at s.array) s.array.members s.at s.register s.waiting (λ i h. near i (omega arith)) (λ i h. small i (omega arith)) (λ i h. none i (omega arith)))
          ∙ numbers_fit e (omega arith)
      go (no h) = ne_eqb (stripe_refusal s.array s.stripe) 0 h ∙ sym (numbers-unfit h)

  pub fit-state : fit s ≡ true → FitState s
  unfolding fit
  fit-state e =
      let F = format_at s.array in
      let n = s.array.members in
      let sure = eqb (stripe_refusal s.array s.stripe) 0 in
      let g = both (sure && none_past F n s.at && values_fit F n s.register) (waiting_fit F n s.at s.waiting) e in
      let h = three sure (none_past F n s.at) (values_fit F n s.register) g.0 in
      let sound = eqb-true (stripe_refusal s.array s.stripe) 0 h.0 in
      record {
        numbers = sound;
        few = (stripe_sound s.array s.stripe sound).array.many;
        near = λ i k. near i k (dec_lt i (length s.at)) h.1;
        narrow = λ i k. ltb-true (get_or s.register i 0) (256 ^ F.quarter) (table_flag n (λ m. ltb (get_or s.register m 0) (256 ^ F.quarter)) h.2 i k);
        alone = λ i k w. alone i w (table_flag n (λ m. eqb (get_or s.waiting m 0) 0 || F.waits (get_or s.at m 0)) g.1 i k);
      }
    where
      near : (i : ℕ) → i < s.array.members → Dec (i < length s.at) → none_past (format_at s.array) s.array.members s.at ≡ true → get_or s.at i 0 ≤ (format_at s.array).block_length
      near i k (yes l) e = leb-true (get_or s.at i 0) (format_at s.array).block_length (all_first (λ p. leb p (format_at s.array).block_length) s.at s.array.members e i k l)
      near i k (no l) e = rw (get_or-eq_default s.at 0 {n = i} (omega arith)) zero-le

      or-first : (x y : Bool) → y ≡ false → (x || y) ≡ true → x ≡ true
      or-first true y p q = refl
      or-first false y p q = sym p ∙ q ∙ sym (let z : true ≡ false = sym q ∙ p in cc)

      alone : (i : ℕ) → (format_at s.array).waits (get_or s.at i 0) ≡ false → (eqb (get_or s.waiting i 0) 0 || (format_at s.array).waits (get_or s.at i 0)) ≡ true → get_or s.waiting i 0 ≡ 0
      alone i w e = eqb-true (get_or s.waiting i 0) 0 (or-first (eqb (get_or s.waiting i 0) 0) ((format_at s.array).waits (get_or s.at i 0)) w e)

-- ---- piece

module _ (s : Scan) (member : ℕ) (bytes w : List ℕ) where
  pub taken_in : piece_refusal s member (length bytes) (length w) ≡ 0 → (s' : Scan) (w' : List ℕ)
      → s' ≡ advanced s member bytes → w' ≡ buffer (format_at s.array) s.at w member bytes
      → (s' ≡ piece_state s member bytes (length w)) × (w' ≡ piece_work s member bytes w)
  unfolding piece_state piece_work
  taken_in none s' w' e f = (
    e ∙ sym (when_done (piece_refusal s member (length bytes) (length w)) (advanced s member bytes) s none),
    f ∙ sym (when_done (piece_refusal s member (length bytes) (length w)) (buffer (format_at s.array) s.at w member bytes) w none),
  )

  pub piece_refused : piece_refusal s member (length bytes) (length w) ≢ 0
      → (s ≡ piece_state s member bytes (length w)) × (w ≡ piece_work s member bytes w)
  unfolding piece_state piece_work
  piece_refused some = (
    sym (when_refused (piece_refusal s member (length bytes) (length w)) (advanced s member bytes) s some),
    sym (when_refused (piece_refusal s member (length bytes) (length w)) (buffer (format_at s.array) s.at w member bytes) w some),
  )

-- ---- finish

pub finish-fit : (s : Scan) (k : ℕ) → finish_refusal s k ≡ 0 → FitState s
unfolding finish_refusal
finish-fit s k e =
    fit-state s (refuse-none (fit s) 3 (refuse (not (eqb k (format_at s.array).data_length)) 6 (refuse (not (all_whole (format_at s.array) s.array.members s.at)) 8 0)) e).0
