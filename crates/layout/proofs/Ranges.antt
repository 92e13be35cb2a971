-- From refusal numbers to ranges and back: 0 is answered exactly where every number handed in lies in its range,
-- and each other number exactly where its own test is the first that fails. Assumes nothing.
use Rattle.std.proofs.Common.{◌≡◌, ℕ, ◌%◌, ◌≤◌, Bool, true, false, not, ◌&&◌, leb, ◌≢◌, ◌↔◌, refl, arith, eq-eqb, eqb-true, le-leb, leb-true}
use Rattle.layout.specs.Answers.{refuse, or_past}
use Rattle.layout.specs.Arrays.{within, most_stripes, members_fit, stripes_fit, method_fit, divides, row_fit, array_refusal, block_count, stripe_refusal, block_refusal}
use Rattle.layout.specs.Places.{owner_refusal}
use Rattle.layout.specs.Ranges.{Sound, SoundStripe, SoundBlock, SoundPlace}
use Rattle.layout.specs.declared.Array.{Array}
use Rattle.layout.proofs.Answers.{refuse-none, or-past-none, none-or-past, or-past-number, number-or-past, or-past_else}
use Rattle.layout.proofs.Rows.{row_range}

pub both : (s t : Bool) → (s && t) ≡ true → (s ≡ true) × (t ≡ true)
both true t e = (refl, e)
both false t e = (e, (cc))

pub within_range : (low high x : ℕ) → within low high x ≡ true → (low ≤ x) × (x ≤ high)
within_range low high x e =
    let h = both (leb low x) (leb x high) e in
    (leb-true low x h.0, leb-true x high h.1)

pub range_within : (low high x : ℕ) → low ≤ x → x ≤ high → within low high x ≡ true
range_within low high x l h = rw (le-leb low x l, le-leb x high h)

-- ---- nothing is refused

pub array_sound : (a : Array) → array_refusal a ≡ 0 → Sound a
unfolding array_refusal
array_sound a e =
    let h = refuse-none (members_fit a) 0 (refuse (not (stripes_fit a)) 2 (refuse (not (method_fit a)) 12 (refuse (not (row_fit a)) 13 0))) e in
    let i = refuse-none (stripes_fit a) 1 (refuse (not (method_fit a)) 12 (refuse (not (row_fit a)) 13 0)) h.1 in
    let j = refuse-none (method_fit a) 11 (refuse (not (row_fit a)) 13 0) i.1 in
    let r = both (divides a.row 128) (divides a.row a.stripes) (refuse-none (row_fit a) 12 0 j.1).0 in
    let m = within_range 3 16 a.members h.0 in
    let s = within_range 1 most_stripes a.stripes i.0 in
    let k = within_range 1 3 a.method j.0 in
    let p = eqb-true (128 % a.row) 0 r.0 in
    record {
      few = m.0;
      many = m.1;
      some = s.0;
      most = s.1;
      method_least = k.0;
      method_most = k.1;
      row_some = (row_range a.row p).0;
      row_most = (row_range a.row p).1;
      row_power = p;
      row_whole = eqb-true (a.stripes % a.row) 0 r.1;
    }

pub sound_array : (a : Array) → Sound a → array_refusal a ≡ 0
unfolding array_refusal
sound_array a h =
    rw (
      range_within 3 16 a.members h.few h.many,
      range_within 1 most_stripes a.stripes h.some h.most,
      range_within 1 3 a.method h.method_least h.method_most,
      eq-eqb (128 % a.row) 0 h.row_power,
      eq-eqb (a.stripes % a.row) 0 h.row_whole,
    )

pub stripe_sound : (a : Array) (stripe : ℕ) → stripe_refusal a stripe ≡ 0 → SoundStripe a stripe
unfolding stripe_refusal
stripe_sound a stripe e =
    let h = or-past-none (array_refusal a) stripe a.stripes 2 e in
    record { array = array_sound a h.0; here = h.1 }

pub sound_stripe : (a : Array) (stripe : ℕ) → SoundStripe a stripe → stripe_refusal a stripe ≡ 0
unfolding stripe_refusal
sound_stripe a stripe h = none-or-past (array_refusal a) stripe a.stripes 3 (sound_array a h.array) h.here

pub block_sound : (a : Array) (block : ℕ) → block_refusal a block ≡ 0 → SoundBlock a block
unfolding block_refusal
block_sound a block e =
    let h = or-past-none (array_refusal a) block (block_count a) 2 e in
    record { array = array_sound a h.0; here = h.1 }

pub sound_block : (a : Array) (block : ℕ) → SoundBlock a block → block_refusal a block ≡ 0
unfolding block_refusal
sound_block a block h = none-or-past (array_refusal a) block (block_count a) 3 (sound_array a h.array) h.here

pub place_sound : (a : Array) (stripe member : ℕ) → owner_refusal a stripe member ≡ 0 → SoundPlace a stripe member
unfolding owner_refusal
place_sound a stripe member e =
    let h = or-past-none (stripe_refusal a stripe) member a.members 4 e in
    record { stripe = stripe_sound a stripe h.0; here = h.1 }

pub sound_place : (a : Array) (stripe member : ℕ) → SoundPlace a stripe member → owner_refusal a stripe member ≡ 0
unfolding owner_refusal
sound_place a stripe member h = none-or-past (stripe_refusal a stripe) member a.members 5 (sound_stripe a stripe h.stripe) h.here

-- ---- something is: each number exactly where its test fails and no earlier one does

-- the four tests in their order
abbrev in_order : Bool → Bool → Bool → Bool → ℕ
in_order m s k r = refuse (not m) 1 (refuse (not s) 2 (refuse (not k) 12 (refuse (not r) 13 0)))

pub members_refused : (a : Array) → (array_refusal a ≡ 1) ↔ (members_fit a ≡ false)
unfolding array_refusal
members_refused a = by_tests (members_fit a) (stripes_fit a) (method_fit a) (row_fit a)
  where
    by_tests : (m s k r : Bool) → (in_order m s k r ≡ 1) ↔ (m ≡ false)
    by_tests false s k r = (λ e. refl, λ e. refl)
    by_tests true false k r = (λ e. absurd (omega arith), λ e. (cc))
    by_tests true true false r = (λ e. absurd (omega arith), λ e. (cc))
    by_tests true true true false = (λ e. absurd (omega arith), λ e. (cc))
    by_tests true true true true = (λ e. absurd (omega arith), λ e. (cc))

pub stripes_refused : (a : Array) → (array_refusal a ≡ 2) ↔ ((members_fit a ≡ true) × (stripes_fit a ≡ false))
unfolding array_refusal
stripes_refused a = by_tests (members_fit a) (stripes_fit a) (method_fit a) (row_fit a)
  where
    by_tests : (m s k r : Bool) → (in_order m s k r ≡ 2) ↔ ((m ≡ true) × (s ≡ false))
    by_tests false s k r = (λ e. absurd (omega arith), λ e. (cc))
    by_tests true false k r = (λ e. (refl, refl), λ e. refl)
    by_tests true true false r = (λ e. absurd (omega arith), λ e. (cc))
    by_tests true true true false = (λ e. absurd (omega arith), λ e. (cc))
    by_tests true true true true = (λ e. absurd (omega arith), λ e. (cc))

pub method_refused : (a : Array) → (array_refusal a ≡ 12) ↔ ((members_fit a ≡ true) × (stripes_fit a ≡ true) × (method_fit a ≡ false))
unfolding array_refusal
method_refused a = by_tests (members_fit a) (stripes_fit a) (method_fit a) (row_fit a)
  where
    by_tests : (m s k r : Bool) → (in_order m s k r ≡ 12) ↔ ((m ≡ true) × (s ≡ true) × (k ≡ false))
    by_tests false s k r = (λ e. absurd (omega arith), λ e. (cc))
    by_tests true false k r = (λ e. absurd (omega arith), λ e. (cc))
    by_tests true true false r = (λ e. (refl, refl, refl), λ e. refl)
    by_tests true true true false = (λ e. absurd (omega arith), λ e. (cc))
    by_tests true true true true = (λ e. absurd (omega arith), λ e. (cc))

pub row_refused : (a : Array) → (array_refusal a ≡ 13) ↔ ((members_fit a ≡ true) × (stripes_fit a ≡ true) × (method_fit a ≡ true) × (row_fit a ≡ false))
unfolding array_refusal
row_refused a = by_tests (members_fit a) (stripes_fit a) (method_fit a) (row_fit a)
  where
    by_tests : (m s k r : Bool) → (in_order m s k r ≡ 13) ↔ ((m ≡ true) × (s ≡ true) × (k ≡ true) × (r ≡ false))
    by_tests false s k r = (λ e. absurd (omega arith), λ e. (cc))
    by_tests true false k r = (λ e. absurd (omega arith), λ e. (cc))
    by_tests true true false r = (λ e. absurd (omega arith), λ e. (cc))
    by_tests true true true false = (λ e. (refl, refl, refl, refl), λ e. refl)
    by_tests true true true true = (λ e. absurd (omega arith), λ e. (cc))

-- no other number is the array's own: later requests add numbers past 11
pub array_else : (a : Array) (n : ℕ) → 3 ≤ n → n ≤ 11 → array_refusal a ≢ n
unfolding array_refusal
array_else a n low high = by_tests (members_fit a) (stripes_fit a) (method_fit a) (row_fit a)
  where
    by_tests : (m s k r : Bool) → in_order m s k r ≢ n
    by_tests false s k r = omega arith
    by_tests true false k r = omega arith
    by_tests true true false r = omega arith
    by_tests true true true false = omega arith
    by_tests true true true true = omega arith

past_refused : (a : Array) (x end : ℕ) → (or_past (array_refusal a) x end 3 ≡ 3) ↔ (Sound a × (end ≤ x))
past_refused a x end = (
  λ e. let h = or-past-number (array_refusal a) x end 2 (array_else a 3 (omega arith) (omega arith)) e in (array_sound a h.0, h.1),
  λ h. number-or-past (array_refusal a) x end 3 (sound_array a h.0) h.1,
)

pub stripe_refused : (a : Array) (stripe : ℕ) → (stripe_refusal a stripe ≡ 3) ↔ (Sound a × (a.stripes ≤ stripe))
unfolding stripe_refusal
stripe_refused a stripe = past_refused a stripe a.stripes

pub block_refused : (a : Array) (block : ℕ) → (block_refusal a block ≡ 3) ↔ (Sound a × (block_count a ≤ block))
unfolding block_refusal
block_refused a block = past_refused a block (block_count a)

pub stripe_else : (a : Array) (stripe n : ℕ) → 4 ≤ n → n ≤ 11 → stripe_refusal a stripe ≢ n
unfolding stripe_refusal
stripe_else a stripe n low high =
    or-past_else (array_refusal a) stripe a.stripes 3 n (omega arith) (array_else a n (omega arith) high) (omega arith)

pub owner_else : (a : Array) (stripe member n : ℕ) → 6 ≤ n → n ≤ 11 → owner_refusal a stripe member ≢ n
unfolding owner_refusal
owner_else a stripe member n low high =
    or-past_else (stripe_refusal a stripe) member a.members 5 n (omega arith) (stripe_else a stripe n (omega arith) high) (omega arith)

pub member_refused : (a : Array) (stripe member : ℕ) → (owner_refusal a stripe member ≡ 5) ↔ (SoundStripe a stripe × (a.members ≤ member))
unfolding owner_refusal
member_refused a stripe member = (
  λ e.
      let h = or-past-number (stripe_refusal a stripe) member a.members 4 (stripe_else a stripe 5 (omega arith) (omega arith)) e in
      (stripe_sound a stripe h.0, h.1),
  λ h. number-or-past (stripe_refusal a stripe) member a.members 5 (sound_stripe a stripe h.0) h.1,
)
