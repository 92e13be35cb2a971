-- What a fit state within the stripes says: ranges of its numbers, and that they stay small. Assumes nothing.
use mathlib.Core.Path.{◌≡◌, refl, ap, ◌∙◌}
use mathlib.Core.Bool.{Bool, true, false, cond, ◌&&◌}
use mathlib.Core.Logic.{◌≢◌}
use mathlib.Core.List.{List}
use Prim.Native.Nat.{ℕ, ◌+◌, ◌≤◌, ◌<◌}
use native.Mathlib.Omega.{arith}
use borrow.Author.Tests.{ltb-true, leb-true, eqb-true, lt-ltb, le-ltb, eq-eqb, ne_eqb}
use lib.Dec.{leb, ltb, eqb}
use lib.ListN.{length}
use Rattle.layout.specs.Arrays.{most_stripes, stripe_refusal}
use Rattle.layout.proofs.Ranges.{stripe_sound}
use Rattle.stripe.specs.Stripes.{stripe_length}
use Rattle.scan.specs.declared.Scan.{Scan}
use Rattle.scan.specs.Scans.{piece_refusal, advanced, piece_state}
use Rattle.report.specs.declared.Report.{Report}
use Rattle.report.specs.Feeding.{holding, stripe_fit}

both : (s t : Bool) → (s && t) ≡ true → (s ≡ true) × (t ≡ true)
both true t e = (refl, e)
both false t e = (e, (cc))

pub record Fit (r : Report) : Type 0 where
  pub sound : stripe_refusal r.scan.array r.scan.stripe ≡ 0
  pub members : r.scan.array.members ≤ 16
  pub short : r.have < stripe_length r.scan.array
  pub stripe : r.scan.stripe ≤ most_stripes
  pub clean : r.tally.clean ≤ r.scan.stripe
  pub bad : r.tally.bad ≤ r.scan.stripe
  pub unchecked : r.tally.unchecked ≤ r.scan.stripe
  pub torn : r.tally.torn ≤ r.scan.stripe

module _ (r : Report) where
  abbrev sound_test : Bool
  sound_test = eqb (stripe_refusal r.scan.array r.scan.stripe) 0

  abbrev short_test : Bool
  short_test = ltb r.have (stripe_length r.scan.array)

  abbrev few_tests : Bool
  few_tests = leb r.tally.clean r.scan.stripe && leb r.tally.bad r.scan.stripe && leb r.tally.unchecked r.scan.stripe && leb r.tally.torn r.scan.stripe

  -- the tests, one after the other
  pub out_of_range : stripe_refusal r.scan.array r.scan.stripe ≢ 0 → stripe_fit r ≡ false
  unfolding stripe_fit
  out_of_range h = rw (ne_eqb (stripe_refusal r.scan.array r.scan.stripe) 0 h)

  pub too_much : stripe_refusal r.scan.array r.scan.stripe ≡ 0 → stripe_length r.scan.array ≤ r.have → stripe_fit r ≡ false
  unfolding stripe_fit
  too_much e h =
      rw (eq-eqb (stripe_refusal r.scan.array r.scan.stripe) 0 e, le-ltb r.have (stripe_length r.scan.array) h)

  pub counts_decide : stripe_refusal r.scan.array r.scan.stripe ≡ 0 → r.have < stripe_length r.scan.array → {few : Bool} → few ≡ few_tests
      → few ≡ stripe_fit r
  unfolding stripe_fit
  counts_decide e h told =
      rw (eq-eqb (stripe_refusal r.scan.array r.scan.stripe) 0 e, lt-ltb r.have (stripe_length r.scan.array) h) told

  pub fit-known : stripe_fit r ≡ true → Fit r
  unfolding stripe_fit
  fit-known e =
      let clean-test = leb r.tally.clean r.scan.stripe in
      let bad-test = leb r.tally.bad r.scan.stripe in
      let unchecked-test = leb r.tally.unchecked r.scan.stripe in
      let t = both (sound_test && short_test && clean-test && bad-test && unchecked-test) (leb r.tally.torn r.scan.stripe) e in
      let u = both (sound_test && short_test && clean-test && bad-test) unchecked-test t.0 in
      let b = both (sound_test && short_test && clean-test) bad-test u.0 in
      let c = both (sound_test && short_test) clean-test b.0 in
      let s = both sound_test short_test c.0 in
      let sound = eqb-true (stripe_refusal r.scan.array r.scan.stripe) 0 s.0 in
      let range = stripe_sound r.scan.array r.scan.stripe sound in
      record {
        sound = sound;
        members = range.array.many;
        short = ltb-true r.have (stripe_length r.scan.array) s.1;
        stripe = omega (arith, range.here, range.array.most);
        clean = leb-true r.tally.clean r.scan.stripe c.1;
        bad = leb-true r.tally.bad r.scan.stripe b.1;
        unchecked = leb-true r.tally.unchecked r.scan.stripe u.1;
        torn = leb-true r.tally.torn r.scan.stripe t.1;
      }

-- a piece leaves the scan's stripe
pub piece_keeps_stripe : (s : Scan) (m : ℕ) (bytes : List ℕ) (k : ℕ) → (piece_state s m bytes k).stripe ≡ s.stripe
unfolding piece_state advanced
piece_keeps_stripe s m bytes k = go (eqb (piece_refusal s m (length bytes) k) 0)
  where
    go : (done : Bool) → (cond done (advanced s m bytes) s).stripe ≡ s.stripe
    go true = refl
    go false = refl

-- so the numbers of the state with more bytes stay small
pub held_small : (r held : Report) (scan : Scan) (m : ℕ) (bytes : List ℕ) (k have : ℕ) → Fit r → scan ≡ piece_state r.scan m bytes k
    → held ≡ holding r r.header have scan → held.scan.stripe + (held.tally.clean + held.tally.bad + held.tally.unchecked + held.tally.torn) ≤ 1099511627776
held_small r held scan m bytes k have f e h =
    let stripe : held.scan.stripe ≡ r.scan.stripe =
    ap (λ (x : Report). x.scan.stripe) h ∙ ap (λ (x : Scan). x.stripe) e ∙ piece_keeps_stripe r.scan m bytes k in
    let clean : held.tally.clean ≡ r.tally.clean = ap (λ (x : Report). x.tally.clean) h in
    let bad : held.tally.bad ≡ r.tally.bad = ap (λ (x : Report). x.tally.bad) h in
    let unchecked : held.tally.unchecked ≡ r.tally.unchecked = ap (λ (x : Report). x.tally.unchecked) h in
    let torn : held.tally.torn ≡ r.tally.torn = ap (λ (x : Report). x.tally.torn) h in
    omega (arith, stripe, clean, bad, unchecked, torn, f.stripe, f.clean, f.bad, f.unchecked, f.torn)
