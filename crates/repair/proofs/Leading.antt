-- Bytes of the header, and of a stripe: with the last of them it goes on to the image, mended if it is a stripe. Assumes nothing.
use mathlib.Core.Path.{◌≡◌, refl, ap, ap₂, ◌∙◌}
use mathlib.Core.Bool.{Bool, true, false, cond}
use mathlib.Core.List.{List, [], ◌++◌, append_assoc, append-nil}
use Prim.Native.Nat.{ℕ, suc, ◌+◌, ◌-◌, ◌≤◌, ◌<◌}
use native.Mathlib.Nat.{sub-zero}
use native.Mathlib.Omega.{arith}
use borrow.Author.Tests.{ltb-true, ltb-false, le-ltb, eqb-true, eq-eqb, ne_eqb}
use lib.Dec.{ltb, eqb}
use lib.ListN.{length, take, drop, length-append}
use lib.Seq.{sets, sets-eq, take_at, drop_at}
use Rattle.layout.specs.Arrays.{stripe_refusal}
use Rattle.layout.specs.declared.Array.{Array}
use Rattle.layout.proofs.Ranges.{stripe_sound, sound_stripe}
use Rattle.format.specs.Formats.{Format}
use Rattle.format.proofs.Sizes.{times-next}
use Rattle.tag.specs.Blocks.{format_at}
use Rattle.stripe.specs.Stripes.{stripe_length}
use Rattle.lines.specs.Headers.{header_size, array_in}
use Rattle.lines.specs.Lines.{refused_line}
use Rattle.lines.proofs.Headers.{size_stays, header_sound}
use Rattle.mend.specs.Mending.{mended, listed}
use Rattle.repair.specs.declared.Repair.{Repair}
use Rattle.repair.specs.Repairs.{refused_with, and_then, repair_refusal, repair_stripes, repair_of}
use Rattle.repair.specs.Feeding.{Step, holding, entering, over, size_now, header_whole, stripe_whole, whole, came, took}
use Rattle.repair.proofs.Refusals.{report_accepts}
use Rattle.repair.proofs.Ranges.{header-size_now, stripe-size_now}
use Rattle.repair.proofs.Stages.{in_header, in_stripe, behind, ended, StandsInHeader, StandsInStripe, Leads}

-- bytes stored behind those that a buffer already holds
pub stored : (l h x : List ℕ) → take (length h) l ≡ h → length h + length x ≤ length l → take (length (h ++ x)) (sets l (length h) x) ≡ h ++ x
stored l h x held room = rw (sets-eq x l (length h) room, held) (take_at (h ++ x) (drop (length h + length x) l) (length (h ++ x)) refl)

-- a stripe of an array has bytes
block-some : (F : Format) → 0 < F.block_length
block-some F = omega arith

pub stripe-some : (a : Array) (stripe : ℕ) → stripe_refusal a stripe ≡ 0 → 0 < stripe_length a
stripe-some a stripe sound =
    let range = (stripe_sound a stripe sound).array in
    omega (arith, block-some (format_at a), times-next (format_at a).block_length 0 a.members (omega (arith, range.few)))

-- ---- the header is whole: these are its bytes, whatever follows them

module _ (used : ℕ) (r : Repair) (held h : List ℕ) (came-is : take r.have held ≡ h) (all : (rest : List ℕ) → header_size (h ++ rest) ≡ length h) where
  begins : (rest : List ℕ) → repair_of (h ++ rest)
      ≡ cond (eqb (repair_refusal h) 0) (and_then (record { image = h; list = [] }) (repair_stripes (array_in h) (array_in h).stripes 0 rest)) (refused_with (repair_refusal h))
  unfolding repair_of
  begins rest = rw (all rest, take_at h rest (length h) refl, drop_at h rest (length h) refl)

  accepted : repair_refusal h ≡ 0 → StandsInStripe (array_in h) 0 [] (entering 1 (array_in h) 0) held
  accepted e =
      let range = header_sound h (report_accepts h e) in
      let sound = sound_stripe (array_in h) 0 (record { array = range; here = range.some }) in
      record { stage = refl; array = refl; place = refl; have = refl; short = stripe-some (array_in h) 0 sound; sound = sound; bytes = refl }

  pub whole-header_leads : Leads (λ rest. repair_of (h ++ rest)) used (header_whole used r held)
  unfolding header_whole
  whole-header_leads = rw came-is (go (eqb (repair_refusal h) 0) refl)
    where
      go : (f : Bool) → eqb (repair_refusal h) 0 ≡ f → Leads (λ rest. repair_of (h ++ rest)) used (cond f
          (record { used = used; state = entering 1 (array_in h) 0; held = held; image = h; list = [] })
          (record { used = used; state = over r; held = held; image = []; list = refused_line (repair_refusal h) }))
      go true e = record {
        to = in_stripe (array_in h) 0 [];
        stands = accepted (eqb-true (repair_refusal h) 0 e);
        writes = λ rest. rw (begins rest, e, sub-zero);
        uses = refl;
      }
      go false e = record { to = ended; stands = refl; writes = λ rest. rw (begins rest, e, append-nil (refused_line (repair_refusal h))); uses = refl }

-- ---- bytes of the header, no more than it lacks

module _ (h : List ℕ) (r : Repair) (held bytes : List ℕ) (q : StandsInHeader h r held) (few : length h + length bytes ≤ header_size h) (fits : header_size h ≤ length held) where
  abbrev next : Repair
  next = holding r (r.have + length bytes)

  abbrev more : List ℕ
  more = sets held r.have bytes

  next_have : r.have + length bytes ≡ length (h ++ bytes)
  next_have = rw (length-append, q.have)

  held_now : take next.have more ≡ h ++ bytes
  held_now = rw (next_have, q.have) (stored held h bytes q.bytes (omega arith))

  size_is : size_now next more ≡ header_size (h ++ bytes)
  size_is = header-size_now next more q.stage ∙ ap header_size held_now

  pub header_leads : Leads (λ rest. repair_of (h ++ (bytes ++ rest))) (length bytes) (took r bytes held)
  unfolding took came whole
  header_leads = rw (size_is, eq-eqb r.stage 0 q.stage) (go (ltb (r.have + length bytes) (header_size (h ++ bytes))) refl)
    where
      go : (f : Bool) → ltb (r.have + length bytes) (header_size (h ++ bytes)) ≡ f → Leads (λ rest. repair_of (h ++ (bytes ++ rest))) (length bytes)
          (cond f (record { used = length bytes; state = next; held = more; image = []; list = [] }) (header_whole (length bytes) next more))
      go true e =
          let l = ltb-true (r.have + length bytes) (header_size (h ++ bytes)) e in
          record {
            to = in_header (h ++ bytes);
            stands = record { stage = q.stage; have = next_have; short = omega (arith, next_have); bytes = rw next_have at held_now };
            writes = λ rest. rw append_assoc;
            uses = refl;
          }
      go false e =
          let full : header_size (h ++ bytes) ≤ length (h ++ bytes) = omega (arith, next_have, ltb-false (r.have + length bytes) (header_size (h ++ bytes)) e) in
          let l = whole-header_leads (length bytes) next more (h ++ bytes) held_now (size_stays h bytes few full) in
          record { to = l.to; stands = l.stands; writes = λ rest. rw (← append_assoc) (l.writes rest); uses = l.uses }

-- ---- the stripe is whole

module _ (a : Array) (stripe : ℕ) (here : stripe < a.stripes) where
  pub one_left : a.stripes - stripe ≡ suc (a.stripes - (stripe + 1))
  one_left = omega arith

  stripe_then : (h rest : List ℕ) → length h ≡ stripe_length a
      → repair_stripes a (a.stripes - stripe) stripe (h ++ rest)
      ≡ and_then (record { image = mended a stripe h; list = listed a stripe h }) (repair_stripes a (a.stripes - (stripe + 1)) (stripe + 1) rest)
  unfolding repair_stripes
  stripe_then h rest e =
      let enough : stripe_length a ≤ length (h ++ rest) = rw length-append (omega arith) in
      rw (one_left, le-ltb (length (h ++ rest)) (stripe_length a) enough, take_at h rest (stripe_length a) e, drop_at h rest (stripe_length a) e)

module _ (used : ℕ) (a : Array) (stripe : ℕ) (sound : stripe_refusal a stripe ≡ 0) (r : Repair) (held h : List ℕ) (array : r.array ≡ a) (place : r.stripe ≡ stripe)
    (held-is : take r.have held ≡ h) (full : length h ≡ stripe_length a) where
  here : stripe < a.stripes
  here = (stripe_sound a stripe sound).here

  abbrev new : List ℕ
  new = mended a stripe h

  -- the step as it is for these numbers
  abbrev step_for : Array → ℕ → List ℕ → Step
  step_for b s bytes =
      record {
        used = used;
        state = entering (cond (ltb (s + 1) b.stripes) 1 2) b (s + 1);
        held = sets held 0 (mended b s bytes);
        image = mended b s bytes;
        list = listed b s bytes;
      }

  step_is : stripe_whole used r held ≡ step_for a stripe h
  unfolding stripe_whole
  step_is =
      ap (λ (b : Array). step_for b r.stripe (take r.have held)) array ∙ ap (λ (s : ℕ). step_for a s (take r.have held)) place ∙ ap (step_for a stripe) held-is

  pub whole-stripe_leads : Leads (λ rest. repair_stripes a (a.stripes - stripe) stripe (h ++ rest)) used (stripe_whole used r held)
  unfolding repair_stripes
  whole-stripe_leads = rw step_is (go (ltb (stripe + 1) a.stripes) refl)
    where
      go : (f : Bool) → ltb (stripe + 1) a.stripes ≡ f → Leads (λ rest. repair_stripes a (a.stripes - stripe) stripe (h ++ rest)) used
          (record { used = used; state = entering (cond f 1 2) a (stripe + 1); held = sets held 0 new; image = new; list = listed a stripe h })
      go true e =
          let on = sound_stripe a (stripe + 1) (record { array = (stripe_sound a stripe sound).array; here = ltb-true (stripe + 1) a.stripes e }) in
          record {
            to = in_stripe a (stripe + 1) [];
            stands = record { stage = refl; array = refl; place = refl; have = refl; short = stripe-some a (stripe + 1) on; sound = on; bytes = refl };
            writes = λ rest. stripe_then a stripe here h rest full;
            uses = refl;
          }
      go false e =
          let last : a.stripes - (stripe + 1) ≡ 0 = omega (arith, ltb-false (stripe + 1) a.stripes e) in
          record {
            to = behind;
            stands = refl;
            writes = λ rest. stripe_then a stripe here h rest full
                ∙ ap (λ (left : ℕ). and_then (record { image = new; list = listed a stripe h }) (repair_stripes a left (stripe + 1) rest)) last;
            uses = refl;
          }

-- ---- bytes of the stripe, no more than it lacks

pub stripe-size_is : (a : Array) (stripe : ℕ) → stripe_refusal a stripe ≡ 0 → (s : Repair) (l : List ℕ) → s.stage ≡ 1 → s.array ≡ a → s.stripe ≡ stripe → size_now s l ≡ stripe_length a
stripe-size_is a stripe sound s l stage array place =
    stripe-size_now s l stage
    ∙ ap₂ (λ (b : Array) (k : ℕ). cond (eqb (stripe_refusal b k) 0) (stripe_length b) 0) array place
    ∙ ap (λ (t : Bool). cond t (stripe_length a) 0) (eq-eqb (stripe_refusal a stripe) 0 sound)

module _ (a : Array) (stripe : ℕ) (h : List ℕ) (r : Repair) (held bytes : List ℕ) (q : StandsInStripe a stripe h r held) (few : length h + length bytes ≤ stripe_length a)
    (fits : stripe_length a ≤ length held) where
  abbrev onward : Repair
  onward = holding r (r.have + length bytes)

  abbrev longer : List ℕ
  longer = sets held r.have bytes

  onward_have : r.have + length bytes ≡ length (h ++ bytes)
  onward_have = rw (length-append, q.have)

  longer-held : take onward.have longer ≡ h ++ bytes
  longer-held = rw (onward_have, q.have) (stored held h bytes q.bytes (omega arith))

  pub stripe_leads : Leads (λ rest. repair_stripes a (a.stripes - stripe) stripe (h ++ (bytes ++ rest))) (length bytes) (took r bytes held)
  unfolding took came whole
  stripe_leads =
      rw (stripe-size_is a stripe q.sound onward longer q.stage q.array q.place, ne_eqb r.stage 0 (λ z. omega (arith, q.stage)))
      (go (ltb (r.have + length bytes) (stripe_length a)) refl)
    where
      go : (f : Bool) → ltb (r.have + length bytes) (stripe_length a) ≡ f
          → Leads (λ rest. repair_stripes a (a.stripes - stripe) stripe (h ++ (bytes ++ rest))) (length bytes)
          (cond f (record { used = length bytes; state = onward; held = longer; image = []; list = [] }) (stripe_whole (length bytes) onward longer))
      go true e =
          let l = ltb-true (r.have + length bytes) (stripe_length a) e in
          record {
            to = in_stripe a stripe (h ++ bytes);
            stands = record {
              stage = q.stage;
              array = q.array;
              place = q.place;
              have = onward_have;
              short = omega (arith, onward_have);
              sound = q.sound;
              bytes = rw onward_have at longer-held;
            };
            writes = λ rest. rw append_assoc;
            uses = refl;
          }
      go false e =
          let full : length (h ++ bytes) ≡ stripe_length a =
          rw length-append (omega (arith, q.have, ltb-false (r.have + length bytes) (stripe_length a) e)) in
          let l = whole-stripe_leads (length bytes) a stripe q.sound onward longer (h ++ bytes) q.array q.place longer-held full in
          record { to = l.to; stands = l.stands; writes = λ rest. rw (← append_assoc) (l.writes rest); uses = l.uses }
