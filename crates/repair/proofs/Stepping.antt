-- One step, wherever the repair stands: it leads on, and it uses a byte at least where there is one, and room for what comes and for a line.
-- Assumes nothing.
use mathlib.Core.Path.{◌≡◌, refl, sym, ap, ◌∙◌}
use mathlib.Core.Logic.{◌≢◌}
use mathlib.Core.List.{List, [], ◌∷◌, ◌++◌, append-nil}
use Prim.Native.Nat.{ℕ, zero, ◌+◌, ◌-◌, ◌≤◌, ◌<◌}
use native.Mathlib.Decide.{dec_lt, ℕ_discrete}
use native.Mathlib.Omega.{arith}
use borrow.Author.Tests.{eq-eqb, ne_eqb}
use lib.ListN.{length, get_or, take, length-take}
use lib.Seq.{take-length}
use Rattle.std.proofs.lemmas.List.{take_min}
use Rattle.format.specs.Formats.{most_stripe}
use Rattle.stripe.specs.Stripes.{stripe_length}
use Rattle.lines.specs.Lines.{line_room, refused_line}
use Rattle.lines.specs.Headers.{header_size}
use Rattle.lines.proofs.Headers.{size-most}
use Rattle.repair.specs.declared.Repair.{Repair}
use Rattle.repair.specs.Repairs.{refused_with, and_then, ending}
use Rattle.repair.specs.Feeding.{Step, size_now, took, passed, idle, step_of}
use Rattle.repair.proofs.Doing.{without_input, without_line, passing, held_too_short, image_too_short, taking}
use Rattle.repair.proofs.Ranges.{header-size_now, no_size_now, stripe_bounded}
use Rattle.repair.proofs.Stages.{Stage, in_header, in_stripe, behind, ended, to_write, Stands, output_of, Leads}
use Rattle.repair.proofs.Leading.{header_leads, stripe_leads, stripe-size_is}

-- the part that a step uses is a first part of its input
pub record Steps (g : Stage) (input held : List ℕ) (room listRoom : ℕ) (step : Step) : Type 0 where
  pub to : Stage
  pub stands : Stands to step.state step.held
  pub writes : (rest : List ℕ) → to_write g (take step.used input ++ rest) ≡ and_then (output_of step) (to_write to rest)
  pub goes : most_stripe ≤ length held → most_stripe ≤ room → line_room ≤ listRoom → 0 < length input → 0 < step.used

one_too_many : (bytes rest : List ℕ) → length bytes ≢ 0 → ending (bytes ++ rest) ≡ refused_with 11
unfolding ending
one_too_many [] rest h = absurd (h refl)
one_too_many (b ∷ bytes) rest h = refl

module _ (r : Repair) (input held : List ℕ) (room listRoom : ℕ) where
  nothing-done : (g : Stage) → Stands g r held → (most_stripe ≤ length held → most_stripe ≤ room → line_room ≤ listRoom → 0 < length input → 0 < zero)
      → Steps g input held room listRoom (idle r held)
  nothing-done g q h = record { to = g; stands = q; writes = λ rest. refl; goes = h }

  module _ (wide : line_room ≤ listRoom) (some : length input ≢ 0) where
    -- what comes now has so many bytes, of which some are lacking
    module _ (g : Stage) (q : Stands g r held) (size : ℕ) (is : size_now r held ≡ size) (short : r.have < size) (bounded : size ≤ most_stripe)
        (leads : size ≤ length held → Leads (λ rest. to_write g (take (size - r.have) input ++ rest)) (length (take (size - r.have) input)) (took r (take (size - r.have) input) held)) where
      pub lacking_steps : Steps g input held room listRoom (step_of r input held room listRoom)
      lacking_steps = go (dec_lt (length held) size) (dec_lt room size)
        where
          lacks : r.have < size_now r held
          lacks = rw is short

          go : Dec (length held < size) → Dec (room < size) → Steps g input held room listRoom (step_of r input held room listRoom)
          go (yes h) d =
              rw (held_too_short r input held room listRoom some wide lacks (rw is h)) (nothing-done g q (λ a b c d. absurd (omega arith)))
          go (no h) (yes d) =
              rw (image_too_short r input held room listRoom some wide lacks (rw is (omega arith)) (rw is d)) (nothing-done g q (λ a b c e. absurd (omega arith)))
          go (no h) (no d) =
              let n = size - r.have in
              let l = leads (omega arith) in
              let step : step_of r input held room listRoom ≡ took r (take n input) held =
              taking r input held room listRoom some wide lacks (rw is (omega arith)) (rw is (omega arith))
              ∙ ap (λ (k : ℕ). took r (take (k - r.have) input) held) is in
              let front : take (took r (take n input) held).used input ≡ take n input = ap (λ (k : ℕ). take k input) (l.uses ∙ length-take n input) ∙ take_min n input in
              let many : 0 < length (take n input) = rw (length-take n input) (omega (arith, some)) in
              rw step record { to = l.to; stands = l.stands; writes = λ rest. rw front (l.writes rest); goes = λ a b c d. rw l.uses many }

    pub stage_steps : (g : Stage) → Stands g r held → Steps g input held room listRoom (step_of r input held room listRoom)
    unfolding passed
    stage_steps (in_header h) q =
        let is : size_now r held ≡ header_size h = header-size_now r held q.stage ∙ ap header_size (ap (λ (k : ℕ). take k held) q.have ∙ q.bytes) in
        lacking_steps (in_header h) q (header_size h) is (rw q.have q.short) (omega (arith, size-most (get_or h 2 0)))
        (λ fits. let n = header_size h - r.have in
        let few : length h + length (take n input) ≤ header_size h = rw (length-take n input) (omega (arith, q.have, q.short)) in
        header_leads h r held (take n input) q few fits)
    stage_steps (in_stripe a stripe h) q =
        let is : size_now r held ≡ stripe_length a = stripe-size_is a stripe q.sound r held q.stage q.array q.place in
        lacking_steps (in_stripe a stripe h) q (stripe_length a) is (rw q.have q.short) (stripe_bounded a stripe q.sound)
        (λ fits. let n = stripe_length a - r.have in
        let few : length h + length (take n input) ≤ stripe_length a = rw (length-take n input) (omega (arith, q.have, q.short)) in
        stripe_leads a stripe h r held (take n input) q few fits)
    stage_steps behind q =
        let none = no_size_now r held (λ e. omega arith) (λ e. omega arith) in
        rw (passing r input held room listRoom some wide (omega arith), eq-eqb r.stage 2 q) record {
          to = ended;
          stands = refl;
          writes = λ rest. rw (take-length input) (one_too_many input rest some ∙ ap (λ (l : List ℕ). record { image = []; list = l }) (sym (append-nil (refused_line 11))));
          goes = λ a b c d. d;
        }
    stage_steps ended q =
        let none = no_size_now r held (λ e. omega arith) (λ e. omega arith) in
        rw (passing r input held room listRoom some wide (omega arith), ne_eqb r.stage 2 (λ e. omega arith))
        record { to = ended; stands = q; writes = λ rest. refl; goes = λ a b c d. d }

  pub step_leads : (g : Stage) → Stands g r held → Steps g input held room listRoom (step_of r input held room listRoom)
  step_leads g q = go (ℕ_discrete (length input) 0) (dec_lt listRoom line_room)
    where
      go : Dec (length input ≡ 0) → Dec (listRoom < line_room) → Steps g input held room listRoom (step_of r input held room listRoom)
      go (yes e) d = rw (without_input r input held room listRoom e) (nothing-done g q (λ a b c d. absurd (omega arith)))
      go (no n) (yes h) = rw (without_line r input held room listRoom n h) (nothing-done g q (λ a b c d. absurd (omega arith)))
      go (no n) (no h) = stage_steps (omega arith) n g q
