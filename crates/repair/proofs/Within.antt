-- What a step uses and writes stays within what it was lent, from any state. Assumes nothing.
use mathlib.Core.Path.{◌≡◌}
use mathlib.Core.Bool.{Bool, true, false, cond}
use mathlib.Core.List.{List, []}
use Prim.Native.Nat.{ℕ, ◌+◌, ◌-◌, ◌≤◌, ◌<◌, zero-le}
use native.Mathlib.Decide.{dec_lt, ℕ_discrete}
use native.Mathlib.Omega.{arith}
use borrow.Author.Tests.{lt-ltb, le-ltb}
use lib.Dec.{ltb, eqb}
use lib.ListN.{length, take, length-take}
use lib.Seq.{sets}
use Rattle.lines.specs.Lines.{line_room, refused_line}
use Rattle.lines.specs.Headers.{array_in}
use Rattle.lines.proofs.Lines.{refused_line-fits}
use Rattle.mend.specs.Mending.{verdict_on}
use Rattle.mend.proofs.Rebuilding.{length-mended, listed-fits}
use Rattle.repair.specs.declared.Repair.{Repair}
use Rattle.repair.specs.Repairs.{repair_refusal}
use Rattle.repair.specs.Feeding.{Step, holding, entering, over, size_now, header_whole, stripe_whole, whole, came, took, passed, step_of, closing}
use Rattle.repair.proofs.Doing.{without_input, without_line, passing, held_too_short, image_too_short, taking}

pub record Within (most room listRoom : ℕ) (step : Step) : Type 0 where
  pub uses : step.used ≤ most
  pub fits : length step.image ≤ room
  pub tells : length step.list ≤ listRoom

module _ (room listRoom : ℕ) (wide : line_room ≤ listRoom) where
  header-within : (used : ℕ) (r : Repair) (h : List ℕ) → r.have ≤ room → Within used room listRoom (header_whole used r h)
  unfolding header_whole
  header-within used r h near = by_test (eqb (repair_refusal (take r.have h)) 0)
    where
      by_test : (f : Bool) → Within used room listRoom (cond f
          (record { used = used; state = entering 1 (array_in (take r.have h)) 0; held = h; image = take r.have h; list = [] })
          (record { used = used; state = over r; held = h; image = []; list = refused_line (repair_refusal (take r.have h)) }))
      by_test true = record { uses = omega arith; fits = rw (length-take r.have h) (omega arith); tells = zero-le }
      by_test false = record { uses = omega arith; fits = zero-le; tells = omega (arith, refused_line-fits (repair_refusal (take r.have h))) }

  stripe-within : (used : ℕ) (r : Repair) (h : List ℕ) → r.have ≤ room → Within used room listRoom (stripe_whole used r h)
  unfolding stripe_whole
  stripe-within used r h near =
      let bytes = take r.have h in
      let verdict = verdict_on r.array r.stripe bytes in
      record {
        uses = omega arith;
        fits = rw (length-mended r.array r.stripe verdict bytes, length-take r.have h) (omega arith);
        tells = omega (arith, listed-fits r.array r.stripe verdict bytes);
      }

  came-within : (used : ℕ) (r : Repair) (h : List ℕ) → r.have ≤ room → Within used room listRoom (came used r h)
  unfolding came whole
  came-within used r h near = by_tests (ltb r.have (size_now r h)) (eqb r.stage 0)
    where
      by_tests : (f g : Bool) → Within used room listRoom
          (cond f (record { used = used; state = r; held = h; image = []; list = [] }) (cond g (header_whole used r h) (stripe_whole used r h)))
      by_tests true g = record { uses = omega arith; fits = zero-le; tells = zero-le }
      by_tests false true = header-within used r h near
      by_tests false false = stripe-within used r h near

  took-within : (r : Repair) (bytes h : List ℕ) → r.have + length bytes ≤ room → Within (length bytes) room listRoom (took r bytes h)
  unfolding took
  took-within r bytes h near = came-within (length bytes) (holding r (r.have + length bytes)) (sets h r.have bytes) near

  passed-within : (used : ℕ) (r : Repair) (h : List ℕ) → Within used room listRoom (passed used r h)
  unfolding passed
  passed-within used r h = by_test (eqb r.stage 2)
    where
      by_test : (f : Bool) → Within used room listRoom (cond f (record { used = used; state = over r; held = h; image = []; list = refused_line 11 })
          (record { used = used; state = r; held = h; image = []; list = [] }))
      by_test true = record { uses = omega arith; fits = zero-le; tells = omega (arith, refused_line-fits 11) }
      by_test false = record { uses = omega arith; fits = zero-le; tells = zero-le }

module _ (r : Repair) (input h : List ℕ) (room listRoom : ℕ) where
  none_within : (most : ℕ) → Within most room listRoom (record { used = 0; state = r; held = h; image = []; list = [] })
  none_within most = record { uses = zero-le; fits = zero-le; tells = zero-le }

  pub step_within : Within (length input) room listRoom (step_of r input h room listRoom)
  step_within = by_input (ℕ_discrete (length input) 0) (dec_lt listRoom line_room) (dec_lt r.have (size_now r h)) (dec_lt (length h) (size_now r h)) (dec_lt room (size_now r h))
    where
      by_input : Dec (length input ≡ 0) → Dec (listRoom < line_room) → Dec (r.have < size_now r h) → Dec (length h < size_now r h) → Dec (room < size_now r h)
          → Within (length input) room listRoom (step_of r input h room listRoom)
      by_input (yes e) l s t u = rw (without_input r input h room listRoom e) (none_within (length input))
      by_input (no n) (yes l) s t u = rw (without_line r input h room listRoom n l) (none_within (length input))
      by_input (no n) (no l) (no s) t u = rw (passing r input h room listRoom n (omega arith) (omega arith)) (passed-within room listRoom (omega arith) (length input) r h)
      by_input (no n) (no l) (yes s) (yes t) u = rw (held_too_short r input h room listRoom n (omega arith) s t) (none_within (length input))
      by_input (no n) (no l) (yes s) (no t) (yes u) = rw (image_too_short r input h room listRoom n (omega arith) s (omega arith) u) (none_within (length input))
      by_input (no n) (no l) (yes s) (no t) (no u) =
          let part = take (size_now r h - r.have) input in
          let short : length part ≤ size_now r h - r.have = rw (length-take (size_now r h - r.have) input) (omega arith) in
          let few : length part ≤ length input = rw (length-take (size_now r h - r.have) input) (omega arith) in
          let w = took-within room listRoom (omega arith) r part h (omega arith) in
          rw (taking r input h room listRoom n (omega arith) s (omega arith) (omega arith)) record { uses = omega (arith, w.uses); fits = w.fits; tells = w.tells }

-- and so does what a close writes
pub close_fits : (r : Repair) (room : ℕ) → length (closing r room) ≤ room
unfolding closing
close_fits r room = by_tests (dec_lt room line_room) (eqb r.stage 0) (eqb r.stage 1)
  where
    by_tests : Dec (room < line_room) → (f g : Bool) → length (cond (ltb room line_room) [] (cond f (refused_line 10) (cond g (refused_line 11) []))) ≤ room
    by_tests (yes h) f g = rw (lt-ltb room line_room h) zero-le
    by_tests (no h) true g = rw (le-ltb room line_room (omega arith)) (omega (arith, refused_line-fits 10))
    by_tests (no h) false true = rw (le-ltb room line_room (omega arith)) (omega (arith, refused_line-fits 11))
    by_tests (no h) false false = rw (le-ltb room line_room (omega arith)) zero-le

pub closed-within : (r : Repair) (room : ℕ) {listed : ℕ} → listed ≡ length (closing r room) → listed ≤ room
closed-within r room told = rw told (close_fits r room)
