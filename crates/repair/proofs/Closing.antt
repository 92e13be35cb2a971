-- The close: what it writes is what is to be written when no byte is to come. Assumes nothing.
use mathlib.Core.Path.{◌≡◌, refl, ap, ◌∙◌}
use mathlib.Core.Bool.{Bool, true, false, cond, ◌&&◌, ◌||◌}
use mathlib.Core.List.{List, [], ◌++◌, append-nil}
use Prim.Native.Nat.{ℕ, ◌-◌, ◌≤◌, ◌<◌}
use native.Mathlib.Omega.{arith}
use borrow.Author.Tests.{le-ltb, lt-ltb}
use lib.Dec.{eqb}
use lib.ListN.{length}
use lib.Seq.{take_all}
use Rattle.layout.specs.declared.Array.{Array}
use Rattle.layout.proofs.Ranges.{stripe_sound}
use Rattle.stripe.specs.Stripes.{stripe_length}
use Rattle.lines.specs.Lines.{line_room}
use Rattle.lines.specs.Headers.{header_size, array_in, header_refusal}
use Rattle.lines.proofs.Headers.{short_refused}
use Rattle.repair.specs.declared.Repair.{Repair}
use Rattle.repair.specs.Repairs.{refused_with, not_repaired, repair_refusal, ending, repair_stripes, repair_of}
use Rattle.repair.specs.Feeding.{closing}
use Rattle.repair.proofs.Stages.{Stage, in_header, in_stripe, behind, ended, to_write, Stands}
use Rattle.repair.proofs.Leading.{one_left}

refused_ten : (h : List ℕ) → header_refusal h ≡ 10 → repair_refusal h ≡ 10
unfolding repair_refusal
refused_ten h e = ap (λ (n : ℕ). cond (not_repaired (array_in h) && (eqb n 0 || eqb n 13)) 12 n) e ∙ by_test (not_repaired (array_in h))
  where
    by_test : (f : Bool) → ◌≡◌ {A = ℕ} (cond (f && false) 12 10) 10
    by_test true = refl
    by_test false = refl

short-header : (h : List ℕ) → length h < header_size h → refused_with 10 ≡ repair_of (h ++ [])
unfolding repair_of
short-header h l =
    let ten : header_refusal h ≡ 10 = short_refused h l in
    let number : repair_refusal h ≡ 10 = refused_ten h ten in
    rw (append-nil h, take_all (header_size h) h (omega arith), number)

short-stripe : (a : Array) (stripe : ℕ) (h : List ℕ) → stripe < a.stripes → length h < stripe_length a
    → refused_with 11 ≡ repair_stripes a (a.stripes - stripe) stripe (h ++ [])
unfolding repair_stripes
short-stripe a stripe h here l = rw (append-nil h, one_left a stripe here, lt-ltb (length h) (stripe_length a) l)

module _ (r : Repair) (held : List ℕ) (room : ℕ) (wide : line_room ≤ room) where
  pub close_writes : (g : Stage) → Stands g r held → record { image = []; list = closing r room } ≡ to_write g []
  unfolding closing ending
  close_writes (in_header h) q = rw (le-ltb room line_room wide, q.stage) (short-header h q.short)
  close_writes (in_stripe a stripe h) q = rw (le-ltb room line_room wide, q.stage) (short-stripe a stripe h (stripe_sound a stripe q.sound).here q.short)
  close_writes behind q = rw (le-ltb room line_room wide, q)
  close_writes ended q = rw (le-ltb room line_room wide, q)
