-- Feeds from wherever a repair stands: what they write is what was to be written, they use a byte at least where there is one and there is room,
-- and the buffer that holds keeps its length. Assumes nothing.
use mathlib.Core.Path.{◌≡◌, refl, sym, ap, ap₂, ◌∙◌}
use mathlib.Core.Bool.{Bool, true, false, cond, ◌||◌}
use mathlib.Core.List.{List, [], ◌++◌, append_assoc}
use Prim.Native.Nat.{ℕ, zero, suc, ◌+◌, ◌-◌, ◌≤◌, ◌<◌, zero-le}
use native.Mathlib.Omega.{arith}
use borrow.Author.Tests.{ne_eqb}
use lib.Dec.{ltb, eqb}
use lib.ListN.{length, take, drop, length-append, length-drop}
use lib.Seq.{sets, length-sets, take-add}
use Rattle.format.specs.Formats.{most_stripe}
use Rattle.lines.specs.Lines.{line_room, refused_line}
use Rattle.lines.specs.Headers.{array_in}
use Rattle.mend.specs.Mending.{mended}
use Rattle.repair.specs.declared.Repair.{Repair}
use Rattle.repair.specs.declared.Fed.{Fed}
use Rattle.repair.specs.Repairs.{Output, and_then, repair_refusal}
use Rattle.repair.specs.Feeding.{Step, Does, holding, entering, over, size_now, too_short, header_whole, stripe_whole, whole, came, took, passed, step_of, idle}
use Rattle.repair.specs.Feeds.{step_then, feed_steps, feed_of}
use Rattle.repair.proofs.Within.{Within, step_within}
use Rattle.repair.proofs.Stages.{Stage, to_write, Stands, output_of}
use Rattle.repair.proofs.Stepping.{step_leads}

-- ---- a step, or steps, from a place: where they lead, and what they write

pub record Feeds (g : Stage) (input : List ℕ) (step : Step) : Type 0 where
  pub to : Stage
  pub stands : Stands to step.state step.held
  pub writes : (rest : List ℕ) → to_write g (take step.used input ++ rest) ≡ and_then (output_of step) (to_write to rest)

then_assoc : (x y z : Output) → and_then x (and_then y z) ≡ and_then (and_then x y) z
then_assoc x y z =
    ap₂ (λ (i l : List ℕ). record { image = i; list = l }) (sym (append_assoc x.image y.image z.image)) (sym (append_assoc x.list y.list z.list))

pub both-feed : (g : Stage) (input : List ℕ) (first rest : Step) (f : Feeds g input first) → Feeds f.to (drop first.used input) rest → Feeds g input (step_then first rest)
both-feed g input first rest f s = record {
  to = s.to;
  stands = s.stands;
  writes = λ later.
      ap (λ (l : List ℕ). to_write g (l ++ later)) (take-add first.used rest.used input)
      ∙ ap (to_write g) (append_assoc (take first.used input) (take rest.used (drop first.used input)) later)
      ∙ f.writes (take rest.used (drop first.used input) ++ later)
      ∙ ap (and_then (output_of first)) (s.writes later)
      ∙ then_assoc (output_of first) (output_of rest) (to_write s.to later);
}

one-or-both : (g : Stage) (input : List ℕ) (test : Bool) (first rest : Step) → Feeds g input first → Feeds g input (step_then first rest)
    → Feeds g input (cond test first (step_then first rest))
one-or-both g input true first rest one both = one
one-or-both g input false first rest one both = both

step_feeds : (g : Stage) (r : Repair) (input held : List ℕ) (room listRoom : ℕ) → Stands g r held → Feeds g input (step_of r input held room listRoom)
step_feeds g r input held room listRoom q =
    let s = step_leads r input held room listRoom g q in record { to = s.to; stands = s.stands; writes = s.writes }

steps_feed : (steps : ℕ) (g : Stage) (r : Repair) (input held : List ℕ) (room listRoom : ℕ) → Stands g r held → Feeds g input (feed_steps steps r input held room listRoom)
unfolding feed_steps
steps_feed zero g r input held room listRoom q = record { to = g; stands = q; writes = λ rest. refl }
steps_feed (suc steps) g r input held room listRoom q =
    let first = step_of r input held room listRoom in
    let f = step_feeds g r input held room listRoom q in
    let rest = feed_steps steps first.state (drop first.used input) first.held (room - length first.image) (listRoom - length first.list) in
    one-or-both g input (eqb first.used 0) first rest f
    (both-feed g input first rest f (steps_feed steps f.to first.state (drop first.used input) first.held (room - length first.image) (listRoom - length first.list) f.stands))

pub feed_leads : (g : Stage) (r : Repair) (input held : List ℕ) (room listRoom : ℕ) → Stands g r held → Feeds g input (feed_of r input held room listRoom)
unfolding feed_of
feed_leads g r input held room listRoom q = steps_feed (suc (length input)) g r input held room listRoom q

-- ---- within the buffers

one-or-both-within : (test : Bool) (first rest : Step) {most room listRoom : ℕ} → Within most room listRoom first
    → Within (most - first.used) (room - length first.image) (listRoom - length first.list) rest → Within most room listRoom (cond test first (step_then first rest))
one-or-both-within true first rest one other = one
one-or-both-within false first rest one other = record {
  uses = omega (arith, one.uses, other.uses);
  fits = rw (length-append first.image rest.image) (omega (arith, one.fits, other.fits));
  tells = rw (length-append first.list rest.list) (omega (arith, one.tells, other.tells));
}

steps_within : (steps : ℕ) (r : Repair) (input held : List ℕ) (room listRoom : ℕ) → Within (length input) room listRoom (feed_steps steps r input held room listRoom)
unfolding feed_steps
steps_within zero r input held room listRoom = record { uses = zero-le; fits = zero-le; tells = zero-le }
steps_within (suc steps) r input held room listRoom =
    let first = step_of r input held room listRoom in
    let rest = feed_steps steps first.state (drop first.used input) first.held (room - length first.image) (listRoom - length first.list) in
    one-or-both-within (eqb first.used 0) first rest (step_within r input held room listRoom)
    (rw length-drop at (steps_within steps first.state (drop first.used input) first.held (room - length first.image) (listRoom - length first.list)))

pub feed-within : (r : Repair) (input held : List ℕ) (room listRoom : ℕ) → Within (length input) room listRoom (feed_of r input held room listRoom)
unfolding feed_of
feed-within r input held room listRoom = steps_within (suc (length input)) r input held room listRoom

-- so a call that does a feed answers no more than it was lent
module _ (r : Repair) (input held : List ℕ) {image list : List ℕ} {a : Fed} {h' image' list' : List ℕ}
    (d : Does (feed_of r input held (length image) (length list)) a h' image image' list list') where
  pub fed-uses : a.used ≤ length input
  fed-uses = rw d.uses (feed-within r input held (length image) (length list)).uses

  pub fed-writes : a.written ≤ length image
  fed-writes = rw d.writes (feed-within r input held (length image) (length list)).fits

  pub fed-lists : a.listed ≤ length list
  fed-lists = rw d.lists (feed-within r input held (length image) (length list)).tells

-- ---- the buffer that holds keeps its length

came-length : (used : ℕ) (r : Repair) (held : List ℕ) → length (came used r held).held ≡ length held
unfolding came whole header_whole stripe_whole
came-length used r held = by_tests (ltb r.have (size_now r held)) (eqb r.stage 0) (eqb (repair_refusal (take r.have held)) 0)
  where
    by_tests : (f g e : Bool) → length (cond f (record { used = used; state = r; held = held; image = []; list = [] })
        (cond g (cond e (record { used = used; state = entering 1 (array_in (take r.have held)) 0; held = held; image = take r.have held; list = [] })
        (record { used = used; state = over r; held = held; image = []; list = refused_line (repair_refusal (take r.have held)) }))
        (stripe_whole used r held))).held ≡ length held
    by_tests true g e = refl
    by_tests false true true = refl
    by_tests false true false = refl
    by_tests false false e = length-sets held 0 (mended r.array r.stripe (take r.have held))

step_length : (r : Repair) (input held : List ℕ) (room listRoom : ℕ) → length (step_of r input held room listRoom).held ≡ length held
unfolding step_of took passed
step_length r input held room listRoom =
    by_tests (eqb (length input) 0 || ltb listRoom line_room) (ltb r.have (size_now r held)) (too_short r held room) (eqb r.stage 2)
  where
    part : List ℕ
    part = take (size_now r held - r.have) input

    by_tests : (e f g h : Bool) → length (cond e (idle r held) (cond f (cond g (idle r held)
        (came (length part) (holding r (r.have + length part)) (sets held r.have part)))
        (cond h (record { used = length input; state = over r; held = held; image = []; list = refused_line 11 })
        (record { used = length input; state = r; held = held; image = []; list = [] })))).held ≡ length held
    by_tests true f g h = refl
    by_tests false true true h = refl
    by_tests false true false h =
        came-length (length part) (holding r (r.have + length part)) (sets held r.have part) ∙ length-sets held r.have part
    by_tests false false g true = refl
    by_tests false false g false = refl

steps_length : (steps : ℕ) (r : Repair) (input held : List ℕ) (room listRoom : ℕ) → length (feed_steps steps r input held room listRoom).held ≡ length held
unfolding feed_steps
steps_length zero r input held room listRoom = refl
steps_length (suc steps) r input held room listRoom =
    let first = step_of r input held room listRoom in
    let rest = feed_steps steps first.state (drop first.used input) first.held (room - length first.image) (listRoom - length first.list) in
    let one = step_length r input held room listRoom in
    by_test (eqb first.used 0) first rest one
    (steps_length steps first.state (drop first.used input) first.held (room - length first.image) (listRoom - length first.list) ∙ one)
  where
    by_test : (f : Bool) (first rest : Step) → length first.held ≡ length held → length rest.held ≡ length held
        → length (cond f first (step_then first rest)).held ≡ length held
    by_test true first rest one other = one
    by_test false first rest one other = other

pub feed-length : (r : Repair) (input held : List ℕ) (room listRoom : ℕ) → length (feed_of r input held room listRoom).held ≡ length held
unfolding feed_of
feed-length r input held room listRoom = steps_length (suc (length input)) r input held room listRoom

-- ---- it goes on

pub feed_goes : (g : Stage) (r : Repair) (input held : List ℕ) (room listRoom : ℕ) → Stands g r held → most_stripe ≤ length held → most_stripe ≤ room → line_room ≤ listRoom
    → 0 < length input → 0 < (feed_of r input held room listRoom).used
unfolding feed_of feed_steps
feed_goes g r input held room listRoom q holds wide lines some =
    let more : 0 < (step_of r input held room listRoom).used = (step_leads r input held room listRoom g q).goes holds wide lines some in
    rw (ne_eqb (step_of r input held room listRoom).used 0 (λ e. omega arith)) (omega arith)
