-- What a step does, for each return of the code. Assumes nothing.
use mathlib.Core.Path.{◌≡◌, refl, sym, ap, ◌∙◌}
use mathlib.Core.Logic.{◌≢◌}
use mathlib.Core.List.{List, [], ◌++◌}
use Prim.Native.Nat.{ℕ, ◌+◌, ◌-◌, ◌≤◌, ◌<◌, min}
use native.Mathlib.Nat.{zero-add}
use native.Mathlib.Omega.{arith}
use borrow.Author.Tests.{lt-ltb, le-ltb, eq-eqb, ne_eqb}
use lib.ListN.{length, take, drop, length-take}
use lib.Seq.{sets, sets-eq, take_at, length-take-le}
use Rattle.layout.specs.declared.Array.{Array}
use Rattle.lines.specs.Text.{Written}
use Rattle.lines.specs.Lines.{line_room, refused_line}
use Rattle.lines.specs.Headers.{array_in}
use Rattle.lines.proofs.Texts.{line-long}
use Rattle.mend.specs.Mending.{verdict_on, mended, listed}
use Rattle.mend.proofs.Rebuilding.{length-mended}
use Rattle.repair.specs.declared.Repair.{Repair}
use Rattle.repair.specs.declared.Fed.{Fed}
use Rattle.repair.specs.Repairs.{repair_refusal}
use Rattle.std.proofs.lemmas.List.{take_min}
use Rattle.repair.specs.Feeding.{Step, Does, holding, entering, size_now, over_with, header_whole, next_stripe, stripe_whole, whole, came, took, idle, passed, step_of, closing}

-- a call that does a step does any that equals it
pub does_same : {s t : Step} {a : Fed} {h i j l m : List ℕ} → s ≡ t → Does t a h i j l m → Does s a h i j l m
does_same e d = rw e d

-- nothing is written
pub silent : (used : ℕ) (s : Repair) (h i l : List ℕ) {a : Fed} → a ≡ record { state = s; used = used; written = 0; listed = 0 }
    → Does (record { used = used; state = s; held = h; image = []; list = [] }) a h i i l l
silent used s h i l e = rw e record { uses = refl; leaves = refl; holds = refl; writes = refl; lists = refl; shows = refl; tells = refl }

-- a line of the list alone
pub with_line : (used : ℕ) (s t : Repair) (h i l m text : List ℕ) (n : ℕ) → s ≡ t → Written l 0 text m n
    → Does (record { used = used; state = t; held = h; image = []; list = text }) (record { state = s; used = used; written = 0; listed = n }) h i i l m
with_line used s t h i l m text n e written =
    record { uses = refl; leaves = e; holds = refl; writes = refl; lists = line-long written; shows = refl; tells = written.stands }

-- ---- the header is whole

module _ (used : ℕ) (r : Repair) (h : List ℕ) {refusal : ℕ} (told : refusal ≡ repair_refusal (take r.have h)) where
  pub header_refused : refusal ≢ 0 → header_whole used r h ≡ over_with used r h refusal
  unfolding header_whole
  header_refused some = rw (ne_eqb (repair_refusal (take r.have h)) 0 (λ z. some (told ∙ z))) (ap (over_with used r h) (sym told))

  pub header-accepted : {s : Repair} {a : Array} {header i j l : List ℕ} → refusal ≡ 0 → r.have ≤ length h → header ≡ take r.have h → a ≡ array_in header
      → j ≡ sets i 0 header → s ≡ entering 1 a 0
      → Does (header_whole used r h) (record { state = s; used = used; written = r.have; listed = 0 }) h i j l l
  unfolding header_whole
  header-accepted done there held is shown e =
      rw (eq-eqb (repair_refusal (take r.have h)) 0 (sym told ∙ done)) record {
        uses = refl;
        leaves = e ∙ ap (λ (b : Array). entering 1 b 0) (is ∙ ap array_in held);
        holds = refl;
        writes = sym (length-take-le r.have h there);
        lists = refl;
        shows = rw held at shown;
        tells = refl;
      }

-- ---- the stripe is whole

-- the first bytes of a buffer replaced by as many
module _ (h new : List ℕ) (n : ℕ) (there : n ≤ length h) (long : length new ≡ n) where
  pub front-replaced : new ++ drop n h ≡ sets h 0 new
  front-replaced = rw (sets-eq new h 0 (omega arith), long, zero-add n)

  pub front_is : take n (new ++ drop n h) ≡ new
  front_is = take_at new (drop n h) n long

module _ (used : ℕ) (r : Repair) (h i l : List ℕ) (there : r.have ≤ length h) where
  pub stripe-mended : {s : Repair} {n : ℕ} {new h' j m : List ℕ} → new ≡ mended r.array r.stripe (take r.have h)
      → Written l 0 (listed r.array r.stripe (take r.have h)) m n → h' ≡ new ++ drop r.have h → j ≡ sets i 0 (take r.have h')
      → s ≡ next_stripe r
      → Does (stripe_whole used r h) (record { state = s; used = used; written = r.have; listed = n }) h' i j l m
  unfolding stripe_whole
  stripe-mended {s} {n} {new} {h'} {j} {m} made written put shown e =
      let bytes = take r.have h in
      let long : length new ≡ r.have = ap length made ∙ length-mended r.array r.stripe (verdict_on r.array r.stripe bytes) bytes ∙ length-take-le r.have h there in
      let held : h' ≡ sets h 0 new = put ∙ front-replaced h new r.have there long in
      let front : take r.have h' ≡ new = ap (take r.have) put ∙ front_is h new r.have there long in
      record {
        uses = refl;
        leaves = e;
        holds = held ∙ ap (sets h 0) made;
        writes = sym long ∙ ap length made;
        lists = line-long written;
        shows = shown ∙ ap (sets i 0) (front ∙ made);
        tells = written.stands;
      }

-- ---- whole, or not yet

module _ (used : ℕ) (r : Repair) (h : List ℕ) {a : Fed} {h' i j l m : List ℕ} where
  pub whole-header : r.stage ≡ 0 → Does (header_whole used r h) a h' i j l m → Does (whole used r h) a h' i j l m
  unfolding whole
  whole-header e d = rw (eq-eqb r.stage 0 e) d

  pub whole-stripe : r.stage ≢ 0 → Does (stripe_whole used r h) a h' i j l m → Does (whole used r h) a h' i j l m
  unfolding whole
  whole-stripe e d = rw (ne_eqb r.stage 0 e) d

  -- with the size as the code has it
  module _ {size : ℕ} (told : size ≡ size_now r h) where
    pub now_whole : size ≤ r.have → Does (whole used r h) a h' i j l m → Does (came used r h) a h' i j l m
    unfolding came
    now_whole e d = rw (← told, le-ltb r.have size e) d

module _ (used : ℕ) (r : Repair) (h : List ℕ) {a : Fed} {size : ℕ} (told : size ≡ size_now r h) where
  pub lacks_still : r.have < size → a ≡ record { state = r; used = used; written = 0; listed = 0 } → (o p : List ℕ) → Does (came used r h) a h o o p p
  unfolding came
  lacks_still e is o p = rw (← told, lt-ltb r.have size e) (silent used r h o p is)

-- bytes are held
module _ (r : Repair) (bytes h : List ℕ) {a : Fed} {s : Repair} {g h' i j l m : List ℕ} where
  pub bytes-held : g ≡ sets h r.have bytes → s ≡ holding r (r.have + length bytes) → Does (came (length bytes) s g) a h' i j l m
      → Does (took r bytes h) a h' i j l m
  unfolding took
  bytes-held e f d = rw (← e, ← f) d

-- ---- the part of the input that is lacking

module _ {k n count : ℕ} (input : List ℕ) (lacks : k ≡ n) (told : count ≡ min k (length input)) where
  pub part_lacking : take count input ≡ take n input
  part_lacking = rw (told, lacks) (take_min n input)

  pub part-short : length (take count input) ≤ n
  part-short = rw part_lacking (simp length-take (omega arith))

-- ---- nothing more is held

module _ (used : ℕ) (r : Repair) (h i l : List ℕ) where
  pub one_too_many : r.stage ≡ 2 → passed used r h ≡ over_with used r h 11
  unfolding passed
  one_too_many e = rw (eq-eqb r.stage 2 e)

  pub passed_over : {a : Fed} → r.stage ≢ 2 → a ≡ record { state = r; used = used; written = 0; listed = 0 } → Does (passed used r h) a h i i l l
  unfolding passed
  passed_over e is = rw (ne_eqb r.stage 2 e) (silent used r h i l is)

-- ---- a step

module _ (r : Repair) (input h : List ℕ) (room listRoom : ℕ) where
  -- which step it is
  pub without_input : length input ≡ 0 → step_of r input h room listRoom ≡ idle r h
  unfolding step_of
  without_input e = rw (eq-eqb (length input) 0 e)

  module _ (some : length input ≢ 0) where
    pub without_line : listRoom < line_room → step_of r input h room listRoom ≡ idle r h
    unfolding step_of
    without_line e = rw (ne_eqb (length input) 0 some, lt-ltb listRoom line_room e)

    module _ (wide : line_room ≤ listRoom) where
      pub passing : size_now r h ≤ r.have → step_of r input h room listRoom ≡ passed (length input) r h
      unfolding step_of
      passing e = rw (ne_eqb (length input) 0 some, le-ltb listRoom line_room wide, le-ltb r.have (size_now r h) e)

      module _ (short : r.have < size_now r h) where
        pub held_too_short : length h < size_now r h → step_of r input h room listRoom ≡ idle r h
        unfolding step_of
        held_too_short e = rw (ne_eqb (length input) 0 some, le-ltb listRoom line_room wide, lt-ltb r.have (size_now r h) short, lt-ltb (length h) (size_now r h) e)

        module _ (holds : size_now r h ≤ length h) where
          pub image_too_short : room < size_now r h → step_of r input h room listRoom ≡ idle r h
          unfolding step_of
          image_too_short e =
              rw (
                ne_eqb (length input) 0 some,
                le-ltb listRoom line_room wide,
                lt-ltb r.have (size_now r h) short,
                le-ltb (length h) (size_now r h) holds,
                lt-ltb room (size_now r h) e,
              )

          pub taking : size_now r h ≤ room → step_of r input h room listRoom ≡ took r (take (size_now r h - r.have) input) h
          unfolding step_of
          taking e =
              rw (
                ne_eqb (length input) 0 some,
                le-ltb listRoom line_room wide,
                lt-ltb r.have (size_now r h) short,
                le-ltb (length h) (size_now r h) holds,
                le-ltb room (size_now r h) e,
              )

-- ---- close

module _ (r : Repair) (room : ℕ) where
  pub no_room_to_close : room < line_room → [] ≡ closing r room
  unfolding closing
  no_room_to_close h = rw (lt-ltb room line_room h)

  module _ (enough : line_room ≤ room) where
    pub closed_in_header : r.stage ≡ 0 → refused_line 10 ≡ closing r room
    unfolding closing
    closed_in_header e = rw (le-ltb room line_room enough, eq-eqb r.stage 0 e)

    pub closed_in_stripes : r.stage ≡ 1 → refused_line 11 ≡ closing r room
    unfolding closing
    closed_in_stripes e = rw (le-ltb room line_room enough, ne_eqb r.stage 0 (λ z. omega arith), eq-eqb r.stage 1 e)

    pub closed_already : r.stage ≢ 0 → r.stage ≢ 1 → [] ≡ closing r room
    unfolding closing
    closed_already e f = rw (le-ltb room line_room enough, ne_eqb r.stage 0 e, ne_eqb r.stage 1 f)

-- what a line's writing says of close
pub line_closes : {text line o p : List ℕ} {n : ℕ} → text ≡ line → Written o 0 text p n → (n ≡ length line) × (p ≡ sets o 0 line)
line_closes e written = rw (sym e) (line-long written, written.stands)

pub no_line_closes : (o : List ℕ) {line : List ℕ} → [] ≡ line → (◌≡◌ {A = ℕ} 0 (length line)) × (o ≡ sets o 0 line)
no_line_closes o e = rw (sym e) (refl, refl)
