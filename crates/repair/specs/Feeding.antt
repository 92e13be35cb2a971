-- A repair that is fed: what one step does, on any state and any buffers, not only those that a run leads to. The bytes of the header, and then
-- those of each stripe, are held in a lent buffer until they are whole. A step takes bytes up to the end of what comes now. Assumes nothing.
use Rattle.std.specs.Prelude.{ℕ, ◌+◌, ◌-◌, ◌≡◌, ◌≤◌, Bool, cond, ◌||◌, List, [], ltb, eqb, length, take}
use Rattle.std.proofs.lemmas.List.Edits.{sets}
use Rattle.layout.specs.Arrays.{no_array, stripe_refusal}
use Rattle.layout.specs.declared.Array.{Array}
use Rattle.stripe.specs.Stripes.{stripe_length}
use Rattle.lines.specs.Lines.{refused_line, line_room}
use Rattle.lines.specs.Headers.{header_size, array_in}
use Rattle.mend.specs.Mending.{mended, listed}
use Rattle.repair.specs.declared.Repair.{Repair}
use Rattle.repair.specs.declared.Fed.{Fed}
use Rattle.repair.specs.Repairs.{repair_refusal}

-- what a step leaves: how many bytes of the input it used, the state, the buffer that holds, and what it wrote of the image and of the list; of
-- several steps, what they wrote joined
pub record Step : Type 0 where
  pub used : ℕ
  pub state : Repair
  pub held : List ℕ
  pub image : List ℕ
  pub list : List ℕ

-- a call does a step: its answer, and its three buffers
pub record Does (step : Step) (answer : Fed) (held image image' list list' : List ℕ) : Type 0 where
  pub uses : answer.used ≡ step.used
  pub leaves : answer.state ≡ step.state
  pub holds : held ≡ step.held
  pub writes : answer.written ≡ length step.image
  pub lists : answer.listed ≡ length step.list
  pub shows : image' ≡ sets image 0 step.image
  pub tells : list' ≡ sets list 0 step.list

-- ---- the stages: in the header, in the stripes, behind the last one, and over

abbrev pub header_stage : ℕ
header_stage = 0

abbrev pub stripes_stage : ℕ
stripes_stage = 1

abbrev pub behind_stage : ℕ
behind_stage = 2

abbrev pub over_stage : ℕ
over_stage = 3

-- ---- states: with so many bytes held; at the start of a stripe; behind the last one; over

abbrev pub holding : Repair → ℕ → Repair
holding r have = record { stage = r.stage; have = have; array = r.array; stripe = r.stripe }

abbrev pub entering : ℕ → Array → ℕ → Repair
entering stage a stripe = record { stage = stage; have = 0; array = a; stripe = stripe }

abbrev pub over : Repair → Repair
over r = record { stage = over_stage; have = r.have; array = r.array; stripe = r.stripe }

-- over, with the line of a refusal's number
abbrev pub over_with : ℕ → Repair → List ℕ → ℕ → Step
over_with used r held number = record { used = used; state = over r; held = held; image = []; list = refused_line number }

unfoldable pub fresh_repair : Repair
fresh_repair = entering header_stage no_array 0

-- ---- what comes now

-- how many bytes it has, as far as those tell that are held; 0 where nothing more is held
unfoldable pub size_now : Repair → List ℕ → ℕ
size_now r held =
    cond (eqb r.stage header_stage) (header_size (take r.have held))
    (cond (eqb r.stage stripes_stage) (cond (eqb (stripe_refusal r.array r.stripe) 0) (stripe_length r.array) 0)
    0)

-- so many bytes stand in the buffer that holds, and have room in the image's; and the list has room for a line
pub record Room (size : ℕ) (held image list : List ℕ) : Type 0 where
  pub held_has : size ≤ length held
  pub image_has : size ≤ length image
  pub list_has : line_room ≤ length list

-- ---- it is whole

-- a header goes on to the image, and the first stripe comes; or the repair is over with its refusal
unfoldable pub header_whole : ℕ → Repair → List ℕ → Step
header_whole used r held =
    let header = take r.have held in
    cond (eqb (repair_refusal header) 0)
    (record { used = used; state = entering stripes_stage (array_in header) 0; held = held; image = header; list = [] })
    (over_with used r held (repair_refusal header))

-- a stripe is mended, and goes on to the image; then the next one comes, if there is one
abbrev pub next_stripe : Repair → Repair
next_stripe r = entering (cond (ltb (r.stripe + 1) r.array.stripes) stripes_stage behind_stage) r.array (r.stripe + 1)

unfoldable pub stripe_whole : ℕ → Repair → List ℕ → Step
stripe_whole used r held =
    let bytes = take r.have held in
    let new = mended r.array r.stripe bytes in
    record { used = used; state = next_stripe r; held = sets held 0 new; image = new; list = listed r.array r.stripe bytes }

unfoldable pub whole : ℕ → Repair → List ℕ → Step
whole used r held = cond (eqb r.stage header_stage) (header_whole used r held) (stripe_whole used r held)

-- ---- bytes of it: held behind those before, and it is whole or lacks bytes still

unfoldable pub came : ℕ → Repair → List ℕ → Step
came used r held =
    cond (ltb r.have (size_now r held)) (record { used = used; state = r; held = held; image = []; list = [] }) (whole used r held)

unfoldable pub took : Repair → List ℕ → List ℕ → Step
took r bytes held = came (length bytes) (holding r (r.have + length bytes)) (sets held r.have bytes)

-- ---- a step

abbrev pub idle : Repair → List ℕ → Step
idle r held = record { used = 0; state = r; held = held; image = []; list = [] }

-- where nothing more is held: behind the last stripe any byte is one too many; when it is over, and in a state that no run leads to, all that
-- comes is passed over
unfoldable pub passed : ℕ → Repair → List ℕ → Step
passed used r held =
    cond (eqb r.stage behind_stage) (over_with used r held 11)
    (record { used = used; state = r; held = held; image = []; list = [] })

-- there is no room for it: in the buffer that holds, or in the image's
abbrev pub too_short : Repair → List ℕ → ℕ → Bool
too_short r held room = ltb (length held) (size_now r held) || ltb room (size_now r held)

-- of a state, an input, the buffer that holds, and the room in the image's buffer and in the list's
unfoldable pub step_of : Repair → List ℕ → List ℕ → ℕ → ℕ → Step
step_of r input held room listRoom =
    cond (eqb (length input) 0 || ltb listRoom line_room) (idle r held)
    (cond (ltb r.have (size_now r held))
    (cond (too_short r held room) (idle r held) (took r (take (size_now r held - r.have) input) held))
    (passed (length input) r held))

-- ---- close: what the list still gets

unfoldable pub closing : Repair → ℕ → List ℕ
closing r listRoom =
    cond (ltb listRoom line_room) []
    (cond (eqb r.stage header_stage) (refused_line 10)
    (cond (eqb r.stage stripes_stage) (refused_line 11) []))
