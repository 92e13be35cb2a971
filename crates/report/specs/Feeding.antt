-- A report that is fed: what one call of feed does, and what close and new give, on any state and any buffers, not only those that a
-- run leads to. A call uses a first part of the input and writes at most one line. Assumes nothing.
use Rattle.std.specs.Prelude.{ℕ, ◌+◌, ◌-◌, ◌/◌, ◌%◌, ◌≡◌, Bool, cond, ◌&&◌, ◌||◌, List, [], leb, ltb, eqb, length, get_or, take, drop, replicate}
use Rattle.std.proofs.lemmas.List.Edits.{sets}
use Rattle.layout.specs.declared.Array.{Array}
use Rattle.layout.specs.Arrays.{no_array, stripe_refusal}
use Rattle.format.specs.Formats.{most_data}
use Rattle.tag.specs.Blocks.{format_at}
use Rattle.stripe.specs.Stripes.{stripe_length}
use Rattle.scan.specs.declared.Scan.{Scan}
use Rattle.scan.specs.Scans.{empty_scan, start_state, start_work, piece_state, piece_work, finish_numbers}
use Rattle.lines.specs.declared.tally.Tally.{Tally}
use Rattle.lines.specs.Lines.{first_line, refused_line, stripe_line, total_line, line_room}
use Rattle.lines.specs.Headers.{header_room, header_size, array_in, header_refusal}
use Rattle.report.specs.declared.Report.{Report}
use Rattle.report.specs.declared.Fed.{Fed}
use Rattle.report.specs.Reports.{none, counted}

-- the bytes of a work buffer: enough for a block's data in every format
abbrev pub work_length : ℕ
work_length = most_data

-- ---- the scan of a stripe, which is lent the front of the work buffer: as many bytes as a block of the array has of data

abbrev pub front : Array → List ℕ → List ℕ
front a work = take (format_at a).data_length work

-- the work buffer, with these bytes at its front
abbrev pub fronted : List ℕ → List ℕ → List ℕ
fronted work bytes = sets work 0 bytes

-- a start
abbrev pub begun_scan : Array → ℕ → List ℕ → Scan
begun_scan a stripe work = start_state a stripe (length (front a work))

abbrev pub begun_work : Array → ℕ → List ℕ → List ℕ
begun_work a stripe work = fronted work (start_work a stripe (front a work))

-- a piece of a member's block
abbrev pub took_scan : Scan → ℕ → List ℕ → List ℕ → Scan
took_scan scan member bytes work = piece_state scan member bytes (length (front scan.array work))

abbrev pub took_work : Scan → ℕ → List ℕ → List ℕ → List ℕ
took_work scan member bytes work = fronted work (piece_work scan member bytes (front scan.array work))

-- the finish, in numbers
abbrev pub judgement : Scan → List ℕ → List ℕ
judgement scan work = finish_numbers scan (front scan.array work)

-- what a call leaves: how many bytes of the input it used, the state, the work buffer, and the line that it wrote, [] where it wrote none;
-- of several calls, their lines joined
pub record Step : Type 0 where
  pub used : ℕ
  pub state : Report
  pub work : List ℕ
  pub line : List ℕ

-- a call does a step: its answer is the step's, the work buffer is, and what it wrote stands at the start of the output buffer, whose other
-- bytes stay
pub record Does (step : Step) (answer : Fed) (work out outAfter : List ℕ) : Type 0 where
  pub uses : answer.used ≡ step.used
  pub leaves : answer.state ≡ step.state
  pub writes : answer.written ≡ length step.line
  pub combines : work ≡ step.work
  pub shows : outAfter ≡ sets out 0 step.line

abbrev pub tally_of : Report → Tally
tally_of r = r.tally

-- ---- the stages: the header is coming; the stripes are; all stripes have come; the last line is written

abbrev pub header_stage : ℕ
header_stage = 0

abbrev pub stripes_stage : ℕ
stripes_stage = 1

abbrev pub behind_stage : ℕ
behind_stage = 2

abbrev pub ended_stage : ℕ
ended_stage = 3

-- ---- states: with more bytes held, of the header or by the scan; at the start of a stage or of a stripe; with the last line written

abbrev pub holding : Report → List ℕ → ℕ → Scan → Report
holding r header have scan = record { stage = r.stage; header = header; have = have; scan = scan; tally = r.tally }

abbrev pub entering : ℕ → List ℕ → Scan → Tally → Report
entering stage header scan t = record { stage = stage; header = header; have = 0; scan = scan; tally = t }

abbrev pub ended : Report → Report
ended r = record { stage = ended_stage; header = r.header; have = r.have; scan = r.scan; tally = r.tally }

-- ---- the header

-- the bytes of it that came
abbrev pub header_came : Report → List ℕ
header_came r = take r.have r.header

-- the header is whole: the first line, and the scan of the first stripe; or the header's refusal
unfoldable pub header_whole : ℕ → Report → List ℕ → Step
header_whole used r work =
    let a = array_in (header_came r) in
    cond (eqb (header_refusal (header_came r)) 0)
    (record { used = used; state = entering stripes_stage r.header (begun_scan a 0 work) none; work = begun_work a 0 work; line = first_line a })
    (record { used = used; state = ended r; work = work; line = refused_line (header_refusal (header_came r)) })

-- more of it came: it is whole, or lacks bytes still
unfoldable pub header_held : ℕ → Report → List ℕ → Step
header_held used r work =
    cond (ltb r.have (header_size (header_came r))) (record { used = used; state = r; work = work; line = [] }) (header_whole used r work)

-- bytes of the header
unfoldable pub header_took : Report → List ℕ → List ℕ → Step
header_took r bytes work =
    header_held (length bytes) (holding r (sets r.header r.have bytes) (r.have + length bytes) r.scan) work

-- how many bytes the header lacks, as far as those tell that came
abbrev pub header_lacks : Report → ℕ
header_lacks r = header_size (header_came r) - r.have

-- ---- the stripes

-- a state within the stripes is fit: its array and stripe are in range, its stripe is not whole yet, and no count is above the number
-- of the stripes before it
unfoldable pub stripe_fit : Report → Bool
stripe_fit r =
    eqb (stripe_refusal r.scan.array r.scan.stripe) 0
    && ltb r.have (stripe_length r.scan.array)
    && leb r.tally.clean r.scan.stripe
    && leb r.tally.bad r.scan.stripe
    && leb r.tally.unchecked r.scan.stripe
    && leb r.tally.torn r.scan.stripe

-- the stripe has its verdict: its line, and the scan of the stripe after it, if there is one
unfoldable pub stripe_judged : ℕ → Report → List ℕ → List ℕ → Step
stripe_judged used r work verdict =
    let a = r.scan.array in
    let next = r.scan.stripe + 1 in
    let line = stripe_line r.scan.stripe verdict in
    let tally = counted (tally_of r) verdict in
    cond (ltb next a.stripes)
    (record { used = used; state = entering stripes_stage r.header (begun_scan a next work) tally; work = begun_work a next work; line = line })
    (record { used = used; state = entering behind_stage r.header r.scan tally; work = work; line = line })

-- the stripe is whole, with the scan's answer in numbers; where the scan refuses to judge, its refusal number, and the report is over
unfoldable pub stripe_whole : ℕ → Report → List ℕ → List ℕ → Step
stripe_whole used r work answer =
    cond (eqb (get_or answer 0 0) 1) (stripe_judged used r work (drop 2 answer))
    (record { used = used; state = ended r; work = work; line = refused_line (get_or answer 1 0) })

-- the member whose block comes now, and how many bytes it lacks
abbrev pub member_now : Report → ℕ
member_now r = r.have / (format_at r.scan.array).block_length

abbrev pub block_lacks : Report → ℕ
block_lacks r = (format_at r.scan.array).block_length - r.have % (format_at r.scan.array).block_length

-- bytes of that block
unfoldable pub stripe_took : Report → List ℕ → List ℕ → Step
stripe_took r bytes work =
    let scan = took_scan r.scan (member_now r) bytes work in
    let combined = took_work r.scan (member_now r) bytes work in
    let held = holding r r.header (r.have + length bytes) scan in
    cond (ltb (r.have + length bytes) (stripe_length r.scan.array))
    (record { used = length bytes; state = held; work = combined; line = [] })
    (stripe_whole (length bytes) held combined (judgement scan combined))

-- ---- feed: a step for each stage

-- the header takes what it lacks
abbrev pub header_step : Report → List ℕ → List ℕ → Step
header_step r input work = header_took r (take (header_lacks r) input) work

-- the whole input passed over
abbrev pub skipped : Report → List ℕ → List ℕ → Step
skipped r input work = record { used = length input; state = r; work = work; line = [] }

-- the block that comes now takes what it lacks; an unfit state, which no run leads to, passes the input over
abbrev pub stripe_step : Report → List ℕ → List ℕ → Step
stripe_step r input work = cond (stripe_fit r) (stripe_took r (take (block_lacks r) input) work) (skipped r input work)

-- behind the last stripe any byte is one too many
abbrev pub too_long : Report → List ℕ → List ℕ → Step
too_long r input work = record { used = length input; state = ended r; work = work; line = refused_line 11 }

-- by the stage; when the last line is written, all that comes is passed over
unfoldable pub stage_step : Report → List ℕ → List ℕ → Step
stage_step r input work =
    cond (eqb r.stage header_stage) (header_step r input work)
    (cond (eqb r.stage stripes_stage) (stripe_step r input work)
    (cond (eqb r.stage behind_stage) (too_long r input work)
    (skipped r input work)))

-- nothing done
abbrev pub idle : Report → List ℕ → Step
idle r work = record { used = 0; state = r; work = work; line = [] }

-- of a state, an input, a work buffer, and the room for output
unfoldable pub feed_step : Report → List ℕ → List ℕ → ℕ → Step
feed_step r input work room = cond (ltb room line_room || eqb (length input) 0) (idle r work) (stage_step r input work)

abbrev pub feed_used : Report → List ℕ → List ℕ → ℕ → ℕ
feed_used r input work room = (feed_step r input work room).used

abbrev pub feed_state : Report → List ℕ → List ℕ → ℕ → Report
feed_state r input work room = (feed_step r input work room).state

abbrev pub feed_work : Report → List ℕ → List ℕ → ℕ → List ℕ
feed_work r input work room = (feed_step r input work room).work

abbrev pub feed_line : Report → List ℕ → List ℕ → ℕ → List ℕ
feed_line r input work room = (feed_step r input work room).line

-- ---- close: the last line, if it is not written yet

unfoldable pub close_line : Report → ℕ → List ℕ
close_line r room =
    cond (ltb room line_room) []
    (cond (eqb r.stage header_stage) (refused_line 10)
    (cond (eqb r.stage stripes_stage) (refused_line 11)
    (cond (eqb r.stage behind_stage) (total_line r.scan.array (tally_of r)) [])))

-- ---- new

unfoldable pub fresh_report : Report
fresh_report = entering header_stage (replicate header_room 0) (empty_scan no_array 0) none
