-- `stripe::scrubbing::judged` meets its contract.
-- Assumes nothing.
use mathlib.Core.Path.{refl, sym, ap, ◌∙◌}
use mathlib.Core.Bool.{not, ◌||◌}
use mathlib.Core.List.{List, ◌∷◌}
use Prim.Native.Nat.{ℕ, ◌-◌}
use native.Mathlib.Omega.{arith}
use lib.Dec.{eqb, ltb}
use lib.ListN.{length, take}
use Rattle.tag.specs.Blocks.{format_at}
use Rattle.verdict.specs.Verdicts.{judged_at}
use Rattle.verdict.proofs.Behind.{judged-told}
use Rattle.stripe.specs.Stripes.{others_data}
use Rattle.stripe.specs.Steps.{standings}
use Rattle.stripe.proofs.Fronts.{lent-front}
use Rattle.stripe.proofs.Rooms.{members_most}
use Rattle.stripe.proofs.Rows.{length-others_data}
use Rattle.stripe.proofs.Scrubs.{sound_scrub, scrub_found}
use Rattle.stripe.proofs.scrubbing.judged.Goals as goal

pub slice_bounds-judge_at-end : goal.slice_bounds-judge_at-end
slice_bounds-judge_at-end c = let s = c.args.held.now.stripe in omega (arith, members_most s.array s.number s.in_array)

pub returns : goal.returns
returns c =
    let s = c.args.held.now.stripe in
    let bytes = c.args.held.now.bytes.now in
    let n = s.array.members in
    let whole = others_data (format_at s.array) n n bytes in
    let members = take (n - 0) c.standings-standing.result in
    let place = c.first_torn-place.result in
    let left = c.guards_left-left.result in
    let size = c.data_length.ensures ∙ sym (length-others_data (format_at s.array) n n bytes) in
    ap (λ (c : List ℕ). 1 ∷ 0 ∷ c)
    (c.judge_at.ensures ∙ ap (λ (k : ℕ). judged_at members (ltb place k || not (eqb left 0)) place) size ∙ judged-told whole left members place c.first_torn-place.ensures)
    ∙ sym (scrub_found s.array s.number bytes (sound_scrub s.array s.number (length bytes) s.in_array c.args.held.now.whole) members whole left
    (lent-front (standings s.array s.number bytes) c.standings-standing.result n n refl c.standings-standing.ensures) refl c.guards_left-left.ensures)
