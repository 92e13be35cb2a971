-- `castagnoli_rows::below::met` meets its contract: the window has all that meets the byte.
-- Assumes nothing.
use mathlib.Core.Path.{◌≡◌, ap, ◌∙◌}
use Prim.Native.Nat.{ℕ, ◌+◌, ◌-◌}
use native.Mathlib.Omega.{arith}
use lib.ListN.{get_or, take, drop}
use Rattle.std.specs.Array.{IsWholeChunk}
use Rattle.castagnoli_rows.proofs.Chunks.{mix-window}
use Rattle.castagnoli_rows.proofs.below.met.Goals as goal

pub returns : goal.returns
returns g c =
    let r = g.row.R in
    let w = c.args.w.now in
    let k = c.args.k in
    let window = c.unwrap.result.now in
    let whole : IsWholeChunk (take (k + r - k) (drop k w)) window r = rw c.unwrap.ensures at c.as_array.ensures.cases in
    let wide : k + r - k ≡ r = omega arith in
    rw c.mixed.ensures
    (mix-window g.P.PlacesBelow.places r (get_or c.args.b.now k 0) window w k g.met.P.PlacesBelow.within (whole.same ∙ ap (λ (n : ℕ). take n (drop k w)) wide))
