-- `tag::put_number` meets its contract. Assumes nothing.
use mathlib.Core.Path.{ap, ◌∙◌}
use mathlib.Core.List.{List}
use Prim.Native.Nat.{ℕ, ◌-◌}
use lib.ListN.{take, drop}
use lib.Seq.{sets}
use Rattle.tag.proofs.Numbers.{low_of_eight}
use Rattle.tag.proofs.put_number.Goals as goal

pub returns : goal.returns
returns c =
    let a = c.args in
    c.put.ensures
    ∙ ap (λ (l : List ℕ). sets a.bytes.now a.at (take (8 - (8 - a.count)) (drop (8 - a.count) l))) c.to_be_bytes-eight.ensures
    ∙ ap (sets a.bytes.now a.at) (low_of_eight a.count a.number c.requires.count_bound)
