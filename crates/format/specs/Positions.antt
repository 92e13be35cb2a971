-- The bytes of a block by their position: data, then the three fields of the tag. Assumes nothing.
use Rattle.std.specs.Prelude.{ℕ, ◌+◌, ◌-◌, ◌*◌, cond, ltb}
use Rattle.format.specs.Formats.{Format}
use Rattle.format.specs.declared.Part.{Part}
use Rattle.format.specs.declared.Part.TheVariants.{Data, Guard, Application, Reference, Past}

-- what the byte at a position is, with its place in its own part
unfoldable pub part_at : Format → ℕ → Part
part_at F p =
    cond (ltb p F.data_length) (Data p)
    (cond (ltb p (F.data_length + F.quarter)) (Guard (p - F.data_length))
    (cond (ltb p (F.data_length + 2 * F.quarter)) (Application (p - (F.data_length + F.quarter)))
    (cond (ltb p F.block_length) (Reference (p - (F.data_length + 2 * F.quarter))) Past)))
