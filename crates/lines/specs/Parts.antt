-- A line as the code puts it together, part by part. Assumes nothing.
use Rattle.std.specs.Prelude.{ℕ, List, [], ◌∷◌, ◌++◌}
use Rattle.lines.specs.Text.{decimal}
use Rattle.lines.specs.declared.Part.{Part}
use Rattle.lines.specs.declared.Part.TheVariants.{Bytes, Decimal}

-- bytes as they are, or a number in decimal
abbrev pub part_text : Part → List ℕ
part_text (Bytes bytes) = bytes.now
part_text (Decimal n) = decimal n

abbrev pub text : List Part → List ℕ
text [] = []
text (part ∷ parts) = part_text part ++ text parts
