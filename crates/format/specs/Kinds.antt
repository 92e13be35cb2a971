-- The format of each kind of the code. Assumes nothing.
use Rattle.format.specs.Formats.{Format}
use Rattle.format.specs.Methods.{t10, checksummed, large}
use Rattle.format.specs.declared.Kind.{Kind}
use Rattle.format.specs.declared.Kind.TheVariants.{Crc, Checksum, Large}

abbrev pub format_by : Kind → Format
format_by Crc = t10
format_by Checksum = checksummed
format_by Large = large
