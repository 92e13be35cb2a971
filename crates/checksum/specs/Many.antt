-- The checksums of many runs at once. Assumes nothing.
use Rattle.std.specs.Prelude.{List, [], ◌∷◌, ℕ, zero, suc, take, drop}
use Rattle.checksum.specs.Checksum.{checksum}

-- the checksums of n runs of 512 bytes, each `stride` bytes after the one before; what lies past the end has no bytes
unfoldable pub checksums_of : ℕ → ℕ → List ℕ → List ℕ
checksums_of zero stride bytes = []
checksums_of (suc n) stride bytes = checksum (take 512 bytes) ∷ checksums_of n stride (drop stride bytes)
