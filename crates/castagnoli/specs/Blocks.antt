-- The checks of many runs at once. Assumes nothing.
use Rattle.std.specs.Prelude.{List, [], ◌∷◌, ℕ, zero, suc, take, drop}
use Rattle.castagnoli.specs.Castagnoli.{crc32c}

-- the checks of n runs of 4,096 bytes, each `stride` bytes after the one before; what lies past the end has no bytes
unfoldable pub guards_of : ℕ → ℕ → List ℕ → List ℕ
guards_of zero stride bytes = []
guards_of (suc n) stride bytes = crc32c (take 4096 bytes) ∷ guards_of n stride (drop stride bytes)
