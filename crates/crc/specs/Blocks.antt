-- The guards of many runs at once. Assumes nothing.
use Rattle.std.specs.Prelude.{List, [], ◌∷◌, ℕ, zero, suc, take, drop}
use Rattle.crc.specs.Guard.{guard}

-- the guards of n runs of 512 bytes, each `stride` bytes after the one before; what lies past the end has no bytes
unfoldable pub guards_of : ℕ → ℕ → List ℕ → List ℕ
guards_of zero stride bytes = []
guards_of (suc n) stride bytes = guard (take 512 bytes) ∷ guards_of n stride (drop stride bytes)
