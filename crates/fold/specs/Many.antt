-- Sixteen runs: how many of them are whole, and which guards are known so far. Assumes nothing.
use Rattle.std.specs.Prelude.{◌≡◌, List, ℕ, ◌+◌, ◌*◌, ◌≤◌, ◌<◌, get_or, take, drop}
use Rattle.crc.specs.Guard.{guard}

-- of sixteen runs of 512 bytes, a stride apart in `end` bytes, the first n are whole and no other
pub record Whole (stride end n : ℕ) : Type 0 where
  pub few : n ≤ 16
  pub within : (k : ℕ) → k < n → k * stride + 512 ≤ end
  pub past : (k : ℕ) → n ≤ k → k < 16 → end < k * stride + 512

-- the first n numbers of r are the guards of the first n runs, a stride apart
abbrev pub Known : ℕ → List ℕ → List ℕ → ℕ → Type 0
Known stride b r n = (l : ℕ) → l < n → get_or r l 0 ≡ guard (take 512 (drop (l * stride) b))
