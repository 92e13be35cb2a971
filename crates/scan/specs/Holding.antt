-- What is held of a stripe between the calls, and that it follows from the history: each member's position, register and tag bytes are
-- what its bytes so far make them, and the work buffer is the combination of all data so far. Assumes nothing.
use Rattle.std.specs.Prelude.{◌≡◌, List, [], map, ℕ, ◌+◌, ◌*◌, ◌^◌, ◌≤◌, ◌<◌, length, get_or, take}
use Rattle.xor.specs.Xors.{combination}
use Rattle.layout.specs.declared.Array.{Array}
use Rattle.format.specs.Formats.{Format}
use Rattle.tag.specs.Blocks.{format_at, data_of, tag_of}
use Rattle.stripe.specs.Formats.{register_of}
use Rattle.scan.specs.declared.Scan.{Scan}
use Rattle.scan.specs.Scans.{registers_of}

-- over any format of block
pub record Held (F : Format) : Type 0 where
  pub at : List ℕ
  pub register : List ℕ
  pub tag : List ℕ
  pub work : List ℕ

-- of n members, whose history this is; the lists may be longer than n members need, and a tag byte that has not come is zero
pub record Follows (F : Format) (n : ℕ) (h : Held F) (history : List (List ℕ)) : Type 0 where
  pub members : length history ≡ n
  pub at_long : n ≤ length h.at
  pub register-long : n ≤ length h.register
  pub tag-long : F.tag_length * n ≤ length h.tag
  pub fits : (i : ℕ) → length (get_or history i []) ≤ F.block_length
  pub at_is : take n h.at ≡ map length history
  pub register_is : take n h.register ≡ map (register_of F) history
  pub tag_is : (i : ℕ) → i < n → (j : ℕ) → j < F.tag_length → get_or h.tag (F.tag_length * i + j) 0 ≡ get_or (tag_of F (get_or history i [])) j 0
  pub work_is : h.work ≡ combination F.data_length (map (data_of F) history)

-- by the declared state and the lent buffer
abbrev pub held : (F : Format) → Scan → List ℕ → Held F
held F s w = record { at = s.at; register = registers_of F s; tag = s.tag; work = w }

-- of an array and a stripe: the state's numbers are theirs, and it has sixteen values, of no more bits than a guard has, and bytes that wait
pub record Holds (a : Array) (stripe : ℕ) (s : Scan) (w : List ℕ) (history : List (List ℕ)) : Type 0 where
  pub array : s.array ≡ a
  pub place : s.stripe ≡ stripe
  pub values : length s.register ≡ 16
  pub narrow : (m : ℕ) → m < 16 → get_or s.register m 0 < 256 ^ (format_at a).quarter
  pub waiters : length s.waiting ≡ 16
  pub follows : Follows (format_at a) a.members (held (format_at a) s w) history
