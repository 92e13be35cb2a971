-- A piece cut in data and tag by the code's numbers leaves what the definitions say: the state advanced, and the work buffer.
-- Assumes nothing.
use mathlib.Core.Path.{◌≡◌, refl, ap, ap₂, subst, ◌∙◌}
use mathlib.Core.List.{List, [], ◌∷◌, ◌++◌}
use Prim.Native.Nat.{ℕ, zero, suc, ◌+◌, ◌-◌, ◌*◌, ◌≤◌, min}
use native.Mathlib.Nat.{le_of_suc-le-suc, not-suc-le-zero, zero-min, min-zero, suc-min-suc}
use native.Mathlib.Omega.{arith}
use lib.ListN.{length, get_or, take, drop, set, length-take, length-drop, take-append-drop}
use lib.Seq.{take_all, sets}
use Rattle.xor.specs.Xors.{xors}
use Rattle.format.specs.Formats.{Format, value_in, waiting_in, register_from}
use Rattle.tag.specs.Blocks.{format_at}
use Rattle.scan.specs.declared.Scan.{Scan}
use Rattle.scan.specs.Scans.{data_of_piece, tag_of_piece, positions, tags, register_at, advanced}
use Rattle.scan.specs.Steps.{combined_from, tags_from}

take_min : (k : ℕ) (l : List ℕ) → take (min k (length l)) l ≡ take k l
take_min zero l = rw zero-min
take_min (suc k) [] = rw min-zero
take_min (suc k) (x ∷ l) = rw (suc-min-suc, take_min k l)

drop_min : (k : ℕ) (l : List ℕ) → drop (min k (length l)) l ≡ drop k l
drop_min zero l = rw zero-min
drop_min (suc k) [] = rw min-zero
drop_min (suc k) (x ∷ l) = rw (suc-min-suc, drop_min k l)

-- a part of a buffer with bytes added, and what follows the part, is the buffer with the bytes added
xors-part : (w b : List ℕ) (k : ℕ) → length b ≤ k → xors (take k w) b ++ drop k w ≡ xors w b
unfolding xors
xors-part [] b zero h = refl
xors-part [] b (suc k) h = refl
xors-part (x ∷ w) [] zero h = refl
xors-part (x ∷ w) [] (suc k) h = ap (λ (l : List ℕ). x ∷ l) (take-append-drop k w)
xors-part (x ∷ w) (y ∷ b) zero h = absurd (not-suc-le-zero h)
xors-part (x ∷ w) (y ∷ b) (suc k) h = rw (xors-part w b k (le_of_suc-le-suc h))

-- a state with other positions, values, bytes that wait and tag bytes
abbrev pub holding : Scan → List ℕ → List ℕ → List ℕ → List ℕ → Scan
holding s at register waiting tag = record { array = s.array; stripe = s.stripe; at = at; register = register; waiting = waiting; tag = tag }

module _ (F : Format) (p : ℕ) (bytes : List ℕ) (room d : ℕ) (left : room ≡ F.data_length - p) (cut : d ≡ min room (length bytes)) where
  pub data_part : take d bytes ≡ data_of_piece F p bytes
  unfolding data_of_piece
  data_part = rw (cut, left) (take_min (F.data_length - p) bytes)

  pub tag-part : take (length bytes - d) (drop d bytes) ≡ tag_of_piece F p bytes
  unfolding tag_of_piece
  tag-part = take_all (length bytes - d) (drop d bytes) (simp length-drop (omega arith)) ∙ rw (cut, left) (drop_min (F.data_length - p) bytes)

  pub tags_by_cut : (t tag : List ℕ) (m : ℕ) → tag ≡ sets t (F.tag_length * m + (p + room - F.data_length)) (take (length bytes - d) (drop d bytes)) → tag ≡ tags_from F p t m bytes
  tags_by_cut t tag m e =
      let place : p + room - F.data_length ≡ p - F.data_length = omega (arith, left) in
      e ∙ ap₂ (λ (k : ℕ) (l : List ℕ). sets t (F.tag_length * m + k) l) place tag-part

  pub work_by_cut : (w y : List ℕ) (from : ℕ) → length w ≡ F.data_length → from ≡ F.data_length - room → y ≡ xors (take (from + d - from) (drop from w)) (take d bytes)
      → take from w ++ (y ++ drop (from + d - from) (drop from w)) ≡ combined_from F p w bytes
  work_by_cut w y from long f e =
      let same : from ≡ min p (length w) = omega (arith, left, long, f) in
      let size : from + d - from ≡ d = omega arith in
      let short : length (take d bytes) ≤ d = simp length-take (omega arith) in
      let front : take from w ≡ take p w = rw same (take_min p w) in
      let back : drop from w ≡ drop p w = rw same (drop_min p w) in
      let added : y ++ drop (from + d - from) (drop from w) ≡ xors (drop from w) (take d bytes) =
      rw (e, size) (xors-part (drop from w) (take d bytes) d short) in
      ap₂ (λ (a b : List ℕ). a ++ b) front (added ∙ ap₂ xors back data_part)

-- a whole block is cut where its data end
module _ (F : Format) (bytes : List ℕ) (d : ℕ) (size : d ≡ F.data_length) where
  pub whole_data : take (d - 0) bytes ≡ data_of_piece F 0 bytes
  unfolding data_of_piece
  whole_data = ap (λ (k : ℕ). take (k - 0) bytes) size

  pub whole-work : (w y : List ℕ) → y ≡ xors w (take (d - 0) bytes) → y ≡ combined_from F 0 w bytes
  whole-work w y e = e ∙ ap (xors w) whole_data

  pub whole-tags : (t tag : List ℕ) (m at b : ℕ) → length bytes ≡ F.block_length → b ≡ F.block_length → at ≡ F.tag_length * m
      → tag ≡ sets t at (take (b - d) (drop d bytes)) → tag ≡ tags_from F 0 t m bytes
  unfolding tag_of_piece
  whole-tags t tag m at b long block here e =
      let from : d ≡ F.data_length - 0 = omega (arith, size) in
      let all : take (b - d) (drop d bytes) ≡ drop (F.data_length - 0) bytes =
      take_all (b - d) (drop d bytes) (simp length-drop (omega (arith, long, block))) ∙ ap (λ (k : ℕ). drop k bytes) from in
      e ∙ ap₂ (sets t) (here ∙ omega arith) all

-- what a piece passed on leaves: a register, the work buffer and the tag bytes
abbrev pub PassedOn : Format → ℕ → ℕ → List ℕ → List ℕ → List ℕ → List ℕ → ℕ → ℕ → List ℕ → Type 0
PassedOn F m after work work' tag tag' p register bytes =
    (after ≡ F.advance p register (data_of_piece F p bytes)) × ((work' ≡ combined_from F p work bytes) × (tag' ≡ tags_from F p tag m bytes))

-- it is the same by other names of the position, the register and the bytes
pub passed_alike : (F : Format) (m after : ℕ) (work work' tag tag' : List ℕ) (p q register first : ℕ) (bytes part : List ℕ) → q ≡ p → first ≡ register → part ≡ bytes
    → PassedOn F m after work work' tag tag' q first part → PassedOn F m after work work' tag tag' p register bytes
passed_alike F m after work work' tag tag' p q register first bytes part here same all e =
    subst (λ (k : ℕ). PassedOn F m after work work' tag tag' k register bytes) here
    (subst (λ (k : ℕ). PassedOn F m after work work' tag tag' q k bytes) same
    (subst (λ (l : List ℕ). PassedOn F m after work work' tag tag' q first l) all e))

-- a state whose register and tag bytes are those after the piece is the state advanced
pub advanced_by : (s : Scan) (m : ℕ) (bytes : List ℕ) (at values waiting : List ℕ) (before after v w : ℕ) (tag : List ℕ)
    → before ≡ register_from (format_at s.array) (get_or s.register m 0) (get_or s.waiting m 0)
    → after ≡ (format_at s.array).advance (get_or s.at m 0) before (data_of_piece (format_at s.array) (get_or s.at m 0) bytes)
    → v ≡ value_in (format_at s.array) after → w ≡ waiting_in (format_at s.array) after
    → at ≡ set s.at m (get_or s.at m 0 + length bytes) → values ≡ set s.register m v → waiting ≡ set s.waiting m w
    → tag ≡ tags_from (format_at s.array) (get_or s.at m 0) s.tag m bytes → holding s at values waiting tag ≡ advanced s m bytes
unfolding advanced positions tags
advanced_by s m bytes at values waiting before after v w tag b r ev ew a h k t =
    let F = format_at s.array in
    let p = get_or s.at m 0 in
    let stepped : after ≡ F.advance p (register_at F s m) (data_of_piece F p bytes) = r ∙ ap (λ (x : ℕ). F.advance p x (data_of_piece F p bytes)) b in
    let values-are = h ∙ ap (set s.register m) (ev ∙ ap (value_in F) stepped) in
    let waiting-are = k ∙ ap (set s.waiting m) (ew ∙ ap (waiting_in F) stepped) in
    ap₂ (λ (x y : List ℕ). holding s x y waiting tag) a values-are ∙ ap₂ (λ (x y : List ℕ). holding s (set s.at m (p + length bytes)) (set s.register m (value_in F (F.advance p (register_at F s m) (data_of_piece F p bytes)))) x y) waiting-are t
