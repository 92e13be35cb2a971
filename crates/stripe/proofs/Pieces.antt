-- Data in pieces, one behind the other, and data that are changed in their place while others are read. Assumes nothing.
use mathlib.Core.Path.{◌≡◌, refl, sym, ap, ap₂, ◌∙◌}
use mathlib.Core.Logic.{◌≢◌}
use mathlib.Core.List.{List, [], ◌++◌, append-nil}
use Prim.Native.Nat.{ℕ, ◌+◌, ◌*◌, ◌/◌, ◌≤◌, ◌<◌}
use native.Mathlib.Decide.{dec_lt}
use native.Mathlib.Omega.{arith}
use lib.ListN.{length, take, drop, drop_of_length-le, take-append-drop}
use lib.Seq.{sets, sets-eq, take-add, take_all, drop-drop}
use Rattle.copy.proofs.Puts.{sets-append}
use Rattle.xor.specs.Xors.{xors}
use Rattle.format.specs.Formats.{Format, piece_length}
use Rattle.format.proofs.Sizes.{times-next}
use Rattle.tag.specs.Blocks.{data_of}
use Rattle.verdict.specs.Verdicts.{lowest, nonzero}
use Rattle.verdict.proofs.Behind.{first_in_front, first_in_back}
use Rattle.stripe.specs.Tables.{span}
use Rattle.stripe.specs.Stripes.{block_of, others_data}
use Rattle.stripe.proofs.Blocks.{span-sets-below, span-sets_above}
use Rattle.stripe.proofs.Parity.{others_ext}
use Rattle.stripe.proofs.Rows.{length-span, length-others_data, span-xors, span_data}

-- ---- piece by piece

-- a piece ends where the next begins
pub piece_next : (k : ℕ) → k * piece_length + piece_length ≡ (k + 1) * piece_length
piece_next k = omega arith

-- a piece of the data is within them
pub piece_fits : (F : Format) (k : ℕ) → k < F.data_length / piece_length → k * piece_length + piece_length ≤ F.data_length
piece_fits F k here = omega (arith, F.data_pieces)

-- ---- a run put somewhere, span by span

pub span_none : (from : ℕ) (l : List ℕ) → span from 0 l ≡ []
unfolding span
span_none from l = refl

pub span-all : (l : List ℕ) (n : ℕ) → length l ≤ n → span 0 n l ≡ l
unfolding span
span-all l n h = take_all n l h

span_more : (from n k : ℕ) (l : List ℕ) → span from (n + k) l ≡ span from n l ++ span (from + n) k l
unfolding span
span_more from n k l = take-add n k (drop from l) ∙ ap (λ (x : List ℕ). take n (drop from l) ++ take k x) (drop-drop n from l)

-- one span more
pub put-more : (whole old : List ℕ) (to from n k : ℕ) → from + n ≤ length whole
    → sets (sets old to (span from n whole)) (to + n) (span (from + n) k whole) ≡ sets old to (span from (n + k) whole)
put-more whole old to from n k room =
    ap (λ (m : ℕ). sets (sets old to (span from n whole)) (to + m) (span (from + n) k whole)) (sym (length-span from n whole room))
    ∙ sets-append old to (span from n whole) (span (from + n) k whole) ∙ ap (sets old to) (sym (span_more from n k whole))

-- the same from the front
pub put_next : (whole old : List ℕ) (to n k : ℕ) → n ≤ length whole → sets (sets old to (span 0 n whole)) (to + n) (span n k whole) ≡ sets old to (span 0 (n + k) whole)
put_next whole old to n k room =
    let first : 0 + n ≡ n = omega arith in
    ap (λ (m : ℕ). sets (sets old to (span 0 n whole)) (to + n) (span m k whole)) (sym first) ∙ put-more whole old to 0 n k (omega arith)

-- and put to the front
pub front-next : (whole old : List ℕ) (n k : ℕ) → n ≤ length whole → sets (sets old 0 (span 0 n whole)) n (span n k whole) ≡ sets old 0 (span 0 (n + k) whole)
front-next whole old n k room =
    let first : 0 + n ≡ n = omega arith in
    ap (λ (m : ℕ). sets (sets old 0 (span 0 n whole)) m (span n k whole)) (sym first) ∙ put_next whole old 0 n k room

-- a buffer filled whole
pub sets-whole : (l vs : List ℕ) → length l ≡ length vs → sets l 0 vs ≡ vs
sets-whole l vs h =
    sets-eq vs l 0 (omega arith)
    ∙ ap (λ (x : List ℕ). vs ++ x) (drop_of_length-le l {i = 0 + length vs} (omega arith)) ∙ append-nil vs

-- with a piece of a run, or with a run of one piece
pub piece-whole : (whole piece : List ℕ) (from : ℕ) → length piece ≡ piece_length → from + piece_length ≤ length whole → sets piece 0 (span from piece_length whole) ≡ span from piece_length whole
piece-whole whole piece from long room = sets-whole piece (span from piece_length whole) (long ∙ sym (length-span from piece_length whole room))

pub one_piece : (whole piece : List ℕ) → length piece ≡ piece_length → length whole ≡ piece_length → sets piece 0 (span 0 piece_length whole) ≡ whole
one_piece whole piece long size = piece-whole whole piece 0 long (omega arith) ∙ span-all whole piece_length (omega arith)

-- as the data of all others are where blocks have one piece
pub made_piece : (F : Format) (n m : ℕ) (bytes piece made : List ℕ) → F.data_length ≡ piece_length → length piece ≡ piece_length
    → made ≡ sets piece 0 (span 0 piece_length (others_data F n m bytes)) → made ≡ others_data F n m bytes
made_piece F n m bytes piece made small long e = e ∙ one_piece (others_data F n m bytes) piece long (length-others_data F n m bytes ∙ small)

-- ---- the first place that is not zero, looked for piece by piece

module _ (whole : List ℕ) (from place : ℕ) (room : from + piece_length ≤ length whole) (e : place ≡ lowest (nonzero (span from piece_length whole))) where
  parts : drop from whole ≡ span from piece_length whole ++ drop (from + piece_length) whole
  unfolding span
  parts = sym (take-append-drop piece_length (drop from whole)) ∙ ap (λ (l : List ℕ). take piece_length (drop from whole) ++ l) (drop-drop piece_length from whole)

  pub first-here : place < piece_length → place ≡ lowest (nonzero (drop from whole))
  first-here h =
      e ∙ sym (ap (λ (l : List ℕ). lowest (nonzero l)) parts ∙ first_in_front (span from piece_length whole) (drop (from + piece_length) whole) (omega (arith, length-span from piece_length whole room)))

  pub first-later : piece_length ≤ place → from + piece_length + lowest (nonzero (drop (from + piece_length) whole)) ≡ from + lowest (nonzero (drop from whole))
  first-later h =
      let behind : lowest (nonzero (drop from whole)) ≡ length (span from piece_length whole) + lowest (nonzero (drop (from + piece_length) whole)) =
      ap (λ (l : List ℕ). lowest (nonzero l)) parts ∙ first_in_back (span from piece_length whole) (drop (from + piece_length) whole) (omega (arith, length-span from piece_length whole room)) in
      omega (arith, length-span from piece_length whole room)

pub first_nowhere : (whole : List ℕ) (from : ℕ) → length whole ≤ from → from ≡ from + lowest (nonzero (drop from whole))
unfolding nonzero
first_nowhere whole from h = let none : drop from whole ≡ [] = drop_of_length-le whole {i = from} h in rw none (omega arith)

-- ---- a member's data written in their place

module _ (F : Format) (bytes : List ℕ) (m : ℕ) (vs : List ℕ) (few : length vs ≤ F.block_length) where
  -- no other block is touched
  pub span-apart : (k : ℕ) → k ≢ m → (at size : ℕ) → at + size ≤ F.block_length
      → span (F.block_length * k + at) size (sets bytes (F.block_length * m) vs) ≡ span (F.block_length * k + at) size bytes
  span-apart k ne at size room = by_order (dec_lt k m)
    where
      by_order : Dec (k < m) → span (F.block_length * k + at) size (sets bytes (F.block_length * m) vs) ≡ span (F.block_length * k + at) size bytes
      by_order (yes l) = span-sets-below bytes (F.block_length * k + at) size (F.block_length * m) vs (omega (arith, times-next F.block_length k m l))
      by_order (no l) =
          let after : m < k = omega arith in
          span-sets_above bytes (F.block_length * k + at) size (F.block_length * m) vs (omega (arith, times-next F.block_length m k after))

  -- so the others' data are what they were
  pub others-kept : (n : ℕ) → others_data F n m (sets bytes (F.block_length * m) vs) ≡ others_data F n m bytes
  others-kept n = others_ext F n m (sets bytes (F.block_length * m) vs) bytes (λ k h ne. data_apart k ne)
    where
      data_apart : (k : ℕ) → k ≢ m → data_of F (block_of F (sets bytes (F.block_length * m) vs) k) ≡ data_of F (block_of F bytes k)
      data_apart k ne =
          let first : F.block_length * k ≡ F.block_length * k + 0 = omega arith in
          ap (data_of F) (ap (λ (at : ℕ). span at F.block_length (sets bytes (F.block_length * m) vs)) first ∙ span-apart k ne 0 F.block_length (omega arith)
          ∙ ap (λ (at : ℕ). span at F.block_length bytes) (sym first))

-- where the first of them are put there
pub others_same : (F : Format) (n m from : ℕ) (bytes here : List ℕ) → from ≤ F.data_length → here ≡ sets bytes (F.block_length * m) (span 0 from (others_data F n m bytes))
    → others_data F n m here ≡ others_data F n m bytes
others_same F n m from bytes here few e =
    let whole = others_data F n m bytes in
    let count : length (span 0 from whole) ≡ from = length-span 0 from whole (omega (arith, length-others_data F n m bytes)) in
    ap (others_data F n m) e ∙ others-kept F bytes m (span 0 from whole) (omega (arith, F.block_parts)) n

-- the parity's data with a member's old data taken out and the new put in
abbrev pub moved : Format → ℕ → ℕ → List ℕ → List ℕ → List ℕ
moved F parity member bytes new = xors (xors (data_of F (block_of F bytes parity)) (data_of F (block_of F bytes member))) new

-- a piece of them, where the pieces before it are put there
pub moved-next : (F : Format) (parity member from : ℕ) (bytes new : List ℕ) → member ≢ parity → from + piece_length ≤ F.data_length → (whole here : List ℕ)
    → whole ≡ moved F parity member bytes new → length whole ≡ F.data_length
    → here ≡ sets bytes (F.block_length * parity) (span 0 from whole)
    → xors (xors (span (F.block_length * parity + from) piece_length here) (span (F.block_length * member + from) piece_length here)) (span from piece_length new) ≡ span from piece_length whole
moved-next F parity member from bytes new apart fits whole here e long eh =
    let of = data_of F (block_of F bytes parity) in
    let own = data_of F (block_of F bytes member) in
    let step = F.block_length in
    let done = span 0 from whole in
    let count : length done ≡ from = length-span 0 from whole (omega arith) in
    let first : span (step * parity + from) piece_length here ≡ span from piece_length of =
    ap (span (step * parity + from) piece_length) eh ∙ span-sets_above bytes (step * parity + from) piece_length (step * parity) done (omega arith) ∙ sym (span_data F from piece_length parity bytes fits) in
    let second : span (step * member + from) piece_length here ≡ span from piece_length own =
    ap (span (step * member + from) piece_length) eh ∙ span-apart F bytes parity done (omega (arith, F.block_parts)) member apart from piece_length (omega (arith, F.block_parts))
    ∙ sym (span_data F from piece_length member bytes fits) in
    ap₂ (λ (x y : List ℕ). xors (xors x y) (span from piece_length new)) first second
    ∙ sym (ap (span from piece_length) e ∙ span-xors from piece_length (xors of own) new ∙ ap (λ (x : List ℕ). xors x (span from piece_length new)) (span-xors from piece_length of own))
