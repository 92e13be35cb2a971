-- Blocks that are filled in order: bytes that stay within one block go after those it has, and the other blocks stay as they are.
-- So a history whose members are such blocks keeps the bytes as the next ones of their member.
-- Assumes nothing.
use mathlib.Core.Path.{◌≡◌, refl, sym, ap, ap₂, ◌∙◌}
use mathlib.Core.Bool.{true, false}
use mathlib.Core.List.{List, [], ◌∷◌, ◌++◌}
use mathlib.Core.Logic.{◌≢◌}
use Prim.Native.Nat.{ℕ, zero, suc, ◌+◌, ◌-◌, ◌*◌, ◌≤◌, ◌<◌}
use native.Mathlib.Nat.{not-suc-le-zero, le_of_suc-le-suc}
use native.Mathlib.Decide.{dec_lt}
use native.Mathlib.Omega.{arith}
use lib.Dec.{ltb}
use borrow.Author.Tests.{lt-ltb, le-ltb}
use lib.ListN.{length, get_or, drop, set, replicate, length-append, length-take, length-drop, drop_of_length-le}
use lib.Seq.{take_all, take-nil, drop-nil, take-append-le, drop-append-le}
use Rattle.stripe.specs.Tables.{table, span, part}
use Rattle.stripe.proofs.Tables.{get_or-table, table_ext}
use Rattle.scan.specs.History.{piece, begun, piece_number, kept}
use Rattle.scan.proofs.Pieces.{apart}

-- a table changed at one place
module _ {A : Type 0} where
  set-table : (n m : ℕ) (f g : ℕ → A) → m < n → ((i : ℕ) → i ≢ m → f i ≡ g i) → set (table n f) m (g m) ≡ table n g
  set-table zero m f g h same = absurd (not-suc-le-zero h)
  set-table (suc n) zero f g h same =
      ap (λ (l : List A). g zero ∷ l) (table_ext n (λ i. f (suc i)) (λ i. g (suc i)) (λ i l. same (suc i) (λ e. omega arith)))
  set-table (suc n) (suc m) f g h same =
      ap₂ (λ (x : A) (l : List A). x ∷ l) (same zero (λ e. omega arith))
      (set-table n m (λ i. f (suc i)) (λ i. g (suc i)) (le_of_suc-le-suc h) (λ i d. same (suc i) (λ e. d (omega arith))))

  pub table_of_one : (n : ℕ) (x : A) (f : ℕ → A) → ((i : ℕ) → f i ≡ x) → replicate n x ≡ table n f
  table_of_one zero x f h = refl
  table_of_one (suc n) x f h = ap₂ (λ (y : A) (l : List A). y ∷ l) (sym (h zero)) (table_of_one n x (λ i. f (suc i)) (λ i. h (suc i)))

module _ (size : ℕ) where
  none-there : (i : ℕ) → part size [] i ≡ []
  unfolding span
  none-there i = rw (drop-nil (size * i), take-nil size)

  pub begun-blocks : (n : ℕ) → begun n ≡ table n (part size [])
  begun-blocks n = table_of_one n [] (part size []) none-there

  -- all blocks of a whole stripe are whole
  pub blocks-whole : (n : ℕ) (h : List ℕ) → length h ≡ size * n → (i : ℕ) → i < n → length (get_or (table n (part size h)) i []) ≡ size
  unfolding span
  blocks-whole n h e i l = rw (get_or-table n (part size h) [] i l) (simp (length-take, length-drop) (omega (arith, apart size i n l)))

-- h is what there is, up to a place p of block m, and x comes
module _ (size : ℕ) (h x : List ℕ) (m p : ℕ) (at : length h ≡ size * m + p) (room : p + length x ≤ size) where
  block-before : (i : ℕ) → i < m → part size h i ≡ part size (h ++ x) i
  unfolding span
  block-before i l =
      let far : size * i + size ≤ size * m = apart size i m l in
      let low : size * i ≤ length h = omega arith in
      let long : size ≤ length (drop (size * i) h) = simp length-drop (omega arith) in
      rw (drop-append-le (size * i) h x low, take-append-le size (drop (size * i) h) x long)

  block_now : part size h m ++ x ≡ part size (h ++ x) m
  unfolding span
  block_now =
      let low : size * m ≤ length h = omega arith in
      let short : length (drop (size * m) h) ≤ size = simp length-drop (omega arith) in
      let fits : length (drop (size * m) h ++ x) ≤ size = simp (length-append, length-drop) (omega arith) in
      rw (drop-append-le (size * m) h x low, take_all size (drop (size * m) h) short, take_all size (drop (size * m) h ++ x) fits)

  block-behind : (i : ℕ) → m < i → part size h i ≡ part size (h ++ x) i
  unfolding span
  block-behind i l =
      let far : size * m + size ≤ size * i = apart size m i l in
      let none : length h ≤ size * i = omega arith in
      let still : length (h ++ x) ≤ size * i = simp length-append (omega arith) in
      rw (drop_of_length-le h none, drop_of_length-le (h ++ x) still)

  other_block : (i : ℕ) → i ≢ m → part size h i ≡ part size (h ++ x) i
  other_block i d = go (dec_lt i m)
    where
      go : Dec (i < m) → part size h i ≡ part size (h ++ x) i
      go (yes l) = block-before i l
      go (no l) = block-behind i (omega arith)

  length_now : length (part size h m) ≡ p
  unfolding span
  length_now = simp (length-take, length-drop) (omega arith)

  pub blocks-kept : (n : ℕ) (scrub : List (List ℕ) → List ℕ) → m < n → kept size n scrub (table n (part size h)) (piece m x) ≡ table n (part size (h ++ x))
  unfolding kept
  blocks-kept n scrub l =
      let here : get_or (table n (part size h)) m [] ≡ part size h m = get_or-table n (part size h) [] m l in
      let below : ltb m n ≡ true = lt-ltb m n l in
      let enough : ltb (size - length (part size h m)) (length x) ≡ false = le-ltb (size - length (part size h m)) (length x) (omega (arith, length_now)) in
      let done : piece_number size n scrub (table n (part size h)) m x ≡ 0 = rw (here, below, enough) in
      rw (done, here) (ap (set (table n (part size h)) m) block_now ∙ set-table n m (part size h) (part size (h ++ x)) l other_block)
