-- A header's form, its size, its array and its refusal number, and what a reader that gets it in pieces rests on: three bytes tell how
-- many there are, whatever follows them. Assumes nothing.
use mathlib.Core.Path.{◌≡◌, refl, ap, ◌∙◌}
use mathlib.Core.List.{List, [], ◌∷◌, ◌++◌}
use mathlib.Core.Bool.{Bool, true, false, not, cond, ◌&&◌}
use mathlib.Core.Logic.{◌≢◌}
use Prim.Native.Nat.{ℕ, ◌+◌, ◌-◌, ◌≤◌, ◌<◌}
use native.Mathlib.Decide.{dec_lt}
use native.Mathlib.Omega.{arith}
use borrow.Author.Tests.{lt-leb}
use lib.Dec.{eqb, leb, lit≤}
use lib.ListN.{length, get_or, take, drop, get_or-append, length-append}
use Rattle.layout.specs.Answers.{refuse}
use Rattle.layout.specs.Arrays.{array_of, array_refusal}
use Rattle.layout.specs.Ranges.{Sound}
use Rattle.layout.proofs.Answers.{refuse-none}
use Rattle.layout.proofs.Ranges.{array_sound}
use Rattle.tag.specs.Numbers.{number_of}
use Rattle.lines.specs.declared.header.Form.{Form}
use Rattle.lines.specs.Headers.{header_room, form, form_of, header_form, known, form_size, header_size, later, array_in, header_refusal}

-- ---- forms

-- what holds of every row, and of no form, holds of every version's
by_row : (P : Form → Type 0) → P (form 4 0) → P (form 4 1) → P (form 4 2) → P (form 8 2) → P (form 0 0) → (version : ℕ) → P (form_of version)
unfolding form_of
by_row P first second third fourth none version = choose (eqb version 1) (eqb version 2) (eqb version 3) (eqb version 4)
  where
    choose : (t u v w : Bool) → P (cond t (form 4 0) (cond u (form 4 1) (cond v (form 4 2) (cond w (form 8 2) (form 0 0)))))
    choose true u v w = first
    choose false true v w = second
    choose false false true w = third
    choose false false false true = fourth
    choose false false false false = none

pub wide_most : (version : ℕ) → (form_of version).wide ≤ 8
wide_most = by_row (λ f. f.wide ≤ 8) (lit≤ tt) (lit≤ tt) (lit≤ tt) (lit≤ tt) (lit≤ tt)

pub form-most : (version : ℕ) (f : Form) → f ≡ form_of version → 5 + f.wide + f.more ≤ header_room
form-most version f e =
    rw e (by_row (λ f. 5 + f.wide + f.more ≤ header_room) (lit≤ tt) (lit≤ tt) (lit≤ tt) (lit≤ tt) (lit≤ tt) version)

-- where a later number stands that the version tells
pub later-inside : (version k : ℕ) (f : Form) → f ≡ form_of version → k < f.more → 5 + f.wide + k < header_room
later-inside version k f e h = let most = form-most version f e in omega arith

pub size_least : (version : ℕ) → 3 ≤ form_size (form_of version)
unfolding form_size
size_least = by_row (λ f. 3 ≤ form_size f) (lit≤ tt) (lit≤ tt) (lit≤ tt) (lit≤ tt) (lit≤ tt)

pub size-most : (version : ℕ) → form_size (form_of version) ≤ header_room
unfolding form_size
size-most = by_row (λ f. form_size f ≤ header_room) (lit≤ tt) (lit≤ tt) (lit≤ tt) (lit≤ tt) (lit≤ tt)

pub size_unknown : (version : ℕ) → form_size (form_of version) ≡ 3 → known (form_of version) ≡ false
unfolding form_size
size_unknown = by_row (λ f. form_size f ≡ 3 → known f ≡ false) (λ e. absurd (omega arith)) (λ e. absurd (omega arith)) (λ e. absurd (omega arith)) (λ e. absurd (omega arith)) (λ e. refl)

size-known : (version : ℕ) → form_size (form_of version) ≢ 3 → known (form_of version) ≡ true
unfolding form_size
size-known = by_row (λ f. form_size f ≢ 3 → known f ≡ true) (λ e. refl) (λ e. refl) (λ e. refl) (λ e. refl) (λ e. absurd (e refl))

pub size_of_known : (version : ℕ) → form_size (form_of version) ≢ 3 → form_size (form_of version) ≡ 5 + (form_of version).wide + (form_of version).more
unfolding form_size
size_of_known = by_row (λ f. form_size f ≢ 3 → form_size f ≡ 5 + f.wide + f.more) (λ e. refl) (λ e. refl) (λ e. refl) (λ e. refl) (λ e. absurd (e refl))

-- ---- version 2

module _ (bytes : List ℕ) (second : get_or bytes 2 0 ≡ 2) where
  pub ten_bytes : header_size bytes ≡ 10
  unfolding form_of form_size
  ten_bytes = rw second

  -- version 1's numbers, and the last byte is the method
  pub method_told : array_in bytes ≡ array_of (get_or bytes 3 0) (number_of (take 4 (drop 5 bytes))) (get_or bytes 4 0) (get_or bytes 9 0) 1
  unfolding array_in later form_of
  method_told = rw second

-- ---- version 3

module _ (bytes : List ℕ) (third : get_or bytes 2 0 ≡ 3) where
  pub eleven_bytes : header_size bytes ≡ 11
  unfolding form_of form_size
  eleven_bytes = rw third

  -- version 2's numbers, and the last byte is the row length
  pub row_told : array_in bytes ≡ array_of (get_or bytes 3 0) (number_of (take 4 (drop 5 bytes))) (get_or bytes 4 0) (get_or bytes 9 0) (get_or bytes 10 0)
  unfolding array_in later form_of
  row_told = rw third

-- ---- version 4

module _ (bytes : List ℕ) (fourth : get_or bytes 2 0 ≡ 4) where
  pub fifteen_bytes : header_size bytes ≡ 15
  unfolding form_of form_size
  fifteen_bytes = rw fourth

  -- version 3's numbers, the stripes in eight bytes
  pub stripes_told : array_in bytes ≡ array_of (get_or bytes 3 0) (number_of (take 8 (drop 5 bytes))) (get_or bytes 4 0) (get_or bytes 13 0) (get_or bytes 14 0)
  unfolding array_in later form_of
  stripes_told = rw fourth

-- ---- a header that comes in pieces

-- the first three bytes tell its size, whatever follows; before them it is 3
pub size-told : (bytes more : List ℕ) → 3 ≤ length bytes → header_size (bytes ++ more) ≡ header_size bytes
size-told bytes more h = ap (λ (v : ℕ). form_size (form_of v)) (get_or-append bytes more 0 2 h)

size_untold : (bytes : List ℕ) → length bytes < 3 → header_size bytes ≡ 3
unfolding form_of form_size
size_untold [] h = refl
size_untold (x ∷ []) h = refl
size_untold (x ∷ y ∷ []) h = refl
size_untold (x ∷ y ∷ z ∷ l) h = absurd (omega arith)

-- where no piece has more bytes than the header lacks, as far as what came tells, a header that is whole has no byte too many, and
-- what follows it changes nothing
module _ (bytes more : List ℕ) (few : length bytes + length more ≤ header_size bytes) where
  size_reached : header_size (bytes ++ more) ≤ length (bytes ++ more) → header_size (bytes ++ more) ≡ length (bytes ++ more)
  size_reached whole = rw length-append (go (dec_lt (length bytes) 3) (rw length-append at whole))
    where
      go : Dec (length bytes < 3) → header_size (bytes ++ more) ≤ length bytes + length more → header_size (bytes ++ more) ≡ length bytes + length more
      go (yes h) l = omega (arith, size_untold bytes h, size_least (get_or (bytes ++ more) 2 0))
      go (no h) l = omega (arith, size-told bytes more (omega arith))

  pub size_stays : header_size (bytes ++ more) ≤ length (bytes ++ more) → (rest : List ℕ) → header_size ((bytes ++ more) ++ rest) ≡ length (bytes ++ more)
  size_stays whole rest =
      size-told (bytes ++ more) rest (omega (arith, size_least (get_or (bytes ++ more) 2 0))) ∙ size_reached whole

-- ---- refusals of any bytes

-- a header that is not whole is refused
pub short_refused : (bytes : List ℕ) → length bytes < header_size bytes → header_refusal bytes ≡ 10
unfolding header_refusal
short_refused bytes h = rw (lt-leb (header_size bytes) (length bytes) h) (go (known (header_form bytes)))
  where
    go : (k : Bool) → refuse (not (k && false && eqb (number_of (take 2 bytes)) (header_size bytes - 2))) 10 (array_refusal (array_in bytes)) ≡ 10
    go true = refl
    go false = refl

-- the volume is its fifth byte
pub volume_there : (bytes : List ℕ) → (array_in bytes).volume ≡ get_or bytes 4 0
unfolding array_in
volume_there bytes = refl

-- one that is not refused has an array whose numbers are in range
pub header_sound : (bytes : List ℕ) → header_refusal bytes ≡ 0 → Sound (array_in bytes)
unfolding header_refusal
header_sound bytes e =
    let told = known (header_form bytes) && leb (header_size bytes) (length bytes) && eqb (number_of (take 2 bytes)) (header_size bytes - 2) in
    array_sound (array_in bytes) (refuse-none told 9 (array_refusal (array_in bytes)) e).1
