-- What a repair leaves of a whole image, stripe by stripe, and that a second one finds nothing to do. Assumes nothing.
use mathlib.Core.Path.{◌≡◌, refl, sym, ap, ap₂, ◌∙◌}
use mathlib.Core.List.{List, [], ◌∷◌, ◌++◌}
use Prim.Native.Nat.{ℕ, zero, suc, ◌+◌, ◌*◌, ◌≤◌, ◌<◌}
use native.Mathlib.Nat.{zero-add, add-zero, mul-zero, mul-suc, add_comm, mul-le-mul_left}
use native.Mathlib.Decide.{dec_lt}
use native.Mathlib.Omega.{arith}
use borrow.Author.Tests.{le-ltb}
use lib.ListN.{length, get_or, take, drop, length-append, length-take, length-drop, take-append-drop}
use lib.Seq.{take_at, drop_at, drop-append-add, drop-drop, length-take-le}
use Rattle.layout.specs.declared.Array.{Array}
use Rattle.tag.specs.Blocks.{format_at}
use Rattle.stripe.specs.Tables.{span, part}
use Rattle.stripe.specs.Stripes.{stripe_length, block_of}
use Rattle.stripe.specs.Verdicts.{scrub_numbers}
use Rattle.lines.specs.Headers.{header_size, array_in}
use Rattle.lines.proofs.Headers.{size-told, size_least, short_refused}
use Rattle.mend.specs.Mending.{verdict_on, mended, listed, is_rebuilt}
use Rattle.mend.proofs.Rebuilding.{length-mended}
use Rattle.mend.proofs.Once.{kept-unless-rebuilt, rebuilt-clean, rebuilt-beside, mended-once}
use Rattle.repair.specs.Repairs.{Output, and_then, repair_refusal, ending, repair_stripes, header_of, array_of, stripes_of, repair_of, stripe_at}
use Rattle.repair.specs.SecondPass.{SecondPass}
use Rattle.repair.proofs.Refusals.{report_accepts}

-- ---- the stripes

module _ (a : Array) where
  abbrev size : ℕ
  size = stripe_length a

  -- a whole stripe, and what follows
  pub one-stripe : (left stripe : ℕ) (bytes : List ℕ) → size ≤ length bytes
      → repair_stripes a (suc left) stripe bytes
      ≡ and_then (record { image = mended a stripe (take size bytes); list = listed a stripe (take size bytes) }) (repair_stripes a left (stripe + 1) (drop size bytes))
  unfolding repair_stripes
  one-stripe left stripe bytes enough = rw (le-ltb (length bytes) size enough)

  length-one : (stripe : ℕ) (bytes : List ℕ) → size ≤ length bytes → length (mended a stripe (take size bytes)) ≡ size
  length-one stripe bytes enough = length-mended a stripe (verdict_on a stripe (take size bytes)) (take size bytes) ∙ length-take-le size bytes enough

  -- each whole stripe that is written is the one that came, mended
  pub stripe-written : (left stripe i : ℕ) (bytes : List ℕ) → i < left → size * suc i ≤ length bytes
      → part size (repair_stripes a left stripe bytes).image i ≡ mended a (stripe + i) (part size bytes i)
  unfolding span
  stripe-written zero stripe i bytes h l = absurd (omega arith)
  stripe-written (suc left) stripe zero bytes h l =
      let enough : size ≤ length bytes = omega (arith, mul-suc size 0, mul-zero size) in
      let m = mended a stripe (take size bytes) in
      ap (λ (o : Output). take size (drop (size * 0) o.image)) (one-stripe left stripe bytes enough)
      ∙ ap (λ (n : ℕ). take size (drop n (m ++ (repair_stripes a left (stripe + 1) (drop size bytes)).image))) (mul-zero size)
      ∙ take_at m (repair_stripes a left (stripe + 1) (drop size bytes)).image size (length-one stripe bytes enough)
      ∙ ap₂ (λ (s n : ℕ). mended a s (take size (drop n bytes))) (sym (add-zero stripe)) (sym (mul-zero size))
  stripe-written (suc left) stripe (suc i) bytes h l =
      let enough : size ≤ length bytes = omega (arith, mul-suc size (suc i)) in
      let m = mended a stripe (take size bytes) in
      let rest = repair_stripes a left (stripe + 1) (drop size bytes) in
      let there : size * suc i ≤ length (drop size bytes) = rw (length-drop size bytes) (omega (arith, mul-suc size (suc i))) in
      let place : size * suc i ≡ size + size * i = mul-suc size i ∙ add_comm (size * i) size in
      let place' : size * suc i ≡ length m + size * i = place ∙ ap (λ (n : ℕ). n + size * i) (sym (length-one stripe bytes enough)) in
      let number : stripe + 1 + i ≡ stripe + suc i = omega arith in
      ap (λ (o : Output). take size (drop (size * suc i) o.image)) (one-stripe left stripe bytes enough)
      ∙ ap (λ (n : ℕ). take size (drop n (m ++ rest.image))) place'
      ∙ ap (take size) (drop-append-add m rest.image (size * i))
      ∙ stripe-written left (stripe + 1) i (drop size bytes) (omega arith) there
      ∙ ap₂ (λ (s : ℕ) (l : List ℕ). mended a s (take size l)) number (drop-drop (size * i) size bytes ∙ ap (λ (n : ℕ). drop n bytes) (sym place))

  -- of a whole image
  pub stripes_again : a.volume < 256 → (left stripe : ℕ) (bytes : List ℕ) → length bytes ≡ size * left
      → repair_stripes a left stripe (repair_stripes a left stripe bytes).image ≡ repair_stripes a left stripe bytes
  unfolding repair_stripes ending
  stripes_again small zero stripe [] e = refl
  stripes_again small zero stripe (b ∷ bytes) e = let none : length (b ∷ bytes) ≡ 0 = e ∙ mul-zero size in absurd (omega arith)
  stripes_again small (suc left) stripe bytes e =
      let enough : size ≤ length bytes = omega (arith, mul-suc size left) in
      let here = take size bytes in
      let m = mended a stripe here in
      let rest = repair_stripes a left (stripe + 1) (drop size bytes) in
      let long = length-one stripe bytes enough in
      let once = mended-once a stripe here small in
      let still : size ≤ length (m ++ rest.image) = rw length-append (omega (arith, long)) in
      let follows : length (drop size bytes) ≡ size * left = rw (length-drop size bytes) (omega (arith, mul-suc size left)) in
      ap (λ (o : Output). repair_stripes a (suc left) stripe o.image) (one-stripe left stripe bytes enough)
      ∙ one-stripe left stripe (m ++ rest.image) still
      ∙ ap₂ (λ (x y : List ℕ). and_then (record { image = mended a stripe x; list = listed a stripe x }) (repair_stripes a left (stripe + 1) y))
      (take_at m rest.image size long) (drop_at m rest.image size long)
      ∙ ap₂ (λ (x y : List ℕ). and_then (record { image = x; list = y }) (repair_stripes a left (stripe + 1) rest.image)) once.same_bytes once.same_line
      ∙ ap (and_then (record { image = m; list = listed a stripe here })) (stripes_again small left (stripe + 1) (drop size bytes) follows)
      ∙ sym (one-stripe left stripe bytes enough)

-- ---- the header

module _ (image : List ℕ) (done : repair_refusal (header_of image) ≡ 0) where
  abbrev header : List ℕ
  header = header_of image

  header-whole : header_size header ≤ length header
  header-whole = go (dec_lt (length header) (header_size header))
    where
      go : Dec (length header < header_size header) → header_size header ≤ length header
      go (yes h) = let n : ◌≡◌ {A = ℕ} 0 10 = sym (report_accepts header done) ∙ short_refused header h in absurd (omega arith)
      go (no h) = omega arith

  three : 3 ≤ length header
  three = omega (arith, header-whole, size_least (get_or header 2 0))

  size_is : header_size image ≡ header_size header
  size_is = ap header_size (sym (take-append-drop (header_size image) image)) ∙ size-told header (stripes_of image) three

  length-header : length header ≡ header_size header
  length-header =
      let most : length header ≤ header_size image = rw (length-take (header_size image) image) (omega arith) in omega (arith, header-whole, size_is)

  -- whatever follows the header, it is read as this header
  size-before : (rest : List ℕ) → header_size (header ++ rest) ≡ length header
  size-before rest = size-told header rest three ∙ sym length-header

  header-before : (rest : List ℕ) → header_of (header ++ rest) ≡ header
  header-before rest = ap (λ (n : ℕ). take n (header ++ rest)) (size-before rest) ∙ take_at header rest (length header) refl

  stripes_behind : (rest : List ℕ) → stripes_of (header ++ rest) ≡ rest
  stripes_behind rest = ap (λ (n : ℕ). drop n (header ++ rest)) (size-before rest) ∙ drop_at header rest (length header) refl

  pub repair_is : repair_of image ≡ and_then (record { image = header; list = [] }) (repair_stripes (array_of image) (array_of image).stripes 0 (stripes_of image))
  unfolding repair_of
  repair_is = rw done

  abbrev out : Output
  out = repair_stripes (array_of image) (array_of image).stripes 0 (stripes_of image)

  image_is : (repair_of image).image ≡ header ++ out.image
  image_is = ap (λ (o : Output). o.image) repair_is

  -- so the header passes, and so does every whole stripe, mended; where the image is cut or too long as well
  pub header_passes : header_of (repair_of image).image ≡ header
  header_passes = ap header_of image_is ∙ header-before out.image

  same-array : array_of (repair_of image).image ≡ array_of image
  same-array = ap array_in header_passes

  stripe_is : (i : ℕ) → stripe_at (repair_of image).image i ≡ part (stripe_length (array_of image)) out.image i
  stripe_is i =
      ap₂ (λ (b : Array) (l : List ℕ). part (stripe_length b) l i) same-array (ap stripes_of image_is ∙ stripes_behind out.image)

  pub stripe_passes : (i : ℕ) → i < (array_of image).stripes → stripe_length (array_of image) * suc i ≤ length (stripes_of image)
      → stripe_at (repair_of image).image i ≡ mended (array_of image) i (stripe_at image i)
  stripe_passes i here there =
      stripe_is i ∙ stripe-written (array_of image) (array_of image).stripes 0 i (stripes_of image) here there
      ∙ ap (λ (s : ℕ). mended (array_of image) s (stripe_at image i)) (zero-add i)

-- ---- a second repair of a whole image

module _ (image : List ℕ) (done : repair_refusal (header_of image) ≡ 0) (whole : length (stripes_of image) ≡ stripe_length (array_of image) * (array_of image).stripes)
    (small : (array_of image).volume < 256) where
  abbrev written : List ℕ
  written = (repair_of image).image

  abbrev before : List ℕ
  before = header_of image

  abbrev rest : List ℕ
  rest = (out image done).image

  accepted_again : repair_refusal (header_of (before ++ rest)) ≡ 0
  accepted_again = ap repair_refusal (header-before image done rest) ∙ done

  -- as it is for this header, and these stripes
  abbrev repaired_as : List ℕ → List ℕ → Output
  repaired_as h l = and_then (record { image = h; list = [] }) (repair_stripes (array_in h) (array_in h).stripes 0 l)

  pub repaired_again : repair_of written ≡ repair_of image
  repaired_again =
      ap repair_of (image_is image done) ∙ repair_is (before ++ rest) accepted_again
      ∙ ap₂ repaired_as (header-before image done rest) (stripes_behind image done rest)
      ∙ ap (and_then (record { image = before; list = [] })) (stripes_again (array_of image) small (array_of image).stripes 0 (stripes_of image) whole)
      ∙ sym (repair_is image done)

  within : (i : ℕ) → i < (array_of image).stripes → stripe_length (array_of image) * suc i ≤ length (stripes_of image)
  within i here = rw whole (mul-le-mul_left (stripe_length (array_of image)) here)

  pub second_pass : SecondPass image (repair_of image)
  second_pass = record {
    header-kept = header_passes image done;
    stripe-kept = λ i here e. stripe_passes image done i here (within i here) ∙ kept-unless-rebuilt (array_of image) i (stripe_at image i) e;
    others-kept = λ i here e k other.
        ap (λ (b : List ℕ). block_of (format_at (array_of image)) b k) (stripe_passes image done i here (within i here))
        ∙ rebuilt-beside (array_of image) i (stripe_at image i) e k other;
    rebuilt-clean = λ i here e.
        ap (scrub_numbers (array_of image) i) (stripe_passes image done i here (within i here)) ∙ rebuilt-clean (array_of image) i (stripe_at image i) e small;
    same_again = repaired_again;
    none-rebuilt = λ i here.
        ap (is_rebuilt (array_of image) i) (stripe_passes image done i here (within i here)) ∙ (mended-once (array_of image) i (stripe_at image i) small).none-rebuilt;
  }
