-- The repair of an image: from the bytes of the whole image to the bytes of the image that is written and of the list. Assumes nothing.
use Rattle.std.specs.Prelude.{ℕ, zero, suc, ◌+◌, ◌*◌, Bool, not, cond, ◌&&◌, ◌||◌, List, [], ◌∷◌, ◌++◌, ltb, eqb, length, take, drop}
use Rattle.layout.specs.Answers.{refuse, after}
use Rattle.layout.specs.declared.Array.{Array}
use Rattle.stripe.specs.Tables.{part}
use Rattle.stripe.specs.Stripes.{stripe_length}
use Rattle.lines.specs.Lines.{refused_line}
use Rattle.lines.specs.Headers.{header_size, array_in, header_refusal}
use Rattle.mend.specs.Mending.{mended, listed}

-- what is written: bytes of the image and of the list; and some written behind others
pub record Output : Type 0 where
  pub image : List ℕ
  pub list : List ℕ

abbrev pub nothing : Output
nothing = record { image = []; list = [] }

abbrev pub refused_with : ℕ → Output
refused_with number = record { image = []; list = refused_line number }

abbrev pub and_then : Output → Output → Output
and_then first rest = record { image = first.image ++ rest.image; list = first.list ++ rest.list }

-- ---- the header: the refusals of a report's, and 12 for method 3, which is not repaired; 12 goes before 13, as in every call

abbrev pub not_repaired : Array → Bool
not_repaired a = eqb a.method 3

unfoldable pub repair_refusal : List ℕ → ℕ
repair_refusal header =
    let refusal = header_refusal header in
    cond (not_repaired (array_in header) && (eqb refusal 0 || eqb refusal 13)) 12 refusal

-- ---- the stripes, of which `left` are still to come, the next one being `stripe`

-- behind the last one no byte may follow
unfoldable pub ending : List ℕ → Output
ending [] = nothing
ending (b ∷ bytes) = refused_with 11

-- each whole stripe mended, and its line if it has one; where the image ends within a stripe, refusal 11 and nothing of that stripe
unfoldable pub repair_stripes : Array → ℕ → ℕ → List ℕ → Output
repair_stripes a zero stripe bytes = ending bytes
repair_stripes a (suc left) stripe bytes =
    let here = take (stripe_length a) bytes in
    let rest = repair_stripes a left (stripe + 1) (drop (stripe_length a) bytes) in
    cond (ltb (length bytes) (stripe_length a)) (refused_with 11)
    (and_then (record { image = mended a stripe here; list = listed a stripe here }) rest)

-- ---- the repair

-- an image's own header, its array, and the bytes of its stripes
abbrev pub header_of : List ℕ → List ℕ
header_of image = take (header_size image) image

abbrev pub array_of : List ℕ → Array
array_of image = array_in (header_of image)

abbrev pub stripes_of : List ℕ → List ℕ
stripes_of image = drop (header_size image) image

unfoldable pub repair_of : List ℕ → Output
repair_of image =
    let a = array_of image in
    cond (eqb (repair_refusal (header_of image)) 0)
    (and_then (record { image = header_of image; list = [] }) (repair_stripes a a.stripes 0 (stripes_of image)))
    (refused_with (repair_refusal (header_of image)))

-- ---- of a whole image: its refusal number, 0 where there is none, and the bytes of one of its stripes

unfoldable pub image_refusal : List ℕ → ℕ
image_refusal image =
    after (repair_refusal (header_of image)) (refuse (not (eqb (length (stripes_of image)) (stripe_length (array_of image) * (array_of image).stripes))) 11 0)

abbrev pub stripe_at : List ℕ → ℕ → List ℕ
stripe_at image stripe = part (stripe_length (array_of image)) (stripes_of image) stripe
