-- The report of an image: from the bytes of the whole image to the bytes of its report. Assumes nothing.
use Rattle.std.specs.Prelude.{ℕ, zero, suc, ◌+◌, cond, List, [], ◌∷◌, ◌++◌, ltb, eqb, length, get_or, take, drop}
use Rattle.layout.specs.declared.Array.{Array}
use Rattle.tag.specs.Blocks.{format_at}
use Rattle.stripe.specs.Tables.{table}
use Rattle.stripe.specs.Stripes.{stripe_length, block_of}
use Rattle.stripe.specs.Verdicts.{scrub_blocks}
use Rattle.lines.specs.declared.tally.Tally.{Tally}
use Rattle.lines.specs.Lines.{first_line, refused_line, stripe_line, total_line}
use Rattle.lines.specs.Headers.{header_size, array_in, header_refusal}

-- ---- how many stripes were clean, bad, unchecked, torn

abbrev pub none : Tally
none = record { clean = 0; bad = 0; unchecked = 0; torn = 0 }

-- how many stripes were counted
abbrev pub stripes_in : Tally → ℕ
stripes_in t = t.clean + t.bad + t.unchecked + t.torn

-- with one verdict more, in numbers
unfoldable pub counted : Tally → List ℕ → Tally
counted t verdict =
    cond (eqb (get_or verdict 0 0) 0) (record { clean = t.clean + 1; bad = t.bad; unchecked = t.unchecked; torn = t.torn })
    (cond (eqb (get_or verdict 0 0) 1) (record { clean = t.clean; bad = t.bad + 1; unchecked = t.unchecked; torn = t.torn })
    (cond (eqb (get_or verdict 0 0) 3) (record { clean = t.clean; bad = t.bad; unchecked = t.unchecked + 1; torn = t.torn })
    (record { clean = t.clean; bad = t.bad; unchecked = t.unchecked; torn = t.torn + 1 })))

-- ---- the stripes, of which `left` are still to come, the next one being `stripe`

-- the verdict of the full scrub on a stripe's bytes
abbrev pub verdict_of : Array → ℕ → List ℕ → List ℕ
verdict_of a stripe bytes = scrub_blocks a stripe (table a.members (block_of (format_at a) bytes))

-- at the end the total, unless bytes follow
unfoldable pub ending : Array → Tally → List ℕ → List ℕ
ending a t [] = total_line a t
ending a t (b ∷ bytes) = refused_line 11

-- a line for each whole stripe; where the image ends within one, refusal 11 in place of what would follow
unfoldable pub stripe_lines : Array → ℕ → ℕ → Tally → List ℕ → List ℕ
stripe_lines a zero stripe t bytes = ending a t bytes
stripe_lines a (suc left) stripe t bytes =
    let here = take (stripe_length a) bytes in
    cond (ltb (length bytes) (stripe_length a)) (refused_line 11)
    (stripe_line stripe (verdict_of a stripe here) ++ stripe_lines a left (stripe + 1) (counted t (verdict_of a stripe here)) (drop (stripe_length a) bytes))

-- ---- the report

unfoldable pub report_of : List ℕ → List ℕ
report_of image =
    let header = take (header_size image) image in
    let a = array_in header in
    cond (eqb (header_refusal header) 0) (first_line a ++ stripe_lines a a.stripes 0 none (drop (header_size image) image)) (refused_line (header_refusal header))
