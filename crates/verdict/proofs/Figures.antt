-- Verdicts and quick scrubs in figures: which number says what, and which name of the code stands for it. Assumes nothing.
use mathlib.Core.Path.{◌≡◌, refl}
use mathlib.Core.Bool.{Bool, true, false}
use mathlib.Core.List.{List, [], ◌∷◌, ◌++◌}
use lib.ListN.{replicate}
use Rattle.std.specs.Prelude.{Ok}
use Rattle.verdict.specs.Verdicts.{nonzero, standing_in, judged_at, judged, verdict_numbers, quick_refusal, compared_with, quick_numbers, compared_numbers}
use Rattle.verdict.specs.declared.Verdict.TheVariants.{Clean, Bad, Torn, Unchecked}
use Rattle.verdict.specs.QuickWide.{quick_wide_numbers, compared_wide_numbers}
use Rattle.verdict.specs.declared.Compared.TheVariants.{Fits, Differs}
use Rattle.verdict.proofs.QuickWide.{due-even, due-odd}

abbrev none : List Bool
none = false ∷ false ∷ false ∷ []

-- clean; two bad members, the lowest 1, its guard wrong; torn at place 2; two unchecked, the lowest 0; bad and unchecked and torn, which is
-- bad; unchecked and torn, which is unchecked
pub verdicts : (judged (0 ∷ 0 ∷ 0 ∷ []) none ≡ 0 ∷ 0 ∷ 0 ∷ 0 ∷ []) × (judged (0 ∷ 4 ∷ 3 ∷ []) none ≡ 1 ∷ 1 ∷ 2 ∷ 4 ∷ [])
    × (judged (0 ∷ 0 ∷ 0 ∷ []) (false ∷ false ∷ true ∷ []) ≡ 2 ∷ 2 ∷ 0 ∷ 0 ∷ []) × (judged (8 ∷ 0 ∷ 8 ∷ []) none ≡ 3 ∷ 0 ∷ 2 ∷ 0 ∷ [])
    × (judged (8 ∷ 8 ∷ 7 ∷ []) (true ∷ true ∷ []) ≡ 1 ∷ 2 ∷ 1 ∷ 7 ∷ []) × (judged (0 ∷ 8 ∷ 0 ∷ []) (true ∷ true ∷ []) ≡ 3 ∷ 1 ∷ 1 ∷ 0 ∷ [])
unfolding judged judged_at standing_in
verdicts = (refl, refl, refl, refl, refl, refl)

-- what is left of the guards stands behind three places of data: torn there; at a place of the data before it; clean where nothing is left; and
-- not looked at where a member is unchecked
pub behind_the_data : (judged (0 ∷ 0 ∷ 0 ∷ []) (nonzero ((0 ∷ 0 ∷ 0 ∷ []) ++ (0x8BB7 ∷ []))) ≡ 2 ∷ 3 ∷ 0 ∷ 0 ∷ [])
    × (judged (0 ∷ 0 ∷ 0 ∷ []) (nonzero ((0 ∷ 9 ∷ 0 ∷ []) ++ (0x8BB7 ∷ []))) ≡ 2 ∷ 1 ∷ 0 ∷ 0 ∷ [])
    × (judged (0 ∷ 0 ∷ 0 ∷ []) (nonzero ((0 ∷ 0 ∷ 0 ∷ []) ++ (0 ∷ []))) ≡ 0 ∷ 0 ∷ 0 ∷ 0 ∷ [])
    × (judged (0 ∷ 8 ∷ 0 ∷ []) (nonzero ((0 ∷ 0 ∷ 0 ∷ []) ++ (0x8BB7 ∷ []))) ≡ 3 ∷ 1 ∷ 1 ∷ 0 ∷ [])
unfolding judged judged_at standing_in nonzero
behind_the_data = (refl, refl, refl, refl)

pub verdict-names : (verdict_numbers Clean ≡ 0 ∷ 0 ∷ 0 ∷ 0 ∷ []) × (verdict_numbers (Bad 1 2 4) ≡ 1 ∷ 1 ∷ 2 ∷ 4 ∷ []) × (verdict_numbers (Torn 2) ≡ 2 ∷ 2 ∷ 0 ∷ 0 ∷ [])
    × (verdict_numbers (Unchecked 0 2) ≡ 3 ∷ 0 ∷ 2 ∷ 0 ∷ [])
verdict-names = (refl, refl, refl, refl)

-- guards that combine to zero; to 7; too few of them
pub quick_scrubs : (quick_numbers (0x8BB7 ∷ 0x1772 ∷ 0x9CC5 ∷ []) ≡ 1 ∷ 0 ∷ 0 ∷ 0 ∷ []) × (quick_numbers (1 ∷ 2 ∷ 4 ∷ []) ≡ 1 ∷ 0 ∷ 1 ∷ 7 ∷ [])
    × (quick_numbers (1 ∷ 2 ∷ []) ≡ 0 ∷ 1 ∷ 0 ∷ 0 ∷ [])
unfolding quick_numbers compared_with quick_refusal
quick_scrubs = (refl, refl, refl)

pub quick_names : (compared_numbers (Ok Fits) ≡ 1 ∷ 0 ∷ 0 ∷ 0 ∷ []) × (compared_numbers (Ok (Differs 7)) ≡ 1 ∷ 0 ∷ 1 ∷ 7 ∷ [])
quick_names = (refl, refl)

-- four guards of thirty-two bits that combine to zero; four that combine to 7; three that combine to the guard of a block of zeros, which they
-- are to do; three that combine to zero, and differ for that; too many of them
pub wide_scrubs : (quick_wide_numbers (0x12345678 ∷ 0x12345678 ∷ 5 ∷ 5 ∷ []) ≡ 1 ∷ 0 ∷ 0 ∷ 0 ∷ [])
    × (quick_wide_numbers (0x98F94189 ∷ 0x98F94189 ∷ 2 ∷ 5 ∷ []) ≡ 1 ∷ 0 ∷ 1 ∷ 7 ∷ [])
    × (quick_wide_numbers (0x98F94189 ∷ 0x12345678 ∷ 0x12345678 ∷ []) ≡ 1 ∷ 0 ∷ 0 ∷ 0 ∷ [])
    × (quick_wide_numbers (3 ∷ 5 ∷ 6 ∷ []) ≡ 1 ∷ 0 ∷ 1 ∷ 0 ∷ []) × (quick_wide_numbers (replicate 17 0) ≡ 0 ∷ 1 ∷ 0 ∷ 0 ∷ [])
unfolding quick_wide_numbers compared_with quick_refusal
wide_scrubs = (rw (due-even 4 refl), rw (due-even 4 refl), rw (due-odd 3 refl), rw (due-odd 3 refl), rw (due-odd 17 refl))

pub wide_names : (compared_wide_numbers (Ok Fits) ≡ 1 ∷ 0 ∷ 0 ∷ 0 ∷ []) × (compared_wide_numbers (Ok (Differs 7)) ≡ 1 ∷ 0 ∷ 1 ∷ 7 ∷ [])
wide_names = (refl, refl)
