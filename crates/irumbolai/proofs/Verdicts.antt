-- A verdict's numbers fit their fields of 32 bits: a member, a count of members and a place are at most as many as there are. Assumes nothing.
use mathlib.Core.Path.{◌≡◌, refl, sym, ap, subst, ◌∙◌}
use mathlib.Core.Bool.{Bool, true, false, not}
use mathlib.Core.List.{List, [], ◌∷◌, ◌++◌, map}
use Prim.Native.Nat.{ℕ, zero, suc, ◌+◌, ◌≤◌, ◌<◌, zero-le, suc-le-suc}
use native.Mathlib.Omega.{arith}
use borrow.Author.Tests.{eqb-true}
use lib.Dec.{eqb}
use lib.ListN.{length, take, length-append}
use Rattle.xor.proofs.Combination.{length-combination}
use Rattle.format.specs.Formats.{Format}
use Rattle.layout.specs.Answers.{refuse, answer}
use Rattle.layout.specs.declared.Array.{Array}
use Rattle.layout.proofs.Answers.{refuse-none}
use Rattle.layout.proofs.Ranges.{stripe_sound}
use Rattle.tag.specs.Blocks.{format_at, data_of}
use Rattle.verdict.specs.Verdicts.{count, lowest, standing_in, judged}
use Rattle.verdict.proofs.Flags.{count_most}
use Rattle.verdict.proofs.Verdicts.{Judged, of_bad, of_unchecked, of_torn, of_clean, judged_case, length-standing_in, length-nonzero, judged_refused}
use Rattle.stripe.specs.Tables.{table, all}
use Rattle.stripe.specs.Stripes.{block_of}
use Rattle.stripe.specs.Formats.{Summary, summary_of}
use Rattle.stripe.specs.Verdicts.{standing_members, guards_left, torn_places, verdict, scrub_refusal, scrub_numbers}
use Rattle.stripe.proofs.Tables.{length-table}
use Rattle.stripe.proofs.Scrubs.{scrub_sound}
use Rattle.scan.specs.declared.Scan.{Scan}
use Rattle.scan.specs.Scans.{fit, held_summary, registers_of, finish_refusal, finish_numbers}
use Rattle.scan.proofs.Fitness.{finish-fit}
use Rattle.irumbolai.specs.Answers.{field_end, Small}

lowest-most : (flags : List Bool) → lowest flags ≤ length flags
lowest-most [] = zero-le
lowest-most (true ∷ flags) = zero-le
lowest-most (false ∷ flags) = suc-le-suc (lowest-most flags)

judged_small : (members : List ℕ) (torn : List Bool) → length members < field_end → length torn < field_end → Small (1 ∷ 0 ∷ judged members torn)
judged_small members torn b t = by_case (judged_case members torn)
  where
    few-lowest : (least most : ℕ) → lowest (standing_in least most members) < field_end
    few-lowest least most = omega (arith, lowest-most (standing_in least most members), length-standing_in least most members)

    few-count : (least most : ℕ) → count (standing_in least most members) < field_end
    few-count least most = omega (arith, count_most (standing_in least most members), length-standing_in least most members)

    by_case : {l : List ℕ} → Judged members torn l → Small (1 ∷ 0 ∷ l)
    by_case (of_bad p) = record { first = few-lowest 1 7; count = few-count 1 7 }
    by_case (of_unchecked p q) = record { first = few-lowest 8 8; count = few-count 8 8 }
    by_case (of_torn p q r) = record { first = omega (arith, lowest-most torn); count = omega arith }
    by_case (of_clean p q r) = record { first = omega arith; count = omega arith }

length-standing : (a : Array) (stripe : ℕ) (s : Summary) → length (standing_members a stripe s) ≡ a.members
unfolding standing_members
length-standing a stripe s = length-table a.members _

length-torn : (F : Format) (s : Summary) → length (torn_places F s) ≡ length s.combined + 1
unfolding torn_places
length-torn F s = length-nonzero (s.combined ++ (guards_left F s ∷ [])) ∙ length-append s.combined (guards_left F s ∷ [])

-- the answer of a scrub that is refused unless the stripe has few members and its data combine to those of a block
verdict_small : (number : ℕ) (a : Array) (stripe : ℕ) (s : Summary) → (number ≡ 0 → (a.members ≤ 16) × (length s.combined ≡ (format_at a).data_length))
    → Small (answer number (verdict a stripe s))
verdict_small zero a stripe s h =
    judged_small (standing_members a stripe s) (torn_places (format_at a) s) (omega (arith, length-standing a stripe s, (h refl).0))
    (omega (arith, length-torn (format_at a) s, (h refl).1, (format_at a).data_most))
verdict_small (suc k) a stripe s h =
    let e = ap (λ (l : List ℕ). 0 ∷ suc k ∷ l) (judged_refused (standing_members a stripe s) (torn_places (format_at a) s)) in
    subst Small (sym e) (record { first = omega arith; count = omega arith })

pub scrub_small : (a : Array) (stripe : ℕ) (bytes : List ℕ) → Small (scrub_numbers a stripe bytes)
unfolding scrub_numbers
scrub_small a stripe bytes =
    let F = format_at a in
    let blocks = table a.members (block_of F bytes) in
    verdict_small (scrub_refusal a stripe (length bytes)) a stripe (summary_of F blocks)
    (λ e. ((stripe_sound a stripe (scrub_sound a stripe (length bytes) e).0).array.many, length-combination F.data_length (map (data_of F) blocks)))

finish-long : (s : Scan) (k : ℕ) → finish_refusal s k ≡ 0 → k ≡ (format_at s.array).data_length
unfolding finish_refusal
finish-long s k e =
    let F = format_at s.array in
    let last = refuse (not (all (map (λ p. eqb p F.block_length) (take s.array.members s.at)))) 8 0 in
    let fits = refuse-none (fit s) 3 (refuse (not (eqb k F.data_length)) 6 last) e in
    eqb-true k F.data_length (refuse-none (eqb k F.data_length) 5 last fits.1).0

pub finish_small : (s : Scan) (work : List ℕ) → Small (finish_numbers s work)
unfolding finish_numbers held_summary
finish_small s work =
    verdict_small (finish_refusal s (length work)) s.array s.stripe
    (held_summary (format_at s.array) s.array.members (registers_of (format_at s.array) s) s.tag work)
    (λ e. ((finish-fit s (length work) e).few, finish-long s (length work) e))
