-- The verdict of a scrub, as a function of a stripe's summary, and the full scrub: the verdict of its whole blocks. Assumes nothing.
use Rattle.std.specs.Prelude.{ℕ, ◌<◌, ◌≡◌, Bool, true, false, not, List, [], ◌∷◌, ◌++◌, map, eqb, length, get_or}
use Rattle.layout.specs.Answers.{refuse, after, answer}
use Rattle.layout.specs.Arrays.{stripe_refusal}
use Rattle.layout.specs.declared.Array.{Array}
use Rattle.format.specs.Formats.{Format, settled}
use Rattle.tag.specs.Blocks.{format_at}
use Rattle.tag.specs.Tags.{found, expected, standing}
use Rattle.verdict.specs.Verdicts.{nonzero, says_clean, judged, compared_with}
use Rattle.stripe.specs.Tables.{table}
use Rattle.stripe.specs.Stripes.{stripe_length, block_of, left_of}
use Rattle.stripe.specs.Formats.{Summary, summary_of}

-- how the members stand: by their tag, and the one due to their guard at their place
unfoldable pub standing_members : Array → ℕ → Summary → List ℕ
standing_members a stripe s =
    let F = format_at a in
    table a.members (λ m. standing F (found F (get_or s.tags m [])) (expected a stripe m (found F (get_or s.tags m [])) (get_or s.guards m 0)))

-- what is left of the guards in the tags, where the parity carries the data members'
abbrev pub guards_left : Format → Summary → ℕ
guards_left F s = left_of F (map (λ tag. (found F tag).guard) s.tags)

-- which places of the combination are not zero; behind the last, that of the guards
unfoldable pub torn_places : Format → Summary → List Bool
torn_places F s = nonzero (s.combined ++ (guards_left F s ∷ []))

abbrev pub verdict : Array → ℕ → Summary → List ℕ
verdict a stripe s = judged (standing_members a stripe s) (torn_places (format_at a) s)

-- ---- the full scrub of whole blocks, in member order, and of a stripe in memory

abbrev pub scrub_blocks : Array → ℕ → List (List ℕ) → List ℕ
scrub_blocks a stripe blocks = verdict a stripe (summary_of (format_at a) blocks)

unfoldable pub scrub_refusal : Array → ℕ → ℕ → ℕ
scrub_refusal a stripe stripeBytes = after (stripe_refusal a stripe) (refuse (not (eqb stripeBytes (stripe_length a))) 6 0)

unfoldable pub scrub_numbers : Array → ℕ → List ℕ → List ℕ
scrub_numbers a stripe bytes =
    answer (scrub_refusal a stripe (length bytes)) (scrub_blocks a stripe (table a.members (block_of (format_at a) bytes)))

-- ---- the quick scrub of the guards that stand in an array's stripe: what they have to combine to goes by its format and its members

abbrev pub quick_of : Array → List ℕ → List ℕ
quick_of a guards = compared_with (settled (format_at a) a.members) guards

-- ---- what a scrub is proved to tell

-- the answer that a stripe is clean: done, no refusal, no member bad or unchecked, no torn place
abbrev pub clean : List ℕ
clean = 1 ∷ 0 ∷ says_clean

-- f holds of m, a member of n, and of none below it
pub record FirstMember (f : ℕ → Bool) (n m : ℕ) : Type 0 where
  pub inside : m < n
  pub holds : f m ≡ true
  pub none_below : (k : ℕ) → k < m → f k ≡ false
