-- The record of stripes with an update open, here called the log: 64 entries of eight bytes, the highest byte first; zero is a free entry, any
-- other number a stripe plus one. Assumes nothing.
use Rattle.std.specs.Prelude.{ℕ, suc, ◌*◌, Bool, not, ◌&&◌, ◌||◌, List, map, eqb, ltb, leb}
use Rattle.std.proofs.lemmas.List.Edits.{sets}
use Rattle.layout.specs.Answers.{refuse}
use Rattle.layout.specs.declared.Array.{Array}
use Rattle.tag.specs.Numbers.{bytes_of, number_of}
use Rattle.verdict.specs.Verdicts.{count, lowest}
use Rattle.stripe.specs.Tables.{table, all, part}

abbrev pub entry_length : ℕ
entry_length = 8

abbrev pub entry_count : ℕ
entry_count = 64

abbrev pub log_length : ℕ
log_length = entry_length * entry_count

-- the entries as numbers; which of them are x, and how many these are
unfoldable pub entries : List ℕ → List ℕ
entries log = table entry_count (λ i. number_of (part entry_length log i))

abbrev pub those : ℕ → List ℕ → List Bool
those x es = map (λ e. eqb e x) es

abbrev pub many : ℕ → List ℕ → ℕ
many x es = count (those x es)

-- the first entry that is x becomes y
unfoldable pub written : ℕ → ℕ → List ℕ → List ℕ
written x y log = sets log (entry_length * lowest (those x (entries log))) (bytes_of entry_length y)

-- a stripe is entered; its entry made in the lowest free place; its entry struck out
abbrev pub named : ℕ → List ℕ → Bool
named stripe log = ltb 0 (many (suc stripe) (entries log))

abbrev pub entered : ℕ → List ℕ → List ℕ
entered stripe log = written 0 (suc stripe) log

abbrev pub struck : ℕ → List ℕ → List ℕ
struck stripe log = written (suc stripe) 0 log

-- every entry is free, or names a stripe of the array that no other entry names
abbrev pub entry_fits : ℕ → List ℕ → ℕ → Bool
entry_fits stripes es e = eqb e 0 || (leb e stripes && eqb (many e es) 1)

unfoldable pub entries_fit : ℕ → List ℕ → Bool
entries_fit stripes es = all (map (entry_fits stripes es) es)

-- refusal 16; then 14, no entry is free, and 15, the stripe has one already
unfoldable pub log_refusal : Array → List ℕ → ℕ
log_refusal a log = refuse (not (entries_fit a.stripes (entries log))) 16 0

unfoldable pub entry_refusal : ℕ → List ℕ → ℕ
entry_refusal stripe log = refuse (eqb (many 0 (entries log)) 0) 14 (refuse (named stripe log) 15 0)
