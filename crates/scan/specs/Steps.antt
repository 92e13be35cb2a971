-- Steps of the code, cited by promises of its private functions: no theorem's statement rests on these. Tests of the first positions,
-- a piece at its position, and how the members stand by what a state holds. Assumes nothing.
use Rattle.std.specs.Prelude.{ℕ, ◌+◌, ◌-◌, ◌*◌, ◌^◌, Bool, ◌&&◌, ◌||◌, List, ◌++◌, map, leb, ltb, eqb, get_or, take, drop}
use Rattle.std.proofs.lemmas.List.Edits.{sets}
use Rattle.xor.specs.Xors.{xors}
use Rattle.layout.specs.declared.Array.{Array}
use Rattle.tag.specs.Tags.{found, expected, standing}
use Rattle.stripe.specs.Tables.{table, all, span}
use Rattle.format.specs.Formats.{Format}
use Rattle.tag.specs.Blocks.{format_at}
use Rattle.scan.specs.declared.Scan.{Scan}
use Rattle.scan.specs.Scans.{data_of_piece, tag_of_piece, register_at}

-- a member may stand at a position with this value and a byte waiting: not past the end of a block, with no more bits than a guard has, and nothing
-- waits but where a byte can; the first n members do
abbrev pub member_fit : Format → ℕ → ℕ → ℕ → Bool
member_fit F position value waiting = leb position F.block_length && ltb value (256 ^ F.quarter) && (eqb waiting 0 || F.waits position)

abbrev pub members_fit : Format → ℕ → List ℕ → List ℕ → List ℕ → Bool
members_fit F n at register waiting = all (table n (λ m. member_fit F (get_or at m 0) (get_or register m 0) (get_or waiting m 0)))

-- of the first n positions none is past the end of a block; all stand there
abbrev pub none_past : Format → ℕ → List ℕ → Bool
none_past F n at = all (map (λ p. leb p F.block_length) (take n at))

abbrev pub all_whole : Format → ℕ → List ℕ → Bool
all_whole F n at = all (map (λ p. eqb p F.block_length) (take n at))

-- a work buffer with the data of a piece from position p on combined into it, and the tag bytes with those of its tag stored for member m
abbrev pub combined_from : Format → ℕ → List ℕ → List ℕ → List ℕ
combined_from F p work bytes = take p work ++ xors (drop p work) (data_of_piece F p bytes)

abbrev pub tags_from : Format → ℕ → List ℕ → ℕ → List ℕ → List ℕ
tags_from F p tag m bytes = sets tag (F.tag_length * m + (p - F.data_length)) (tag_of_piece F p bytes)

-- how a member stands by its register and its tag bytes among those held
unfoldable pub held_standing : Array → ℕ → ℕ → ℕ → List ℕ → ℕ
held_standing a stripe m register tag =
    let F = format_at a in
    let tag-found = found F (span (F.tag_length * m) F.tag_length tag) in
    standing F tag-found (expected a stripe m tag-found (F.guard_of register))

-- how the members of a state stand
unfoldable pub standings_held : Scan → List ℕ
standings_held s = table s.array.members (λ m. held_standing s.array s.stripe m (register_at (format_at s.array) s m) s.tag)

-- the guards in the tags held of n members
unfoldable pub held_guards : Format → ℕ → List ℕ → List ℕ
held_guards F n tag = table n (λ m. (found F (span (F.tag_length * m) F.tag_length tag)).guard)
