-- What those above a stripe need to know of one whose update was cut short: the update up to one of its two stores, and which data member is
-- not good. Assumes nothing.
use Rattle.std.specs.Prelude.{ℕ, Bool, not, cond, ◌&&◌, List, eqb, length}
use Rattle.layout.specs.Places.{member_of, is_parity}
use Rattle.layout.specs.declared.Array.{Array}
use Rattle.tag.specs.Blocks.{format_at}
use Rattle.verdict.specs.Verdicts.{lowest}
use Rattle.stripe.specs.Tables.{table}
use Rattle.stripe.specs.Stripes.{block_of}
use Rattle.stripe.specs.Jobs.{unless_refused, with_block, stored_good, update_refusal, update_bytes}
use Rattle.stripe.specs.Verdicts.{scrub_refusal}

-- the stripe after the first so many of the two stores of an update: the block as the whole update leaves it, then the parity too
unfoldable pub part_bytes : Array → ℕ → List ℕ → List ℕ → ℕ → List ℕ
part_bytes a block new bytes stores =
    let F = format_at a in
    let own = member_of a block in
    let whole = update_bytes a block new bytes in
    unless_refused (update_refusal a block (length new) bytes) (cond (eqb stores 0) bytes (cond (eqb stores 1) (with_block F bytes own (block_of F whole own)) whole)) bytes

-- a data member that is bad or unchecked; and the lowest of them: the number of members where there is none, or where there is no such stripe
unfoldable pub amiss : Array → ℕ → List ℕ → ℕ → Bool
amiss a stripe bytes member = not (is_parity a stripe member) && not (stored_good a stripe member bytes)

unfoldable pub first_amiss : Array → ℕ → List ℕ → ℕ
first_amiss a stripe bytes = cond (eqb (scrub_refusal a stripe (length bytes)) 0) (lowest (table a.members (amiss a stripe bytes))) a.members
