-- The member that `place` answers is one of the array's, so it fits its field. Assumes nothing.
use mathlib.Core.Path.{◌≡◌, ◌∙◌}
use Prim.Native.Nat.{ℕ, ◌≤◌}
use native.Mathlib.Decide.{ℕ_discrete}
use native.Mathlib.Omega.{arith}
use Rattle.std.specs.Prelude.{Result, Ok, Err}
use Rattle.refusal.specs.declared.Refusal.{Refusal}
use Rattle.layout.specs.Arrays.{block_refusal}
use Rattle.layout.specs.Places.{member_of, stripe_of, placed_numbers, place_numbers}
use Rattle.layout.specs.declared.Array.{Array}
use Rattle.layout.specs.declared.Placed.{Placed}
use Rattle.layout.proofs.Numbers.{place_refused, place-numbers}
use Rattle.layout.proofs.Ranges.{place_sound}
use Rattle.layout.proofs.Bijection.{place-refusal}
use Rattle.irumbolai.specs.Answers.{member_answered}

pub member_small : (a : Array) (block : ℕ) (p : Result Placed Refusal) → placed_numbers p ≡ place_numbers a block → member_answered p ≤ 16
member_small a block (Err refusal) told = omega arith
member_small a block (Ok placed) told = by_refusal (ℕ_discrete (block_refusal a block) 0)
  where
    by_refusal : Dec (block_refusal a block ≡ 0) → placed.member ≤ 16
    by_refusal (yes done) =
        let h = place_sound a (stripe_of a block) (member_of a block) (place-refusal a block done) in
        let same = told ∙ place-numbers a block done in
        let e : placed.member ≡ member_of a block = cc in
        omega arith
    by_refusal (no refused) =
        let same = told ∙ place_refused a block refused in
        let z : ◌≡◌ {A = ℕ} 0 1 = cc in
        absurd (omega arith)
