-- All members together, and all but one: the one is what the others lack of zero.
-- Assumes nothing.
use mathlib.Core.Path.{◌≡◌, sym, ap, ap₂, ◌∙◌}
use mathlib.Core.Logic.{◌≢◌}
use mathlib.Core.List.{List, []}
use Prim.Native.Nat.{ℕ, ◌*◌, ◌≤◌, ◌<◌}
use native.Mathlib.Decide.{ℕ_discrete}
use native.Mathlib.Omega.{arith}
use lib.ListN.{length, get_or, set, replicate, length-set}
use lib.Seq.{ext_get_or, get_or-set_same, get_or-set_other}
use Rattle.xor.specs.Xors.{xors, add_all, combination}
use Rattle.xor.proofs.Lists.{xors-nil, xors-twice, xors_eq, xors_self}
use Rattle.xor.proofs.Combination.{add_all-set}
use Rattle.format.specs.Formats.{Format}
use Rattle.format.proofs.Sizes.{times-next}
use Rattle.tag.specs.Blocks.{data_of}
use Rattle.tag.proofs.Tagged.{length_data}
use Rattle.stripe.specs.Tables.{others}
use Rattle.stripe.specs.Stripes.{block_of, member_data, others_data, Parity}
use Rattle.stripe.proofs.Tables.{length-table, get_or-table}
use Rattle.stripe.proofs.Rows.{add_all-others, length-others_data, length-span}

module _ (F : Format) (n m : ℕ) (bytes : List ℕ) (here : m < n) where
  -- all are the others and the one
  pub all_with_others : combination F.data_length (member_data F n bytes) ≡ xors (others_data F n m bytes) (data_of F (block_of F bytes m))
  unfolding others_data
  all_with_others =
      let runs = member_data F n bytes in
      let zeros = replicate {A = ℕ} F.data_length 0 in
      let mine : get_or runs m [] ≡ data_of F (block_of F bytes m) = get_or-table n (λ k. data_of F (block_of F bytes k)) [] m here in
      let without : add_all zeros (others m runs) ≡ xors (add_all zeros runs) (get_or runs m []) =
      add_all-others zeros m runs ∙ add_all-set zeros runs m [] (rw length-table here) ∙ xors-nil (xors (add_all zeros runs) (get_or runs m [])) in
      sym (xors-twice (add_all zeros runs) (get_or runs m [])) ∙ ap₂ xors (sym without) mine

  length_member_data : F.block_length * n ≤ length bytes → length (data_of F (block_of F bytes m)) ≡ F.data_length
  length_member_data h = length_data F (block_of F bytes m) (length-span (F.block_length * m) F.block_length bytes (omega (arith, times-next F.block_length m n here)))

  -- where parity is right the others combine to the one, and the other way round
  pub others_are_one : F.block_length * n ≤ length bytes → Parity F n bytes → others_data F n m bytes ≡ data_of F (block_of F bytes m)
  others_are_one room zero-sum =
      xors_eq (others_data F n m bytes) (data_of F (block_of F bytes m)) (length-others_data F n m bytes ∙ sym (length_member_data room))
      (sym all_with_others ∙ zero-sum ∙ ap (λ (k : ℕ). replicate k 0) (sym (length-others_data F n m bytes)))

  pub one_is_others : others_data F n m bytes ≡ data_of F (block_of F bytes m) → Parity F n bytes
  one_is_others e =
      all_with_others ∙ ap (xors (others_data F n m bytes)) (sym e) ∙ xors_self (others_data F n m bytes) ∙ ap (λ (k : ℕ). replicate k 0) (length-others_data F n m bytes)

-- the others' data do not depend on what stands in the one's place
pub others_ext : (F : Format) (n m : ℕ) (x y : List ℕ) → ((k : ℕ) → k < n → k ≢ m → data_of F (block_of F x k) ≡ data_of F (block_of F y k)) → others_data F n m x ≡ others_data F n m y
unfolding others_data
others_ext F n m x y h =
    add_all-others (replicate F.data_length 0) m (member_data F n x)
    ∙ ap (add_all (replicate F.data_length 0)) (ext_get_or [] (set (member_data F n x) m []) (set (member_data F n y) m []) (long x ∙ sym (long y)) (λ k l. at k (rw long at l) (ℕ_discrete k m)))
    ∙ sym (add_all-others (replicate F.data_length 0) m (member_data F n y))
  where
    long : (z : List ℕ) → length (set (member_data F n z) m []) ≡ n
    long z = length-set (member_data F n z) m [] ∙ length-table n (λ k. data_of F (block_of F z k))

    at : (k : ℕ) → k < n → Dec (k ≡ m) → get_or (set (member_data F n x) m []) k [] ≡ get_or (set (member_data F n y) m []) k []
    at k l (yes e) =
        rw (e, get_or-set_same (member_data F n x) m [] [] (rw length-table (rw e at l)), get_or-set_same (member_data F n y) m [] [] (rw length-table (rw e at l)))
    at k l (no e) =
        get_or-set_other (member_data F n x) m k [] [] e ∙ get_or-table n (λ k. data_of F (block_of F x k)) [] k l ∙ h k l e
        ∙ sym (get_or-table n (λ k. data_of F (block_of F y k)) [] k l) ∙ sym (get_or-set_other (member_data F n y) m k [] [] e)
