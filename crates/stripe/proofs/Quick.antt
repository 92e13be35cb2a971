-- The quick scrub on the stored guards of whole blocks, where these are guards of data: where no member is bad or unchecked it sees the guard of the blocks' combination, so it fits
-- where the data combine to zero, and differs wherever they do not and all one bits lie within as many successive bits as a guard reaches over.
-- Assumes nothing.
use mathlib.Core.Path.{◌≡◌, refl, sym, ap, ap₂, ◌∙◌}
use mathlib.Core.Bool.{false}
use mathlib.Core.List.{List, [], ◌∷◌, map}
use mathlib.Core.Logic.{◌≢◌}
use Prim.Native.Nat.{ℕ, zero, suc, ◌+◌, ◌≤◌, ◌<◌, suc-le-suc}
use native.Mathlib.Nat.{zero-lt-suc, le_of_suc-le-suc, not-suc-le-zero}
use native.Mathlib.Omega.{arith}
use lib.Bits.{bit_xor, xor_comm}
use Rattle.xor.proofs.Bits.{xor-twice, xor_undo}
use lib.Dec.{lit<}
use lib.ListN.{length, get_or, replicate, length-map, length-replicate}
use Rattle.xor.specs.Xors.{combination}
use Rattle.xor.proofs.Lists.{xors_self}
use Rattle.xor.proofs.Combination.{length-combination, bytes-add_all}
use Rattle.crc.specs.Crc.{bits_of, Bytes, Within}
use Rattle.format.specs.Formats.{Format, guard, blank, spare, settled}
use Rattle.format.specs.Methods.{format_of}
use Rattle.format.proofs.Laws.{combines, notices, settled-first, settled-large}
use Rattle.format.proofs.Combined.{spare-suc, settled_plain, guard-combination}
use Rattle.crc.proofs.Linear.{bits_of-xors}
use Rattle.layout.specs.Ranges.{Sound}
use Rattle.layout.specs.declared.Array.{Array}
use Rattle.tag.specs.Blocks.{format_at, data_of}
use Rattle.tag.proofs.Guards.{own_plain}
use Rattle.tag.proofs.Cases.{good-guard}
use Rattle.tag.proofs.Tagged.{length_data, bytes_of_data}
use Rattle.verdict.specs.Verdicts.{combined_guards, quick_refusal, compared_with, quick_numbers}
use Rattle.verdict.specs.QuickWide.{wide_due, quick_wide_numbers}
use Rattle.verdict.proofs.Verdicts.{zeros-at}
use Rattle.verdict.proofs.Quick.{sound_quick, compared_fits, compared_differs}
use Rattle.verdict.proofs.QuickWide.{due_is}
use Rattle.stripe.specs.Stripes.{stored_guard, Whole}
use Rattle.stripe.specs.Verdicts.{scrub_blocks, quick_of}
use Rattle.stripe.proofs.Guards.{together-guards}
use Rattle.stripe.proofs.Scrubs.{blocks-good}

-- ---- whole blocks, as many as the array has members

lengths_data : (F : Format) (blocks : List (List ℕ)) → ((i : ℕ) → i < length blocks → length (get_or blocks i []) ≡ F.block_length)
    → (i : ℕ) → i < length (map (data_of F) blocks) → length (get_or (map (data_of F) blocks) i []) ≡ F.data_length
lengths_data F [] long i h = absurd (not-suc-le-zero h)
lengths_data F (b ∷ blocks) long zero h = length_data F b (long 0 (zero-lt-suc (length blocks)))
lengths_data F (b ∷ blocks) long (suc i) h = lengths_data F blocks (λ i h. long (suc i) (suc-le-suc h)) i (le_of_suc-le-suc h)

bytes_data : (F : Format) (blocks : List (List ℕ)) → ((i : ℕ) → Bytes (get_or blocks i [])) → (i : ℕ) → Bytes (get_or (map (data_of F) blocks) i [])
bytes_data F [] h i k = lit< tt
bytes_data F (b ∷ blocks) h zero k = bytes_of_data F b (h 0) k
bytes_data F (b ∷ blocks) h (suc i) k = bytes_data F blocks (λ i. h (suc i)) i k

pub bytes-zeros : (n : ℕ) → Bytes (replicate n 0)
bytes-zeros n k = rw (zeros-at n k) (lit< tt)

stored-guards : (F : Format) (blocks : List (List ℕ)) → ((i : ℕ) → i < length blocks → stored_guard F (get_or blocks i []) ≡ guard F (data_of F (get_or blocks i [])))
    → map (stored_guard F) blocks ≡ map (guard F) (map (data_of F) blocks)
stored-guards F [] right = refl
stored-guards F (b ∷ blocks) right =
    ap₂ (λ (g : ℕ) (gs : List ℕ). g ∷ gs) (right 0 (zero-lt-suc (length blocks))) (stored-guards F blocks (λ i h. right (suc i) (suc-le-suc h)))

-- the one bits of a combination lie within sixteen successive bits: it differs from zeros only there
pub within-zeros : (n from : ℕ) (bytes : List ℕ) → ((k : ℕ) → k < from → get_or (bits_of bytes) k 0 ≡ 0)
    → ((k : ℕ) → from + 16 ≤ k → get_or (bits_of bytes) k 0 ≡ 0) → Within 16 (bits_of bytes) (bits_of (replicate n 0))
within-zeros n from bytes low high = record { from = from; before = λ k h. low k h ∙ sym (none k); after = λ k h. high k h ∙ sym (none k) }
  where
    all : bits_of (replicate n 0) ≡ replicate (length (bits_of (replicate n 0))) 0
    all =
        ap (λ (k : ℕ). bits_of (replicate k 0)) (sym (length-replicate {A = ℕ} n 0)) ∙ ap bits_of (sym (xors_self (replicate n 0)))
        ∙ bits_of-xors (replicate n 0) (replicate n 0) refl ∙ xors_self (bits_of (replicate n 0))

    none : (k : ℕ) → get_or (bits_of (replicate n 0)) k 0 ≡ 0
    none k = ap (λ (l : List ℕ). get_or l k 0) all ∙ zeros-at (length (bits_of (replicate n 0))) k

module _ (a : Array) (s : ℕ) (blocks : List (List ℕ)) (sound : Sound a) (whole : Whole a blocks) (plain : (format_at a).carries ≡ false) (none-bad : get_or (scrub_blocks a s blocks) 0 0 ≢ 1) (all-checked : get_or (scrub_blocks a s blocks) 0 0 ≢ 3) where
  -- the stored guards combined are the guard of the combination, and that of a block of zeros where the members are even in number
  pub guards-combined : bit_xor (combined_guards (map (stored_guard (format_at a)) blocks)) (spare (format_at a) (suc a.members))
      ≡ guard (format_at a) (combination (format_at a).data_length (map (data_of (format_at a)) blocks))
  guards-combined =
      let F = format_at a in
      let count : length (map (data_of F) blocks) ≡ a.members = length-map blocks (data_of F) ∙ whole.all_there in
      ap₂ (λ (x n : ℕ). bit_xor x (spare F (suc n)))
      (ap combined_guards (stored-guards F blocks (λ i h. good-guard a s i (get_or blocks i []) (own_plain a s i plain) (blocks-good a s blocks whole.all_there none-bad all-checked i (omega (arith, whole.all_there)))))
      ∙ sym (together-guards (map (guard F) (map (data_of F) blocks)))) (sym count)
      ∙ sym (guard-combination F (combines a.method plain) (map (data_of F) blocks) (lengths_data F blocks whole.long))

  -- the same, told of the guards
  pub combined_is : combined_guards (map (stored_guard (format_at a)) blocks)
      ≡ bit_xor (guard (format_at a) (combination (format_at a).data_length (map (data_of (format_at a)) blocks))) (spare (format_at a) (suc a.members))
  combined_is =
      let x = combined_guards (map (stored_guard (format_at a)) blocks) in
      let s = spare (format_at a) (suc a.members) in
      sym (xor-twice x s) ∙ ap (λ (y : ℕ). bit_xor y s) guards-combined

  enough : quick_refusal (length (map (stored_guard (format_at a)) blocks)) ≡ 0
  enough =
      let count : length (map (stored_guard (format_at a)) blocks) ≡ a.members = length-map blocks (stored_guard (format_at a)) ∙ whole.all_there in
      ap quick_refusal count ∙ sound_quick a.members sound.few sound.many

  -- the data combine to zero at every byte: it fits
  pub fits_where_zero : combination (format_at a).data_length (map (data_of (format_at a)) blocks) ≡ replicate (format_at a).data_length 0
      → quick_of a (map (stored_guard (format_at a)) blocks) ≡ 1 ∷ 0 ∷ 0 ∷ 0 ∷ []
  fits_where_zero e =
      let F = format_at a in
      let n = a.members in
      compared_fits (settled F n) (map (stored_guard F) blocks) enough
      (combined_is ∙ ap₂ bit_xor (ap (guard F) e) (sym (spare-suc F n)) ∙ ap (bit_xor (blank F)) (xor_comm (spare F n) (blank F)) ∙ xor_undo (blank F) (spare F n)
      ∙ sym (settled_plain F n plain))

  -- they do not, by one bits that lie within as many successive bits as a guard reaches over: it differs
  pub differs_within : combination (format_at a).data_length (map (data_of (format_at a)) blocks) ≢ replicate (format_at a).data_length 0
      → Within (format_at a).reach ((format_at a).bits (combination (format_at a).data_length (map (data_of (format_at a)) blocks))) ((format_at a).bits (replicate (format_at a).data_length 0))
      → (guard (format_at a) (combination (format_at a).data_length (map (data_of (format_at a)) blocks)) ≢ blank (format_at a))
      × (quick_of a (map (stored_guard (format_at a)) blocks)
      ≡ 1 ∷ 0 ∷ 1 ∷ bit_xor (guard (format_at a) (combination (format_at a).data_length (map (data_of (format_at a)) blocks))) (spare (format_at a) (suc a.members)) ∷ [])
  differs_within ne within =
      let F = format_at a in
      let n = a.members in
      let combined = combination F.data_length (map (data_of F) blocks) in
      let all = combined_guards (map (stored_guard F) blocks) in
      let seen : guard F combined ≢ blank F =
      notices a.method plain combined (replicate F.data_length 0)
      (bytes-add_all (replicate F.data_length 0) (map (data_of F) blocks) (bytes-zeros F.data_length) (bytes_data F blocks whole.bytes))
      (bytes-zeros F.data_length)
      (length-combination F.data_length (map (data_of F) blocks) ∙ sym (length-replicate {A = ℕ} F.data_length 0))
      within ne in
      let off : all ≢ settled F n =
      λ e. seen (sym guards-combined ∙ ap₂ bit_xor (e ∙ settled_plain F n plain) (sym (spare-suc F n)) ∙ xor_undo (spare F n) (blank F)) in (
        seen,
        compared_differs (settled F n) (map (stored_guard F) blocks) enough off ∙ ap (λ (g : ℕ). 1 ∷ 0 ∷ 1 ∷ g ∷ []) combined_is,
      )

-- by method 1 it is the quick scrub of guards of sixteen bits
pub quick_of_first : (a : Array) (guards : List ℕ) → a.method ≡ 1 → quick_of a guards ≡ quick_numbers guards
unfolding quick_numbers
quick_of_first a guards e = ap (λ (due : ℕ). compared_with due guards) (ap (λ (m : ℕ). settled (format_of m) a.members) e ∙ settled-first a.members)

-- by method 3, of as many guards as there are members, it is that of guards of thirty-two bits
pub quick_of_third : (a : Array) (guards : List ℕ) → a.method ≡ 3 → length guards ≡ a.members → quick_of a guards ≡ quick_wide_numbers guards
unfolding quick_wide_numbers
quick_of_third a guards e all =
    ap (λ (due : ℕ). compared_with due guards) (settled-large a.method a.members e ∙ sym (due_is a.members) ∙ ap wide_due (sym all))
