-- A torn stripe and its updates. Where the guards are those of the data, one torn within as many successive bits as a guard reaches over is
-- never updated; where the parity carries them, one whose guards are not settled is not. The two torn stripes of the bench figures show where
-- this ends: guards tell of one of them, and the other is still updated. Assumes nothing.
use mathlib.Core.Path.{◌≡◌, refl, sym, ap, ◌∙◌, subst}
use mathlib.Core.Logic.{◌≢◌}
use mathlib.Core.Bool.{Bool, true, false}
use mathlib.Core.List.{List, [], ◌∷◌, map}
use Prim.Native.Nat.{ℕ, zero, suc, ◌+◌, ◌*◌, ◌<◌}
use native.Mathlib.Omega.{arith}
use borrow.Author.Tests.{eq-eqb, ne_eqb}
use lib.Dec.{lit<}
use lib.ListN.{length, get_or, replicate}
use Rattle.xor.specs.Xors.{combination}
use Rattle.crc.specs.Crc.{Bytes, Within}
use Rattle.crc.specs.Guard.{guard}
use Rattle.layout.specs.Arrays.{array_refusal, block_refusal}
use Rattle.layout.specs.Places.{parity_member, stripe_of, index_of, member_at}
use Rattle.layout.specs.declared.Array.{Array}
use Rattle.layout.proofs.Ranges.{stripe_sound}
use Rattle.format.specs.Formats.{settled}
use Rattle.format.proofs.Laws.{settled-first}
use Rattle.format.proofs.Combined.{settled-carried}
use Rattle.tag.specs.Blocks.{format_at, data_of}
use Rattle.tag.specs.Tags.{good}
use Rattle.tag.proofs.Numbers.{bytes_of_part, bytes_of_rest}
use Rattle.verdict.specs.Verdicts.{says_torn, combined_guards}
use Rattle.stripe.specs.Tables.{table, span, joined}
use Rattle.stripe.specs.Stripes.{block_of, member_data, stored_guard, stored_guards, Whole}
use Rattle.stripe.specs.Jobs.{guards_agree, update_refusal}
use Rattle.stripe.specs.Verdicts.{scrub_blocks, scrub_numbers, scrub_refusal, quick_of}
use Rattle.stripe.proofs.Tables.{length-table, get_or-table, table_ext, map-table}
use Rattle.stripe.proofs.Rows.{length-span}
use Rattle.stripe.proofs.Carried.{left_plain}
use Rattle.stripe.proofs.Scrubs.{blocks-good, scrub_sound, member_room, scrub_clean}
use Rattle.stripe.proofs.ScrubTaken.{scrub_taken}
use Rattle.stripe.proofs.Quick.{differs_within}
use Rattle.stripe.proofs.NotOnTorn.{Asked, agree-fits, unsettled_refused}
use Rattle.stripe.proofs.Torn.{bench, torn_blocks, block-there, in_memory, all-good, guards-there, size_is, some_end, few_bytes, guard_unseen, guard-seen}
use Rattle.stripe.proofs.Updates.{replace_taken}

-- what is not one is the other
not_so : (t : Bool) → (t ≡ true → ⊥) → t ≡ false
not_so true h = absurd (h refl)
not_so false h = refl

-- ---- torn within reach

module _ (a : Array) (s : ℕ) (bytes : List ℕ) (place : ℕ) (torn : scrub_numbers a s bytes ≡ 1 ∷ 0 ∷ says_torn place) (all-bytes : Bytes bytes) where
  taken : scrub_refusal a s (length bytes) ≡ 0
  taken = scrub_taken a s bytes (0 ∷ says_torn place) torn

  abbrev blocks : List (List ℕ)
  blocks = table a.members (block_of (format_at a) bytes)

  whole : Whole a blocks
  unfolding span
  whole =
      record {
        all_there = length-table a.members (block_of (format_at a) bytes);
        long = λ i h. long i (rw length-table at h);
        bytes = each a.members (λ m. (format_at a).block_length * m);
      }
    where
      long : (i : ℕ) → i < a.members → length (get_or blocks i []) ≡ (format_at a).block_length
      long i h =
          ap length (get_or-table a.members (block_of (format_at a) bytes) [] i h)
          ∙ length-span ((format_at a).block_length * i) (format_at a).block_length bytes (member_room a s (length bytes) i taken h)

      each : (n : ℕ) (from : ℕ → ℕ) (i : ℕ) → Bytes (get_or (table n (λ m. span (from m) (format_at a).block_length bytes)) i [])
      each zero from i = λ k. lit< tt
      each (suc n) from zero = bytes_of_part (format_at a).block_length _ (bytes_of_rest (from 0) bytes all-bytes)
      each (suc n) from (suc i) = each n (λ m. from (suc m)) i

  told : scrub_blocks a s blocks ≡ says_torn place
  unfolding scrub_numbers
  told =
      let said : scrub_numbers a s bytes ≡ 1 ∷ 0 ∷ scrub_blocks a s blocks = rw taken in
      ap (λ (l : List ℕ). tail (tail l)) (sym said ∙ torn)
    where
      tail : List ℕ → List ℕ
      tail [] = []
      tail (x ∷ l) = l

  other : (k : ℕ) → 2 ≢ k → get_or (scrub_blocks a s blocks) 0 0 ≢ k
  other k ne e = ne (sym (ap (λ (l : List ℕ). get_or l 0 0) told) ∙ e)

  together : map (data_of (format_at a)) blocks ≡ member_data (format_at a) a.members bytes
  together = map-table (data_of (format_at a)) a.members (block_of (format_at a) bytes)

  stored_are : map (stored_guard (format_at a)) blocks ≡ stored_guards (format_at a) a.members bytes
  stored_are = map-table (stored_guard (format_at a)) a.members (block_of (format_at a) bytes)

  -- the data do not combine to zero: where nothing is carried, it would be clean
  not-zero : (format_at a).carries ≡ false → combination (format_at a).data_length (member_data (format_at a) a.members bytes) ≢ replicate (format_at a).data_length 0
  not-zero plain zeros =
      let good = blocks-good a s blocks (length-table a.members (block_of (format_at a) bytes)) (other 1 (λ e. omega arith)) (other 3 (λ e. omega arith)) in
      let clean-too = (scrub_clean a s bytes taken).1
      (λ m h. ap (good-at m) (sym (get_or-table a.members (block_of (format_at a) bytes) [] m h)) ∙ good m h, zeros, left_plain (format_at a) (stored_guards (format_at a) a.members bytes) plain) in
      let kinds : ◌≡◌ {A = ℕ} 0 2 = ap (λ (l : List ℕ). get_or l 2 0) (sym clean-too ∙ torn) in
      omega arith
    where
      good-at : ℕ → List ℕ → Bool
      good-at m b = good a s m b

  -- so the guards do not agree where that lies within reach
  pub within_disagrees : (format_at a).carries ≡ false
      → Within (format_at a).reach ((format_at a).bits (combination (format_at a).data_length (member_data (format_at a) a.members bytes))) ((format_at a).bits (replicate (format_at a).data_length 0))
      → guards_agree a bytes ≡ false
  within_disagrees plain within =
      let F = format_at a in
      let sound = (stripe_sound a s (scrub_sound a s (length bytes) taken).0).array in
      let seen = differs_within a s blocks sound whole plain (other 1 (λ e. omega arith)) (other 3 (λ e. omega arith))
      (λ e. not-zero plain (ap (combination F.data_length) (sym together) ∙ e))
      (subst (λ (runs : List (List ℕ)). Within F.reach (F.bits (combination F.data_length runs)) (F.bits (replicate F.data_length 0))) (sym together) within) in
      not_so (guards_agree a bytes)
      (λ e. let o : ◌≡◌ {A = ℕ} 0 1 = ap (λ (l : List ℕ). get_or l 2 0) (sym ((agree-fits a bytes sound).0 e) ∙ ap (quick_of a) (sym stored_are) ∙ seen.1) in omega arith)

module _ (a : Array) (block newBytes : ℕ) (bytes : List ℕ) (asked : Asked a block newBytes bytes) where
  -- THE LAW: the scrub says torn, and the difference lies within as many successive bits as a guard reaches over
  pub torn_refused : (place : ℕ) → (format_at a).carries ≡ false → Bytes bytes → scrub_numbers a (stripe_of a block) bytes ≡ 1 ∷ 0 ∷ says_torn place
      → Within (format_at a).reach ((format_at a).bits (combination (format_at a).data_length (member_data (format_at a) a.members bytes))) ((format_at a).bits (replicate (format_at a).data_length 0))
      → update_refusal a block newBytes bytes ≡ 9
  torn_refused place plain all-bytes torn within =
      unsettled_refused a block newBytes bytes asked (within_disagrees a (stripe_of a block) bytes place torn all-bytes plain within)

  -- where the parity carries the data members' guards: they are not settled, whatever the data
  pub left_refused : (format_at a).carries ≡ true → combined_guards (stored_guards (format_at a) a.members bytes) ≢ 0 → update_refusal a block newBytes bytes ≡ 9
  unfolding guards_agree
  left_refused carrying some =
      unsettled_refused a block newBytes bytes asked
      (ne_eqb (combined_guards (stored_guards (format_at a) a.members bytes)) (settled (format_at a) a.members) (λ e. some (e ∙ settled-carried (format_at a) a.members carrying)))

-- ---- the bench figures: an update of block 0, on member 1 of the stripe whose parity ends so

module _ (size zeros x : ℕ) (rest : List ℕ) (data-size : size ≡ (format_at bench).data_length) (fill : zeros + suc (length rest) ≡ size) (some : x ≢ 0) (bytes : Bytes (x ∷ rest)) where
  abbrev stripe : List ℕ
  stripe = joined (torn_blocks size zeros (x ∷ rest))

  stands : combined_guards (stored_guards (format_at bench) 3 stripe) ≡ guard (x ∷ rest)
  stands =
      ap combined_guards
      (table_ext 3 (λ m. stored_guard (format_at bench) (block_of (format_at bench) stripe m)) (λ m. stored_guard (format_at bench) (get_or (torn_blocks size zeros (x ∷ rest)) m []))
      (λ m h. ap (stored_guard (format_at bench)) (block-there size zeros x rest data-size fill some bytes m h)))
      ∙ guards-there size zeros x rest data-size fill some bytes

  asked : Asked bench 0 size stripe
  unfolding block_refusal array_refusal
  asked = record { there = refl; long = in_memory size zeros x rest data-size fill some bytes; size = data-size }

  good-there : (m : ℕ) → m < 3 → good bench 0 m (block_of (format_at bench) stripe m) ≡ true
  good-there m h = ap (good bench 0 m) (block-there size zeros x rest data-size fill some bytes m h) ∙ all-good size zeros x rest data-size fill some bytes m h

  combining_taken : guard (x ∷ rest) ≡ 0 → update_refusal bench 0 size stripe ≡ 0
  unfolding update_refusal guards_agree parity_member stripe_of index_of member_at
  combining_taken e =
      rw asked.there
      (sym (replace_taken bench 0 1 size stripe asked.long data-size (good-there 1 (lit< tt)) (good-there 0 (lit< tt))
      (eq-eqb (combined_guards (stored_guards (format_at bench) 3 stripe)) (settled (format_at bench) 3) (stands ∙ e ∙ sym (settled-first 3)))))

  telling_refused : guard (x ∷ rest) ≢ 0 → update_refusal bench 0 size stripe ≡ 9
  unfolding guards_agree
  telling_refused ne =
      unsettled_refused bench 0 size stripe asked
      (ne_eqb (combined_guards (stored_guards (format_at bench) 3 stripe)) (settled (format_at bench) 3) (λ e. ne (sym stands ∙ e ∙ settled-first 3)))

pub torn_but_taken : update_refusal bench 0 512 (joined (torn_blocks 512 509 (0x01 ∷ 0x8B ∷ 0xB7 ∷ []))) ≡ 0
torn_but_taken = combining_taken 512 509 0x01 (0x8B ∷ 0xB7 ∷ []) size_is refl some_end (few_bytes 0x01 0x8B 0xB7 (lit< tt) (lit< tt) (lit< tt)) guard_unseen

pub torn-and_refused : update_refusal bench 0 512 (joined (torn_blocks 512 509 (0x01 ∷ 0x8B ∷ 0xB6 ∷ []))) ≡ 9
torn-and_refused =
    telling_refused 512 509 0x01 (0x8B ∷ 0xB6 ∷ []) size_is refl some_end (few_bytes 0x01 0x8B 0xB6 (lit< tt) (lit< tt) (lit< tt))
    (λ e. let z : ◌≡◌ {A = ℕ} 0x8BB7 0 = sym guard-seen ∙ e in omega arith)
