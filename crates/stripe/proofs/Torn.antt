-- The two torn stripes of the bench figures: three members, all data zero but the end of the parity, and every tag the one due. The
-- scrub finds the first byte of that end in both; the stored guards tell of one of them, and cannot of the other. A rebuild gives back a
-- wrong block whose tag fits. Assumes nothing.
use mathlib.Core.Path.{◌≡◌, refl, sym, ap, ◌∙◌, subst}
use mathlib.Core.Bool.{true, false}
use mathlib.Core.List.{List, [], ◌∷◌, ◌++◌, map}
use mathlib.Core.Logic.{◌≢◌}
use Prim.Native.Nat.{ℕ, zero, suc, ◌+◌, ◌<◌}
use native.Mathlib.Nat.{le_of_suc-le-suc, not-suc-le-zero}
use native.Mathlib.Omega.{arith}
use lib.Dec.{lit<, lit≤}
use lib.ListN.{length, get_or, replicate, length-append, length-replicate, get_or-replicate, get_or-append}
use lib.Seq.{get_or_at}
use Rattle.xor.specs.Xors.{xors, add_all, combination}
use Rattle.xor.proofs.Lists.{xors-zeros, zeros-xors, xors-twice, xors_self}
use Rattle.crc.specs.Crc.{bits, bits_of, bit_step, feed, Bytes}
use Rattle.crc.specs.Guard.{run, guard}
use Rattle.crc.proofs.Joined.{run-joined}
use Rattle.crc.proofs.Linear.{guard_linear}
use lib.Bits.{bit_xor, xor_self, xor_zero_r}
use Rattle.format.specs.Formats.{guard as wide}
use Rattle.format.specs.Methods.{format_of}
use Rattle.format.proofs.Laws.{guard-t10}
use Rattle.format.proofs.Combined.{spare-even}
use Rattle.layout.specs.Arrays.{array_of, array_refusal}
use Rattle.layout.specs.Places.{owner_refusal}
use Rattle.layout.specs.Ranges.{Sound}
use Rattle.layout.specs.declared.Array.{Array}
use Rattle.layout.proofs.Ranges.{array_sound, sound_place}
use Rattle.tag.specs.Blocks.{format_at, data_of}
use Rattle.tag.specs.Tags.{good, tagged}
use Rattle.tag.proofs.Numbers.{bytes-joined}
use Rattle.tag.proofs.Tagged.{length-tagged, data_of_tagged, tagged-good, bytes-tagged}
use Rattle.verdict.specs.Verdicts.{says_torn, combined_guards, quick_numbers}
use Rattle.verdict.specs.Flags.{FirstNonzero}
use Rattle.verdict.proofs.Behind.{first-inside}
use Rattle.verdict.proofs.Quick.{sound_quick, quick_fits, quick_differs}
use Rattle.stripe.specs.Tables.{joined}
use Rattle.stripe.specs.Stripes.{stripe_length, block_of, member_data, others_data, stored_guard, left_of, Whole}
use Rattle.stripe.specs.Jobs.{rebuild_refusal, rebuilt}
use Rattle.stripe.specs.Verdicts.{scrub_blocks}
use Rattle.stripe.proofs.Tables.{table_ext}
use Rattle.stripe.proofs.Blocks.{span-joined, length-joined}
use Rattle.stripe.proofs.Others.{good_others}
use Rattle.stripe.proofs.Rebuilds.{sources_rebuild}
use Rattle.stripe.proofs.Carried.{fit_plain}
use Rattle.stripe.proofs.Parity.{all_with_others}
use Rattle.stripe.proofs.Restores.{rebuilt_data, rebuilt-good}
use Rattle.stripe.proofs.Scrubs.{blocks-torn}
use Rattle.stripe.proofs.Quick.{bytes-zeros, guards-combined}

guard-zeros : (n : ℕ) → guard (replicate n 0) ≡ 0
guard-zeros n =
    ap (λ (k : ℕ). guard (replicate k 0)) (sym (length-replicate {A = ℕ} n 0)) ∙ ap guard (sym (xors_self (replicate n 0)))
    ∙ guard_linear (replicate n 0) (replicate n 0) refl ∙ xor_self (guard (replicate n 0))

abbrev pub bench : Array
bench = array_of 3 1 7 1 1

-- its format is that of method 1
narrowed : (l : List ℕ) → wide (format_at bench) l ≡ guard l
unfolding format_of
narrowed l = guard-t10 l

plain : (format_at bench).carries ≡ false
unfolding format_of
plain = refl

bench_sound : Sound bench
unfolding array_refusal
bench_sound = array_sound bench refl

place : (m : ℕ) → m < 3 → owner_refusal bench 0 m ≡ 0
place m h = sound_place bench 0 m (record { stripe = record { array = bench_sound; here = lit< tt }; here = h })

-- a run and two runs of zeros combine to the run
with_zeros : (n : ℕ) (p q r : List ℕ) → length p ≡ n → q ≡ replicate n 0 → r ≡ replicate n 0 → combination n (p ∷ q ∷ r ∷ []) ≡ p
unfolding add_all
with_zeros n p q r long second third =
    ap (λ (l : List ℕ). xors (xors (xors (replicate n 0) p) q) l) third ∙ xors-zeros (xors (xors (replicate n 0) p) q) n
    ∙ ap (λ (l : List ℕ). xors (xors (replicate n 0) p) l) second ∙ xors-zeros (xors (replicate n 0) p) n
    ∙ ap (λ (k : ℕ). xors (replicate k 0) p) (sym long) ∙ zeros-xors p

-- some zeros and then an ending, and the stripe whose parity that is
abbrev pub zeros_then : ℕ → List ℕ → List ℕ
zeros_then zeros ending = replicate zeros 0 ++ ending

abbrev pub torn_blocks : ℕ → ℕ → List ℕ → List (List ℕ)
torn_blocks size zeros ending =
    tagged bench 0 0 0 (zeros_then zeros ending) ∷ tagged bench 0 1 0 (replicate size 0) ∷ tagged bench 0 2 0 (replicate size 0) ∷ []

module _ (size zeros x : ℕ) (rest : List ℕ) (data-size : size ≡ (format_at bench).data_length) (fill : zeros + suc (length rest) ≡ size) (some : x ≢ 0) (bytes : Bytes (x ∷ rest)) where
  long : length (zeros_then zeros (x ∷ rest)) ≡ (format_at bench).data_length
  long = simp (length-append, length-replicate) (omega arith)

  zeros-long : length (replicate {A = ℕ} size 0) ≡ (format_at bench).data_length
  zeros-long = length-replicate {A = ℕ} size 0 ∙ data-size

  combined : combination (format_at bench).data_length (map (data_of (format_at bench)) (torn_blocks size zeros (x ∷ rest))) ≡ zeros_then zeros (x ∷ rest)
  combined =
      with_zeros (format_at bench).data_length (data_of (format_at bench) (tagged bench 0 0 0 (zeros_then zeros (x ∷ rest)))) (data_of (format_at bench) (tagged bench 0 1 0 (replicate size 0))) (data_of (format_at bench) (tagged bench 0 2 0 (replicate size 0)))
      (ap length first ∙ long)
      (data_of_tagged bench 0 1 0 (replicate size 0) zeros-long ∙ ap (λ (k : ℕ). replicate k 0) data-size)
      (data_of_tagged bench 0 2 0 (replicate size 0) zeros-long ∙ ap (λ (k : ℕ). replicate k 0) data-size)
      ∙ first
    where
      first : data_of (format_at bench) (tagged bench 0 0 0 (zeros_then zeros (x ∷ rest))) ≡ zeros_then zeros (x ∷ rest)
      first = data_of_tagged bench 0 0 0 (zeros_then zeros (x ∷ rest)) long

  pub all-good : (m : ℕ) → m < 3 → good bench 0 m (get_or (torn_blocks size zeros (x ∷ rest)) m []) ≡ true
  all-good zero h = tagged-good bench 0 0 0 (zeros_then zeros (x ∷ rest)) long (place 0 h) (lit< tt)
  all-good (suc zero) h = tagged-good bench 0 1 0 (replicate size 0) zeros-long (place 1 h) (lit< tt)
  all-good (suc (suc zero)) h = tagged-good bench 0 2 0 (replicate size 0) zeros-long (place 2 h) (lit< tt)
  all-good (suc (suc (suc m))) h = absurd (not-suc-le-zero (le_of_suc-le-suc (le_of_suc-le-suc (le_of_suc-le-suc h))))

  first-there : FirstNonzero (zeros_then zeros (x ∷ rest)) zeros
  first-there =
      record {
        inside = omega (arith, long);
        not-zero = λ e. some (sym (get_or_at (replicate zeros 0) x rest 0 zeros (length-replicate {A = ℕ} zeros 0)) ∙ e);
        zero-below = λ k h. get_or-append (replicate zeros 0) (x ∷ rest) 0 k (omega (arith, length-replicate {A = ℕ} zeros 0)) ∙ get_or-replicate zeros k 0 0 h;
      }

  pub torn-there : scrub_blocks bench 0 (torn_blocks size zeros (x ∷ rest)) ≡ says_torn zeros
  torn-there =
      (blocks-torn bench 0 (torn_blocks size zeros (x ∷ rest)) refl zeros).1
      (all-good, first-inside (combination (format_at bench).data_length (map (data_of (format_at bench)) (torn_blocks size zeros (x ∷ rest)))) (left_of (format_at bench) (map (stored_guard (format_at bench)) (torn_blocks size zeros (x ∷ rest)))) zeros (subst (λ (l : List ℕ). FirstNonzero l zeros) (sym combined) first-there))

  whole : Whole bench (torn_blocks size zeros (x ∷ rest))
  whole = record { all_there = refl; long = each_long; bytes = each_bytes }
    where
      each_long : (i : ℕ) → i < 3 → length (get_or (torn_blocks size zeros (x ∷ rest)) i []) ≡ (format_at bench).block_length
      each_long zero h = length-tagged bench 0 0 0 (zeros_then zeros (x ∷ rest)) long
      each_long (suc zero) h = length-tagged bench 0 1 0 (replicate size 0) zeros-long
      each_long (suc (suc zero)) h = length-tagged bench 0 2 0 (replicate size 0) zeros-long
      each_long (suc (suc (suc m))) h = absurd (not-suc-le-zero (le_of_suc-le-suc (le_of_suc-le-suc (le_of_suc-le-suc h))))

      each_bytes : (i : ℕ) → Bytes (get_or (torn_blocks size zeros (x ∷ rest)) i [])
      each_bytes zero = bytes-tagged bench 0 0 0 (zeros_then zeros (x ∷ rest)) (bytes-joined (replicate zeros 0) (x ∷ rest) (bytes-zeros zeros) bytes)
      each_bytes (suc zero) = bytes-tagged bench 0 1 0 (replicate size 0) (bytes-zeros size)
      each_bytes (suc (suc zero)) = bytes-tagged bench 0 2 0 (replicate size 0) (bytes-zeros size)
      each_bytes (suc (suc (suc m))) = λ k. lit< tt

  -- the stored guards combine to the guard of the ending
  pub guards-there : combined_guards (map (stored_guard (format_at bench)) (torn_blocks size zeros (x ∷ rest))) ≡ guard (x ∷ rest)
  unfolding guard
  guards-there =
      let F = format_at bench in
      let all = combined_guards (map (stored_guard F) (torn_blocks size zeros (x ∷ rest))) in
      sym (ap (bit_xor all) (spare-even F 4 refl) ∙ xor_zero_r all)
      ∙ guards-combined bench 0 (torn_blocks size zeros (x ∷ rest)) bench_sound whole plain (other 1 (λ e. omega arith)) (other 3 (λ e. omega arith)) ∙ ap (wide F) combined ∙ narrowed (zeros_then zeros (x ∷ rest))
      ∙ run-joined 0 (replicate zeros 0) (x ∷ rest) ∙ ap (λ (r : ℕ). run r (x ∷ rest)) (guard-zeros zeros)
    where
      other : (k : ℕ) → 2 ≢ k → get_or (scrub_blocks bench 0 (torn_blocks size zeros (x ∷ rest))) 0 0 ≢ k
      other k ne e = ne (sym (ap (λ (l : List ℕ). get_or l 0 0) torn-there) ∙ e)

  -- ---- a rebuild of a data member, whose data are zeros: what comes back is the parity's ending, in a block that is good

  pub block-there : (m : ℕ) → m < 3 → block_of (format_at bench) (joined (torn_blocks size zeros (x ∷ rest))) m ≡ get_or (torn_blocks size zeros (x ∷ rest)) m []
  block-there m h = span-joined (format_at bench).block_length 3 (λ m. get_or (torn_blocks size zeros (x ∷ rest)) m []) m whole.long h

  pub in_memory : length (joined (torn_blocks size zeros (x ∷ rest))) ≡ stripe_length bench
  in_memory = length-joined (format_at bench).block_length 3 (λ m. get_or (torn_blocks size zeros (x ∷ rest)) m []) whole.long

  was_zero : data_of (format_at bench) (block_of (format_at bench) (joined (torn_blocks size zeros (x ∷ rest))) 1) ≡ replicate size 0
  was_zero = ap (data_of (format_at bench)) (block-there 1 (lit< tt)) ∙ data_of_tagged bench 0 1 0 (replicate size 0) zeros-long

  made_of_others : others_data (format_at bench) 3 1 (joined (torn_blocks size zeros (x ∷ rest))) ≡ zeros_then zeros (x ∷ rest)
  made_of_others =
      let bytes = joined (torn_blocks size zeros (x ∷ rest)) in
      let same : member_data (format_at bench) 3 bytes ≡ map (data_of (format_at bench)) (torn_blocks size zeros (x ∷ rest)) = table_ext 3 (λ m. data_of (format_at bench) (block_of (format_at bench) bytes m)) (λ m. data_of (format_at bench) (get_or (torn_blocks size zeros (x ∷ rest)) m [])) (λ m h. ap (data_of (format_at bench)) (block-there m h)) in
      sym (xors-twice (others_data (format_at bench) 3 1 bytes) (data_of (format_at bench) (block_of (format_at bench) bytes 1)))
      ∙ ap (λ (l : List ℕ). xors l (data_of (format_at bench) (block_of (format_at bench) bytes 1))) (sym (all_with_others (format_at bench) 3 1 bytes (lit< tt)) ∙ ap (combination (format_at bench).data_length) same ∙ combined)
      ∙ ap (xors (zeros_then zeros (x ∷ rest))) was_zero ∙ xors-zeros (zeros_then zeros (x ∷ rest)) size

  pub rebuilt-wrong : (rebuild_refusal bench 0 1 (joined (torn_blocks size zeros (x ∷ rest))) ≡ 0)
      × (data_of (format_at bench) (block_of (format_at bench) (joined (torn_blocks size zeros (x ∷ rest))) 1) ≡ replicate size 0)
      × (data_of (format_at bench) (block_of (format_at bench) (rebuilt bench 0 1 (joined (torn_blocks size zeros (x ∷ rest)))) 1) ≡ zeros_then zeros (x ∷ rest))
      × (good bench 0 1 (block_of (format_at bench) (rebuilt bench 0 1 (joined (torn_blocks size zeros (x ∷ rest)))) 1) ≡ true)
  rebuilt-wrong =
      let bytes = joined (torn_blocks size zeros (x ∷ rest)) in
      let here = place 1 (lit< tt) in (
        sources_rebuild bench 0 1 bytes
            (record {
              place = here;
              long = in_memory;
              others = good_others bench 0 1 bytes (λ m h ne. ap (good bench 0 m) (block-there m h) ∙ all-good m h);
              fits = fit_plain bench 0 1 bytes (wide (format_at bench) (others_data (format_at bench) 3 1 bytes)) plain;
            }),
        was_zero,
        rebuilt_data bench 0 1 bytes here in_memory ∙ made_of_others,
        rebuilt-good bench 0 1 bytes here in_memory (lit< tt),
      )

  pub unseen : guard (x ∷ rest) ≡ 0 → quick_numbers (map (stored_guard (format_at bench)) (torn_blocks size zeros (x ∷ rest))) ≡ 1 ∷ 0 ∷ 0 ∷ 0 ∷ []
  unseen e = quick_fits (map (stored_guard (format_at bench)) (torn_blocks size zeros (x ∷ rest))) (sound_quick 3 (lit≤ tt) (lit≤ tt)) (guards-there ∙ e)

  pub seen : guard (x ∷ rest) ≢ 0 → quick_numbers (map (stored_guard (format_at bench)) (torn_blocks size zeros (x ∷ rest))) ≡ 1 ∷ 0 ∷ 1 ∷ guard (x ∷ rest) ∷ []
  seen h =
      quick_differs (map (stored_guard (format_at bench)) (torn_blocks size zeros (x ∷ rest))) (sound_quick 3 (lit≤ tt) (lit≤ tt)) (λ e. h (sym guards-there ∙ e))
      ∙ ap (λ (g : ℕ). 1 ∷ 0 ∷ 1 ∷ g ∷ []) guards-there

-- ---- the figures: torn at 509 both, the guards fit, and differ by 8BB7

pub few_bytes : (a b c : ℕ) → a < 256 → b < 256 → c < 256 → Bytes (a ∷ b ∷ c ∷ [])
few_bytes a b c ha hb hc zero = ha
few_bytes a b c ha hb hc (suc zero) = hb
few_bytes a b c ha hb hc (suc (suc zero)) = hc
few_bytes a b c ha hb hc (suc (suc (suc k))) = lit< tt

pub guard_unseen : guard (0x01 ∷ 0x8B ∷ 0xB7 ∷ []) ≡ 0
unfolding guard run feed bits_of bits bit_step
guard_unseen = refl

pub guard-seen : guard (0x01 ∷ 0x8B ∷ 0xB6 ∷ []) ≡ 0x8BB7
unfolding guard run feed bits_of bits bit_step
guard-seen = refl

pub size_is : 512 ≡ (format_at bench).data_length
unfolding format_of
size_is = refl

pub some_end : ◌≢◌ {A = ℕ} 1 0
some_end e = omega arith

pub torn_unseen : (scrub_blocks bench 0 (torn_blocks 512 509 (0x01 ∷ 0x8B ∷ 0xB7 ∷ [])) ≡ says_torn 509)
    × (quick_numbers (map (stored_guard (format_at bench)) (torn_blocks 512 509 (0x01 ∷ 0x8B ∷ 0xB7 ∷ []))) ≡ 1 ∷ 0 ∷ 0 ∷ 0 ∷ [])
torn_unseen =
    let bytes = few_bytes 0x01 0x8B 0xB7 (lit< tt) (lit< tt) (lit< tt) in (
      torn-there 512 509 0x01 (0x8B ∷ 0xB7 ∷ []) size_is refl some_end bytes,
      unseen 512 509 0x01 (0x8B ∷ 0xB7 ∷ []) size_is refl some_end bytes guard_unseen,
    )

pub torn-seen : (scrub_blocks bench 0 (torn_blocks 512 509 (0x01 ∷ 0x8B ∷ 0xB6 ∷ [])) ≡ says_torn 509)
    × (quick_numbers (map (stored_guard (format_at bench)) (torn_blocks 512 509 (0x01 ∷ 0x8B ∷ 0xB6 ∷ []))) ≡ 1 ∷ 0 ∷ 1 ∷ 0x8BB7 ∷ [])
torn-seen =
    let bytes = few_bytes 0x01 0x8B 0xB6 (lit< tt) (lit< tt) (lit< tt) in (
      torn-there 512 509 0x01 (0x8B ∷ 0xB6 ∷ []) size_is refl some_end bytes,
      seen 512 509 0x01 (0x8B ∷ 0xB6 ∷ []) size_is refl some_end bytes (λ e. let z : ◌≡◌ {A = ℕ} 0x8BB7 0 = sym guard-seen ∙ e in omega arith)
          ∙ ap (λ (g : ℕ). 1 ∷ 0 ∷ 1 ∷ g ∷ []) guard-seen,
    )

-- the first of them rebuilt: the block on member 1 was zeros, and comes back as another, which is good there
pub torn-rebuilt : (rebuild_refusal bench 0 1 (joined (torn_blocks 512 509 (0x01 ∷ 0x8B ∷ 0xB7 ∷ []))) ≡ 0)
    × (data_of (format_at bench) (block_of (format_at bench) (joined (torn_blocks 512 509 (0x01 ∷ 0x8B ∷ 0xB7 ∷ []))) 1) ≡ replicate 512 0)
    × (data_of (format_at bench) (block_of (format_at bench) (rebuilt bench 0 1 (joined (torn_blocks 512 509 (0x01 ∷ 0x8B ∷ 0xB7 ∷ [])))) 1) ≡ zeros_then 509 (0x01 ∷ 0x8B ∷ 0xB7 ∷ []))
    × (good bench 0 1 (block_of (format_at bench) (rebuilt bench 0 1 (joined (torn_blocks 512 509 (0x01 ∷ 0x8B ∷ 0xB7 ∷ [])))) 1) ≡ true)
torn-rebuilt = rebuilt-wrong 512 509 0x01 (0x8B ∷ 0xB7 ∷ []) size_is refl some_end (few_bytes 0x01 0x8B 0xB7 (lit< tt) (lit< tt) (lit< tt))
