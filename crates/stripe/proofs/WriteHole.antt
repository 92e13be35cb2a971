-- The write hole in figures: three members, volume 7, sealed from two blocks of zeros but for their last bytes, 01 and 02. The update of the first
-- to zeros is cut at either write, and the second is lost. By method 1 it comes back ending in 03, and is good there; by method 2 it is refused.
-- Assumes nothing.
use mathlib.Core.Path.{◌≡◌, refl, sym, ap, ap₂, ◌∙◌}
use mathlib.Core.Logic.{◌⊎◌}
use mathlib.Core.Bool.{true, false}
use mathlib.Core.List.{List, [], ◌∷◌, ◌++◌}
use Prim.Native.Nat.{ℕ, suc, ◌+◌, ◌*◌, ◌<◌}
use native.Mathlib.Omega.{arith}
use lib.Bits.{bit_xor}
use lib.Dec.{lit<}
use lib.ListN.{length, replicate, length-append, length-replicate}
use lib.Seq.{length-sets}
use Rattle.xor.specs.Xors.{xors}
use Rattle.xor.proofs.Lists.{xors-zeros, xors-append}
use Rattle.layout.specs.Arrays.{array_of, array_refusal}
use Rattle.layout.specs.Places.{parity_member, stripe_of, index_of, member_at, index_at}
use Rattle.layout.specs.Ranges.{Sound, SoundStripe}
use Rattle.layout.specs.declared.Array.{Array}
use Rattle.layout.proofs.Ranges.{array_sound, sound_block}
use Rattle.format.specs.Formats.{Format, guard}
use Rattle.format.specs.Methods.{format_of}
use Rattle.format.proofs.Figures.{carried, guards, end_guards}
use Rattle.tag.specs.Blocks.{data_of}
use Rattle.tag.specs.Tags.{good}
use Rattle.stripe.specs.Tables.{joined, part}
use Rattle.stripe.specs.Stripes.{block_of}
use Rattle.stripe.specs.Jobs.{sealed_data, sealed, update_bytes, rebuild_refusal, rebuild_bytes}
use Rattle.stripe.proofs.Blocks.{span-joined, length-joined}
use Rattle.stripe.proofs.Seals.{length-sealed}
use Rattle.stripe.proofs.Sealed.{sealed_data_lem}
use Rattle.stripe.proofs.UpdateSealed.{sealed_takes_update}
use Rattle.stripe.proofs.Clean.{sealed-clean}
use Rattle.stripe.proofs.Torn.{zeros_then}
use Rattle.stripe.proofs.Cure.{half_updated, CutUpdate, LostBlock, fits_exactly, cut-rebuild, cut_unseen}

abbrev pub shelf : ℕ → Array
shelf method = array_of 3 1 7 method 1

abbrev pub two_blocks : ℕ → List ℕ
two_blocks zeros = joined (zeros_then zeros (1 ∷ []) ∷ zeros_then zeros (2 ∷ []) ∷ [])

-- the update is cut, on member 1 or on the parity, which is on member 0; then block 1, on member 2, is lost
abbrev pub cut_shelf : ℕ → ℕ → ℕ → ℕ → List ℕ
cut_shelf method size zeros written = half_updated (shelf method) 0 written (replicate size 0) (sealed (shelf method) 0 (two_blocks zeros))

pub record Hole (method size zeros written : ℕ) (damaged : List ℕ) : Type 0 where
  pub one_of_two : (written ≡ 1) ⊎ (written ≡ 0)
  pub loss : LostBlock (shelf method) 0 1 (cut_shelf method size zeros written) damaged

module _ (method size zeros : ℕ) (sound : Sound (shelf method)) (data-size : size ≡ (format_of method).data_length) (fill : zeros + 1 ≡ size) where
  abbrev F : Format
  F = format_of method

  abbrev before : List ℕ
  before = sealed (shelf method) 0 (two_blocks zeros)

  there : SoundStripe (shelf method) 0
  there = record { array = sound; here = lit< tt }

  part-long : (i : ℕ) → length (zeros_then zeros (suc i ∷ [])) ≡ F.data_length
  part-long i = simp (length-append, length-replicate) (omega arith)

  content_long : length (two_blocks zeros) ≡ F.data_length * 2
  content_long = length-joined F.data_length 2 (λ i. zeros_then zeros (suc i ∷ [])) (λ i h. part-long i)

  new-long : length (replicate {A = ℕ} size 0) ≡ F.data_length
  new-long = length-replicate {A = ℕ} size 0 ∙ data-size

  sealed-part : (m i : ℕ) → m < 3 → i < 2 → sealed_data (shelf method) 0 (two_blocks zeros) m ≡ part F.data_length (two_blocks zeros) i
      → data_of F (block_of F before m) ≡ zeros_then zeros (suc i ∷ [])
  sealed-part m i h l e =
      sealed_data_lem (shelf method) 0 (two_blocks zeros) there content_long m h ∙ e
      ∙ span-joined F.data_length 2 (λ i. zeros_then zeros (suc i ∷ [])) i (λ i h. part-long i) l

  was_first : data_of F (block_of F before 1) ≡ zeros_then zeros (1 ∷ [])
  unfolding index_at parity_member
  was_first = sealed-part 1 0 (lit< tt) (lit< tt) refl

  was_second : data_of F (block_of F before 2) ≡ zeros_then zeros (2 ∷ [])
  unfolding index_at parity_member
  was_second = sealed-part 2 1 (lit< tt) (lit< tt) refl

  made-wrong : xors (xors (data_of F (block_of F before 2)) (data_of F (block_of F before 1))) (replicate size 0) ≡ zeros_then zeros (3 ∷ [])
  unfolding xors
  made-wrong =
      xors-zeros (xors (data_of F (block_of F before 2)) (data_of F (block_of F before 1))) size
      ∙ ap₂ xors was_second was_first
      ∙ xors-append (replicate zeros 0) (2 ∷ []) (replicate zeros 0) (1 ∷ []) refl
      ∙ ap (λ (l : List ℕ). l ++ (3 ∷ [])) (xors-zeros (replicate zeros 0) zeros)

  module _ (written : ℕ) (damaged : List ℕ) (hole : Hole method size zeros written damaged) where
    cut_short : CutUpdate (shelf method) 0 written (replicate size 0) before
    unfolding stripe_of index_of member_at parity_member
    cut_short =
        record {
          was_clean = sealed-clean (shelf method) 0 (two_blocks zeros) there content_long (lit< tt);
          done = sealed_takes_update (shelf method) 0 (two_blocks zeros) (replicate size 0) (record { array = sound; here = lit< tt }) (lit< tt) content_long new-long;
          one_of_two = hole.one_of_two;
        }

    given_wrong : F.carries ≡ false → (rebuild_refusal (shelf method) 0 2 damaged ≡ 0)
        × (data_of F (block_of F (rebuild_bytes (shelf method) 0 2 damaged) 2) ≡ zeros_then zeros (3 ∷ []))
        × (good (shelf method) 0 2 (block_of F (rebuild_bytes (shelf method) 0 2 damaged) 2) ≡ true)
    unfolding stripe_of index_of member_at parity_member
    given_wrong plain =
        let seen = cut_unseen (shelf method) 0 1 written (replicate size 0) before damaged (lit< tt) cut_short hole.loss plain in
        (seen.0, seen.1 ∙ made-wrong, seen.2)

    refused : F.carries ≡ true → guard F (zeros_then zeros (1 ∷ [])) ≡ 1 → guard F (zeros_then zeros (2 ∷ [])) ≡ 2 → guard F (zeros_then zeros (3 ∷ [])) ≡ 3
        → guard F (replicate size 0) ≡ 0xFFFF → rebuild_refusal (shelf method) 0 2 damaged ≡ 9
    unfolding stripe_of index_of member_at parity_member
    refused carrying one two three none =
        (cut-rebuild (shelf method) 0 1 written (replicate size 0) before damaged (lit< tt) cut_short hole.loss carrying).0.1
        (λ fits.
        let e = (fits_exactly (shelf method) 0 1 written (replicate size 0) before damaged (lit< tt) cut_short hole.loss carrying).0 fits in
        let z : ◌≡◌ {A = ℕ} 0xFFFC 3 =
        sym (ap₂ bit_xor (ap₂ bit_xor (ap (guard F) was_second ∙ two) (ap (guard F) was_first ∙ one)) none) ∙ e ∙ ap (guard F) made-wrong ∙ three in
        omega arith)

  -- there are such stripes: one is the cut stripe itself, the second block as it was
  hole_there : (written : ℕ) → (written ≡ 1) ⊎ (written ≡ 0) → Hole method size zeros written (cut_shelf method size zeros written)
  unfolding stripe_of
  hole_there written two =
      record {
        one_of_two = two;
        loss =
            record {
              there = sound_block (shelf method) 1 (record { array = sound; here = lit< tt });
              same-stripe = refl;
              another = λ e. omega arith;
              as_long =
                  length-sets before (F.block_length * written) (block_of F (update_bytes (shelf method) 0 (replicate size 0) before) written)
                  ∙ length-sealed (shelf method) 0 (two_blocks zeros) there content_long;
              kept = λ k h ne. refl;
            };
      }

-- ---- the figures

shelf_sound : (Sound (shelf 1)) × (Sound (shelf 2))
unfolding array_refusal
shelf_sound = (array_sound (shelf 1) refl, array_sound (shelf 2) refl)

lengths : (512 ≡ (format_of 1).data_length) × (512 ≡ (format_of 2).data_length)
unfolding format_of
lengths = (refl, refl)

pub hole_unseen : (written : ℕ) (damaged : List ℕ) → Hole 1 512 511 written damaged → (rebuild_refusal (shelf 1) 0 2 damaged ≡ 0)
    × (data_of (format_of 1) (block_of (format_of 1) (rebuild_bytes (shelf 1) 0 2 damaged) 2) ≡ zeros_then 511 (3 ∷ []))
    × (good (shelf 1) 0 2 (block_of (format_of 1) (rebuild_bytes (shelf 1) 0 2 damaged) 2) ≡ true)
hole_unseen written damaged hole = given_wrong 1 512 511 shelf_sound.0 lengths.0 refl written damaged hole carried.0

pub hole_refused : (written : ℕ) (damaged : List ℕ) → Hole 2 512 511 written damaged → rebuild_refusal (shelf 2) 0 2 damaged ≡ 9
hole_refused written damaged hole =
    refused 2 512 511 shelf_sound.1 lengths.1 refl written damaged hole carried.1 end_guards.0 end_guards.1 end_guards.2 guards.0

pub holes_there : (written : ℕ) → (written ≡ 1) ⊎ (written ≡ 0) → Hole 1 512 511 written (cut_shelf 1 512 511 written) × Hole 2 512 511 written (cut_shelf 2 512 511 written)
holes_there written two = (hole_there 1 512 511 shelf_sound.0 lengths.0 refl written two, hole_there 2 512 511 shelf_sound.1 lengths.1 refl written two)
