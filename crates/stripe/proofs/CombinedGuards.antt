-- The guards stored in a stripe's members, combined: zero where the stripe scrubs clean, and where one member's block is replaced then,
-- what that member's stored guard differs by.
-- Assumes nothing.
use mathlib.Core.Path.{◌≡◌, refl, sym, ap, ap₂, ◌∙◌}
use mathlib.Core.Logic.{◌≢◌}
use mathlib.Core.List.{List, [], ◌∷◌, map}
use mathlib.Core.Bool.{Bool, true, false}
use Prim.Native.Nat.{ℕ, suc, ◌*◌, ◌<◌}
use borrow.Author.Tests.{eq-eqb}
use lib.Bits.{bit_xor, xor_comm, xor_zero_l}
use lib.ListN.{length, get_or}
use Rattle.xor.proofs.Bits.{xor-twice, xor_undo}
use Rattle.layout.specs.declared.Array.{Array}
use Rattle.layout.proofs.Ranges.{stripe_sound}
use Rattle.format.specs.Formats.{guard, blank, spare, settled}
use Rattle.format.proofs.Combined.{spare-suc, settled-carried, settled_plain, guard-combination}
use Rattle.format.proofs.Laws.{combines}
use Rattle.tag.specs.Blocks.{format_at, data_of}
use Rattle.tag.specs.Tags.{good}
use Rattle.tag.proofs.Guards.{own_plain}
use Rattle.tag.proofs.Cases.{good-guard}
use Rattle.tag.proofs.Tagged.{length_data}
use Rattle.verdict.specs.Verdicts.{says_clean, combined_guards}
use Rattle.verdict.proofs.Quick.{sound_quick, compared_fits}
use Rattle.stripe.specs.Tables.{table}
use Rattle.stripe.specs.Stripes.{block_of, member_data, stored_guard, stored_guards, Parity, Settled}
use Rattle.stripe.specs.Jobs.{guards_agree}
use Rattle.stripe.specs.Verdicts.{scrub_numbers, scrub_refusal, clean, quick_of}
use Rattle.stripe.proofs.Tables.{length-table, get_or-table, table_ext, map-table}
use Rattle.stripe.proofs.Rows.{length-span}
use Rattle.stripe.proofs.Guards.{together-guards}
use Rattle.stripe.proofs.Carried.{guards-set, left-carried}
use Rattle.stripe.proofs.Scrubs.{scrub_sound, member_room, scrub_clean}
use Rattle.stripe.proofs.ScrubTaken.{scrub_taken}
use Rattle.stripe.proofs.OneEntry.{one_entry_set}

-- the guards as they stand in a stripe's members
abbrev pub stored : Array → List ℕ → List ℕ
stored a bytes = stored_guards (format_at a) a.members bytes

module _ (a : Array) (stripe : ℕ) (bytes : List ℕ) (is-clean : scrub_numbers a stripe bytes ≡ clean) where
  taken : scrub_refusal a stripe (length bytes) ≡ 0
  taken = scrub_taken a stripe bytes (0 ∷ says_clean) is-clean

  told : ((m : ℕ) → m < a.members → good a stripe m (block_of (format_at a) bytes m) ≡ true) × Parity (format_at a) a.members bytes × Settled (format_at a) a.members bytes
  told = (scrub_clean a stripe bytes taken).0 is-clean

  -- guards of data are those of the members
  guards_of_data : (format_at a).carries ≡ false → stored a bytes ≡ map (guard (format_at a)) (member_data (format_at a) a.members bytes)
  guards_of_data plain =
      let F = format_at a in
      table_ext a.members (λ m. stored_guard F (block_of F bytes m)) (λ m. guard F (data_of F (block_of F bytes m)))
      (λ m here. good-guard a stripe m (block_of F bytes m) (own_plain a stripe m plain) (told.0 m here))
      ∙ sym (map-table (guard F) a.members (λ m. data_of F (block_of F bytes m)))

  -- what they combine to is the same for every clean stripe of the array
  pub guards-settled : combined_guards (stored a bytes) ≡ settled (format_at a) a.members
  guards-settled = by_case (format_at a).carries refl
    where
      long : (m : ℕ) → m < length (member_data (format_at a) a.members bytes) → length (get_or (member_data (format_at a) a.members bytes) m []) ≡ (format_at a).data_length
      long m h =
          let F = format_at a in
          let here : m < a.members = rw length-table at h in
          ap length (get_or-table a.members (λ k. data_of F (block_of F bytes k)) [] m here)
          ∙ length_data F (block_of F bytes m) (length-span (F.block_length * m) F.block_length bytes (member_room a stripe (length bytes) m taken here))

      by_case : (c : Bool) → (format_at a).carries ≡ c → combined_guards (stored a bytes) ≡ settled (format_at a) a.members
      by_case true e = sym (left-carried (format_at a) (stored a bytes) e) ∙ told.2 ∙ sym (settled-carried (format_at a) a.members e)
      by_case false e =
          let F = format_at a in
          let n = a.members in
          let runs = member_data F n bytes in
          let all = combined_guards (stored a bytes) in
          let count : length runs ≡ n = length-table n (λ k. data_of F (block_of F bytes k)) in
          let right : bit_xor all (spare F (suc n)) ≡ blank F =
          ap₂ (λ (x k : ℕ). bit_xor x (spare F (suc k))) (ap combined_guards (guards_of_data e) ∙ sym (together-guards (map (guard F) runs))) (sym count)
          ∙ sym (guard-combination F (combines a.method e) runs long) ∙ ap (guard F) told.1 in
          sym (xor-twice all (spare F (suc n))) ∙ ap₂ bit_xor right (sym (spare-suc F n)) ∙ ap (bit_xor (blank F)) (xor_comm (spare F n) (blank F)) ∙ xor_undo (blank F) (spare F n)
          ∙ sym (settled_plain F n e)

  -- which is nothing, where the parity carries them
  guards-zero : (format_at a).carries ≡ true → combined_guards (stored a bytes) ≡ 0
  guards-zero carrying = guards-settled ∙ settled-carried (format_at a) a.members carrying

  -- so they agree
  pub clean_agrees : guards_agree a bytes ≡ true
  unfolding guards_agree
  clean_agrees = eq-eqb (combined_guards (stored a bytes)) (settled (format_at a) a.members) guards-settled

  -- and the quick scrub of them fits
  pub clean-fits : quick_of a (stored a bytes) ≡ 1 ∷ 0 ∷ 0 ∷ 0 ∷ []
  clean-fits =
      let sound = (stripe_sound a stripe (scrub_sound a stripe (length bytes) taken).0).array in
      compared_fits (settled (format_at a) a.members) (stored a bytes) (rw length-table (sound_quick a.members sound.few sound.many)) guards-settled

  -- there, one member's block replaced, by anything: its guard before and its guard now are what is left
  pub guards_but_one : (format_at a).carries ≡ true → (member : ℕ) (later : List ℕ) → member < a.members
      → ((m : ℕ) → m < a.members → m ≢ member → block_of (format_at a) later m ≡ block_of (format_at a) bytes m)
      → combined_guards (stored a later) ≡ bit_xor (stored_guard (format_at a) (block_of (format_at a) bytes member)) (stored_guard (format_at a) (block_of (format_at a) later member))
  guards_but_one carrying member later here kept =
      let F = format_at a in
      let n = a.members in
      let before : ℕ → ℕ = λ m. stored_guard F (block_of F bytes m) in
      let now : ℕ → ℕ = λ m. stored_guard F (block_of F later m) in
      ap combined_guards (one_entry_set n member now before here (λ m h ne. ap (stored_guard F) (kept m h ne)))
      ∙ guards-set (table n before) member (now member) (rw length-table here)
      ∙ ap₂ (λ (x y : ℕ). bit_xor (bit_xor x y) (now member)) (guards-zero carrying) (get_or-table n before 0 member here)
      ∙ ap (λ (x : ℕ). bit_xor x (now member)) (xor_zero_l (before member))
