-- The full scrub, of whole blocks and of a stripe in memory: when it is refused, and that it says clean, bad, unchecked
-- and torn exactly of such stripes.
-- Assumes nothing.
use mathlib.Core.Path.{◌≡◌, refl, sym, ap, ap₂, ◌∙◌}
use mathlib.Core.Bool.{Bool, true, false, not, cond}
use mathlib.Core.List.{List, [], ◌∷◌, ◌++◌, map}
use mathlib.Core.Logic.Iff
use mathlib.Core.Logic.{◌≢◌, ◌↔◌}
use Prim.Native.Nat.{ℕ, zero, suc, ◌+◌, ◌*◌, ◌≤◌, ◌<◌}
use native.Mathlib.Omega.{arith}
use borrow.Author.Tests.{eqb-true, eq-eqb, ne_eqb}
use lib.Dec.{eqb}
use lib.ListN.{length, get_or, set, take, replicate}
use Rattle.xor.specs.Xors.{combination}
use Rattle.xor.proofs.Combination.{length-combination}
use Rattle.format.specs.Formats.{Format, guard}
use Rattle.format.proofs.Sizes.{times-next}
use Rattle.layout.specs.Answers.{refuse, after}
use Rattle.layout.specs.Arrays.{stripe_refusal}
use Rattle.layout.specs.Places.{owner_refusal}
use Rattle.layout.specs.declared.Array.{Array}
use Rattle.layout.proofs.Answers.{after_refused, answer_refused, refuse-none}
use Rattle.layout.proofs.Ranges.{stripe_sound, sound_place}
use Rattle.tag.specs.Blocks.{format_at, data_of, tag_of}
use Rattle.tag.specs.Tags.{found, expected, standing, found_in, expected_at, standing_at, good, bad, unchecked}
use Rattle.tag.proofs.Cases.{stands-few}
use Rattle.verdict.specs.Verdicts.{count, nonzero, says_clean, says_bad, says_torn, says_unchecked, judged, combined_guards}
use Rattle.verdict.specs.Flags.{FirstNonzero}
use Rattle.verdict.proofs.Behind.{first-behind}
use Rattle.verdict.proofs.Verdicts.{get_d_map, judged_refused, none-amiss}
use Rattle.stripe.specs.Tables.{table}
use Rattle.stripe.specs.Stripes.{stripe_length, block_of, member_data, others_data, stored_guard, stored_guards, left_of, Parity, Settled}
use Rattle.stripe.specs.Formats.{summary_of}
use Rattle.stripe.specs.Verdicts.{standing_members, torn_places, scrub_blocks, scrub_refusal, scrub_numbers, FirstMember}
use Rattle.stripe.specs.Steps.{standings}
use Rattle.stripe.proofs.Tables.{length-table, get_or-table, table_ext, table_filled, map-table, others-past}
use Rattle.stripe.proofs.Verdicts.{judgement, all-good, clean_exactly, bad_exactly, unchecked_exactly, torn_exactly}

-- ---- of whole blocks

-- the guards in the tags are the stored ones
stored_in_tags : (F : Format) (blocks : List (List ℕ)) → map (λ tag. (found F tag).guard) (map (tag_of F) blocks) ≡ map (stored_guard F) blocks
stored_in_tags F [] = refl
stored_in_tags F (b ∷ blocks) = ap (λ (l : List ℕ). stored_guard F b ∷ l) (stored_in_tags F blocks)

module _ (a : Array) (s : ℕ) (blocks : List (List ℕ)) (All-there : length blocks ≡ a.members) where
  -- how a member's block stands, and what all data combine to
  abbrev stands_at : ℕ → ℕ
  stands_at m = standing_at a s m (get_or blocks m [])

  abbrev together : List ℕ
  together = combination (format_at a).data_length (map (data_of (format_at a)) blocks)

  -- and what is left of their guards
  abbrev left : ℕ
  left = left_of (format_at a) (map (stored_guard (format_at a)) blocks)

  pub standing-members : standing_members a s (summary_of (format_at a) blocks) ≡ table a.members stands_at
  unfolding standing_members standing_at
  standing-members = table_ext a.members _ stands_at same
    where
      same : (m : ℕ) → m < a.members
          → standing (format_at a) (found (format_at a) (get_or (map (tag_of (format_at a)) blocks) m []))
          (expected a s m (found (format_at a) (get_or (map (tag_of (format_at a)) blocks) m [])) (get_or (map (λ b. guard (format_at a) (data_of (format_at a) b)) blocks) m 0))
          ≡ standing (format_at a) (found_in a (get_or blocks m [])) (expected_at a s m (get_or blocks m []))
      same m h =
          let inside : m < length blocks = omega arith in
          ap₂ (λ (t : List ℕ) (g : ℕ). standing (format_at a) (found (format_at a) t) (expected a s m (found (format_at a) t) g))
          (get_d_map (tag_of (format_at a)) blocks m [] [] inside)
          (get_d_map (λ b. guard (format_at a) (data_of (format_at a) b)) blocks m 0 [] inside)

  pub scrub_judgement : scrub_blocks a s blocks ≡ judgement stands_at a.members (together ++ (left ∷ []))
  unfolding torn_places
  scrub_judgement =
      ap₂ (λ (members : List ℕ) (guards : List ℕ). judged members (nonzero (together ++ (left_of (format_at a) guards ∷ [])))) standing-members (stored_in_tags (format_at a) blocks)

  said : (numbers : List ℕ) → (scrub_blocks a s blocks ≡ numbers) ↔ (judgement stands_at a.members (together ++ (left ∷ [])) ≡ numbers)
  said numbers = (λ e. sym scrub_judgement ∙ e, λ e. scrub_judgement ∙ e)

  pub blocks-clean : (scrub_blocks a s blocks ≡ says_clean)
      ↔ (((m : ℕ) → m < a.members → good a s m (get_or blocks m []) ≡ true) × (together ≡ replicate (format_at a).data_length 0) × (left ≡ 0))
  blocks-clean =
      Iff.trans (said says_clean)
      (clean_exactly stands_at a.members together left (λ m. stands-few a s m (get_or blocks m [])) (format_at a).data_length (length-combination (format_at a).data_length (map (data_of (format_at a)) blocks)))

  pub blocks-bad : (member bads faults : ℕ) → (scrub_blocks a s blocks ≡ says_bad member bads faults)
      ↔ (FirstMember (λ m. bad a s m (get_or blocks m [])) a.members member × (bads ≡ count (table a.members (λ m. bad a s m (get_or blocks m []))))
      × (faults ≡ standing_at a s member (get_or blocks member [])))
  blocks-bad member bads faults = Iff.trans (said (says_bad member bads faults)) (bad_exactly stands_at a.members (together ++ (left ∷ [])) member bads faults)

  pub blocks-unchecked : (member many : ℕ) → (scrub_blocks a s blocks ≡ says_unchecked member many)
      ↔ (((m : ℕ) → m < a.members → bad a s m (get_or blocks m []) ≡ false) × FirstMember (λ m. unchecked a s m (get_or blocks m [])) a.members member
      × (many ≡ count (table a.members (λ m. unchecked a s m (get_or blocks m [])))))
  blocks-unchecked member many = Iff.trans (said (says_unchecked member many)) (unchecked_exactly stands_at a.members (together ++ (left ∷ [])) member many)

  pub blocks-torn : (place : ℕ) → (scrub_blocks a s blocks ≡ says_torn place)
      ↔ (((m : ℕ) → m < a.members → good a s m (get_or blocks m []) ≡ true) × FirstNonzero (together ++ (left ∷ [])) place)
  blocks-torn place =
      Iff.trans (said (says_torn place)) (torn_exactly stands_at a.members (together ++ (left ∷ [])) (λ m. stands-few a s m (get_or blocks m [])) place)

  -- a verdict that is neither bad nor unchecked: every member is good
  pub blocks-good : get_or (scrub_blocks a s blocks) 0 0 ≢ 1 → get_or (scrub_blocks a s blocks) 0 0 ≢ 3 → (m : ℕ) → m < a.members → good a s m (get_or blocks m []) ≡ true
  blocks-good h k =
      (all-good stands_at a.members (λ m. stands-few a s m (get_or blocks m []))).0
      (none-amiss (table a.members stands_at) (nonzero (together ++ (left ∷ [])))
      (λ e. h (ap (λ (l : List ℕ). get_or l 0 0) scrub_judgement ∙ e)) (λ e. k (ap (λ (l : List ℕ). get_or l 0 0) scrub_judgement ∙ e)))

-- ---- refused

module _ (a : Array) (s : ℕ) where
  pub scrub_sound : (n : ℕ) → scrub_refusal a s n ≡ 0 → (stripe_refusal a s ≡ 0) × (n ≡ stripe_length a)
  unfolding scrub_refusal
  scrub_sound n = by_earlier (stripe_refusal a s)
    where
      by_earlier : (k : ℕ) → after k (refuse (not (eqb n (stripe_length a))) 6 0) ≡ 0 → (k ≡ 0) × (n ≡ stripe_length a)
      by_earlier zero e = (refl, eqb-true n (stripe_length a) (refuse-none (eqb n (stripe_length a)) 5 0 e).0)
      by_earlier (suc k) e = absurd (omega arith)

  pub sound_scrub : (n : ℕ) → stripe_refusal a s ≡ 0 → n ≡ stripe_length a → scrub_refusal a s n ≡ 0
  unfolding scrub_refusal
  sound_scrub n e l = rw (e, eq-eqb n (stripe_length a) l)

  -- each member then has a place, and a block within the bytes
  pub member_place : (n m : ℕ) → scrub_refusal a s n ≡ 0 → m < a.members → owner_refusal a s m ≡ 0
  member_place n m e h = sound_place a s m (record { stripe = stripe_sound a s (scrub_sound n e).0; here = h })

  pub member_room : (n m : ℕ) → scrub_refusal a s n ≡ 0 → m < a.members → (format_at a).block_length * m + (format_at a).block_length ≤ n
  member_room n m e h = omega (arith, (scrub_sound n e).1, times-next (format_at a).block_length m a.members h)

  pub stripe_refused_first : (n : ℕ) → stripe_refusal a s ≢ 0 → scrub_refusal a s n ≡ stripe_refusal a s
  unfolding scrub_refusal
  stripe_refused_first n e = after_refused (stripe_refusal a s) (refuse (not (eqb n (stripe_length a))) 6 0) e

  pub length_refused : (n : ℕ) → stripe_refusal a s ≡ 0 → n ≢ stripe_length a → scrub_refusal a s n ≡ 6
  unfolding scrub_refusal
  length_refused n e l = rw (e, ne_eqb n (stripe_length a) l)

  pub scrub_refused : (bytes : List ℕ) → scrub_refusal a s (length bytes) ≢ 0
      → scrub_numbers a s bytes ≡ 0 ∷ scrub_refusal a s (length bytes) ∷ says_clean
  unfolding scrub_numbers
  scrub_refused bytes h =
      let stored = summary_of (format_at a) (table a.members (block_of (format_at a) bytes)) in
      answer_refused (scrub_refusal a s (length bytes)) (scrub_blocks a s (table a.members (block_of (format_at a) bytes))) h
      ∙ ap (λ (l : List ℕ). 0 ∷ scrub_refusal a s (length bytes) ∷ l) (judged_refused (standing_members a s stored) (torn_places (format_at a) stored))

-- ---- of a stripe in memory

module _ (a : Array) (s : ℕ) (bytes : List ℕ) where
  abbrev stored_as : ℕ → ℕ
  stored_as m = standing_at a s m (block_of (format_at a) bytes m)

  abbrev stored_together : List ℕ
  stored_together = combination (format_at a).data_length (member_data (format_at a) a.members bytes)

  abbrev stored_left : ℕ
  stored_left = left_of (format_at a) (stored_guards (format_at a) a.members bytes)

  -- the loop over the members, from the first on
  pub standings-next : (l : List ℕ) (m how : ℕ) → m < length l → take m l ≡ table m stored_as → how ≡ stored_as m → take (m + 1) (set l m how) ≡ table (m + 1) stored_as
  standings-next l m how h e k = table_filled l stored_as m how h e k

  pub standings-all : (l : List ℕ) (m : ℕ) → m ≡ a.members → take m l ≡ table m stored_as → take a.members l ≡ standings a s bytes
  unfolding standings
  standings-all l m h e = ap (λ (n : ℕ). take n l) (sym h) ∙ e ∙ ap (λ (n : ℕ). table n stored_as) h

module _ (a : Array) (s : ℕ) (bytes : List ℕ) (sound : scrub_refusal a s (length bytes) ≡ 0) where
  -- what the data combine to, and behind it what is left of the guards
  abbrev pub stored_places : List ℕ
  stored_places = stored_together a s bytes ++ (stored_left a s bytes ∷ [])

  pub scrub_answered : scrub_numbers a s bytes ≡ 1 ∷ 0 ∷ judgement (stored_as a s bytes) a.members stored_places
  unfolding scrub_numbers
  scrub_answered =
      let F = format_at a in
      let n = a.members in
      let blocks = table n (block_of F bytes) in
      let same : table n (λ m. standing_at a s m (get_or blocks m [])) ≡ table n (stored_as a s bytes) =
      table_ext n (λ m. standing_at a s m (get_or blocks m [])) (stored_as a s bytes)
      (λ m h. ap (standing_at a s m) (get_or-table n (block_of F bytes) [] m h)) in
      rw sound
      (ap (λ (l : List ℕ). 1 ∷ 0 ∷ l)
      (scrub_judgement a s blocks (length-table n (block_of F bytes))
      ∙ ap₂ (λ (members : List ℕ) (l : List (List ℕ)). judged members (nonzero (combination F.data_length l ++ (left_of F (map (stored_guard F) blocks) ∷ [])))) same (map-table (data_of F) n (block_of F bytes))
      ∙ ap (λ (guards : List ℕ). judged (table n (stored_as a s bytes)) (nonzero (stored_together a s bytes ++ (left_of F guards ∷ [])))) (map-table (stored_guard F) n (block_of F bytes))))

  -- the same from what the loops find
  pub scrub_found : (members together : List ℕ) (left : ℕ) → members ≡ standings a s bytes
      → together ≡ others_data (format_at a) a.members a.members bytes → left ≡ stored_left a s bytes
      → scrub_numbers a s bytes ≡ 1 ∷ 0 ∷ judged members (nonzero (together ++ (left ∷ [])))
  unfolding standings others_data
  scrub_found members together left l d g =
      let n = a.members in
      let all : together ≡ stored_together a s bytes =
      d ∙ ap (combination (format_at a).data_length) (others-past n (member_data (format_at a) n bytes) (omega (arith, length-table n (λ m. data_of (format_at a) (block_of (format_at a) bytes m))))) in
      scrub_answered
      ∙ sym (ap₂ (λ (x y : List ℕ). 1 ∷ 0 ∷ judged x (nonzero (y ++ (left ∷ [])))) l all
      ∙ ap (λ (x : ℕ). 1 ∷ 0 ∷ judged (table n (stored_as a s bytes)) (nonzero (stored_together a s bytes ++ (x ∷ [])))) g)

  answered : (numbers : List ℕ) → (scrub_numbers a s bytes ≡ 1 ∷ 0 ∷ numbers) ↔ (judgement (stored_as a s bytes) a.members stored_places ≡ numbers)
  answered numbers =
      let numbers-found = judgement (stored_as a s bytes) a.members stored_places in
      (λ e. rest numbers-found numbers (sym scrub_answered ∙ e), λ e. scrub_answered ∙ ap (λ (l : List ℕ). 1 ∷ 0 ∷ l) e)
    where
      rest : (l k : List ℕ) → 1 ∷ 0 ∷ l ≡ 1 ∷ 0 ∷ k → l ≡ k
      rest l k e = cc

  few : (m : ℕ) → stored_as a s bytes m ≤ 8
  few m = stands-few a s m (block_of (format_at a) bytes m)

  -- clean exactly where every member is good, parity is right, and so are the guards that it carries
  pub scrub_clean : (scrub_numbers a s bytes ≡ 1 ∷ 0 ∷ says_clean)
      ↔ (((m : ℕ) → m < a.members → good a s m (block_of (format_at a) bytes m) ≡ true) × Parity (format_at a) a.members bytes × Settled (format_at a) a.members bytes)
  scrub_clean =
      Iff.trans (answered says_clean)
      (clean_exactly (stored_as a s bytes) a.members (stored_together a s bytes) (stored_left a s bytes) few (format_at a).data_length (length-combination (format_at a).data_length (member_data (format_at a) a.members bytes)))

  pub scrub_bad : (member bads faults : ℕ) → (scrub_numbers a s bytes ≡ 1 ∷ 0 ∷ says_bad member bads faults)
      ↔ (FirstMember (λ m. bad a s m (block_of (format_at a) bytes m)) a.members member × (bads ≡ count (table a.members (λ m. bad a s m (block_of (format_at a) bytes m))))
      × (faults ≡ standing_at a s member (block_of (format_at a) bytes member)))
  scrub_bad member bads faults = Iff.trans (answered (says_bad member bads faults)) (bad_exactly (stored_as a s bytes) a.members stored_places member bads faults)

  pub scrub_unchecked : (member many : ℕ) → (scrub_numbers a s bytes ≡ 1 ∷ 0 ∷ says_unchecked member many)
      ↔ (((m : ℕ) → m < a.members → bad a s m (block_of (format_at a) bytes m) ≡ false) × FirstMember (λ m. unchecked a s m (block_of (format_at a) bytes m)) a.members member
      × (many ≡ count (table a.members (λ m. unchecked a s m (block_of (format_at a) bytes m)))))
  scrub_unchecked member many = Iff.trans (answered (says_unchecked member many)) (unchecked_exactly (stored_as a s bytes) a.members stored_places member many)

  pub scrub_torn : (place : ℕ) → (scrub_numbers a s bytes ≡ 1 ∷ 0 ∷ says_torn place)
      ↔ (((m : ℕ) → m < a.members → good a s m (block_of (format_at a) bytes m) ≡ true) × FirstNonzero stored_places place)
  scrub_torn place =
      Iff.trans (answered (says_torn place)) (torn_exactly (stored_as a s bytes) a.members stored_places few place)

  -- torn behind the data, at the place that is their length, exactly where it would be clean but for guards that are carried
  pub scrub_torn-behind : (scrub_numbers a s bytes ≡ 1 ∷ 0 ∷ says_torn (format_at a).data_length)
      ↔ (((m : ℕ) → m < a.members → good a s m (block_of (format_at a) bytes m) ≡ true) × Parity (format_at a) a.members bytes
      × ((format_at a).carries ≡ true) × (combined_guards (stored_guards (format_at a) a.members bytes) ≢ 0))
  scrub_torn-behind =
      let said = scrub_torn (format_at a).data_length in
      let last = first-behind (stored_together a s bytes) (stored_left a s bytes) (format_at a).data_length (length-combination (format_at a).data_length (member_data (format_at a) a.members bytes)) in (
        λ e. let h = said.0 e in let k = last.0 h.1 in let g = by_carry (format_at a).carries refl k.1 in (h.0, k.0, g.0, g.1),
        λ h. said.1 (h.0, last.1 (h.1, λ e. h.3 (sym (ap (λ (c : Bool). cond c (combined_guards (stored_guards (format_at a) a.members bytes)) 0) h.2) ∙ e))),
      )
    where
      by_carry : (c : Bool) → (format_at a).carries ≡ c → stored_left a s bytes ≢ 0 → ((format_at a).carries ≡ true) × (combined_guards (stored_guards (format_at a) a.members bytes) ≢ 0)
      by_carry true e h = (e, λ z. h (ap (λ (c : Bool). cond c (combined_guards (stored_guards (format_at a) a.members bytes)) 0) e ∙ z))
      by_carry false e h = absurd (h (ap (λ (c : Bool). cond c (combined_guards (stored_guards (format_at a) a.members bytes)) 0) e))
