-- The quick scrub beside the scan: where the history is whole after some calls, and its verdict finds no bad member, the quick scrub of
-- the stored guards fits if the data combine to zero, and differs if their combination has all its one bits within sixteen successive ones.
-- So, where the answers to a list of calls are the history's, all of CutAnywhere holds of them.
-- Assumes nothing.
use mathlib.Core.Path.{◌≡◌, refl, sym, ap, ◌∙◌}
use mathlib.Core.Logic.{◌≢◌}
use mathlib.Core.Bool.{Bool, true, false, cond}
use mathlib.Core.List.{List, [], ◌∷◌, ◌++◌, map, foldl}
use Prim.Native.Nat.{ℕ, zero, suc, ◌<◌}
use native.Mathlib.Nat.{le_antisymm}
use native.Mathlib.Decide.{ℕ_discrete, dec_lt}
use native.Mathlib.Omega.{arith}
use lib.Bits.{bit_xor}
use lib.Dec.{leb, eqb, lit<}
use lib.ListN.{length, get_or, set, replicate}
use lib.Seq.{get_or-set_same, get_or-set_other, set_out}
use Rattle.crc.specs.Crc.{Bytes, Within}
use Rattle.format.specs.Formats.{guard, blank, spare, most_tags}
use Rattle.layout.specs.Answers.{answer}
use Rattle.layout.specs.Ranges.{Sound}
use Rattle.layout.specs.declared.Array.{Array}
use Rattle.layout.proofs.Answers.{refuse-none}
use Rattle.tag.specs.Blocks.{format_at}
use Rattle.tag.proofs.Numbers.{bytes-joined}
use Rattle.stripe.specs.Tables.{all}
use Rattle.stripe.specs.Verdicts.{verdict, scrub_blocks, quick_of}
use Rattle.stripe.specs.Stripes.{stored_guard, Whole}
use Rattle.stripe.proofs.Quick.{fits_where_zero, differs_within}
use Rattle.scan.specs.History.{Call, piece, finish, begun, piece_number, finish_number, answer_to, kept, answers}
use Rattle.scan.specs.CutAnywhere.{history_of, ByteCalls, together, FoundAllGood, CutAnywhere}
use Rattle.scan.proofs.Finishes.{all_whole}
use Rattle.scan.proofs.Simulation.{held-follows_history}

module _ (a : Array) (stripe : ℕ) where
  grown-bytes : (history : List (List ℕ)) (member : ℕ) (bytes : List ℕ) → ((i : ℕ) → Bytes (get_or history i [])) → Bytes bytes
      → (i : ℕ) → Bytes (get_or (set history member (get_or history member [] ++ bytes)) i [])
  grown-bytes history member bytes h hb i = go (ℕ_discrete i member) (dec_lt member (length history))
    where
      go : Dec (i ≡ member) → Dec (member < length history) → Bytes (get_or (set history member (get_or history member [] ++ bytes)) i [])
      go (yes e) (yes l) = rw (e, get_or-set_same history member (get_or history member [] ++ bytes) [] l) (bytes-joined (get_or history member []) bytes (h member) hb)
      go (yes e) (no l) = rw (set_out history member (get_or history member [] ++ bytes) (omega arith)) (h i)
      go (no e) l = rw (get_or-set_other history member i (get_or history member [] ++ bytes) [] e) (h i)

  kept-bytes : (flag : Bool) (history : List (List ℕ)) (member : ℕ) (bytes : List ℕ) → ((i : ℕ) → Bytes (get_or history i [])) → Bytes bytes
      → (i : ℕ) → Bytes (get_or (cond flag (set history member (get_or history member [] ++ bytes)) history) i [])
  kept-bytes true history member bytes h hb = grown-bytes history member bytes h hb
  kept-bytes false history member bytes h hb = h

  history_bytes : (calls : List Call) (history : List (List ℕ)) → ByteCalls calls → ((i : ℕ) → Bytes (get_or history i []))
      → (i : ℕ) → Bytes (get_or (foldl (kept (format_at a).block_length a.members (scrub_blocks a stripe)) history calls) i [])
  unfolding kept
  history_bytes [] history c h = h
  history_bytes (piece member bytes ∷ calls) history c h =
      history_bytes calls (kept (format_at a).block_length a.members (scrub_blocks a stripe) history (piece member bytes)) c.1
      (kept-bytes (eqb (piece_number (format_at a).block_length a.members (scrub_blocks a stripe) history member bytes) 0) history member bytes h c.0)
  history_bytes (finish ∷ calls) history c h = history_bytes calls history c h

  none-taken : (n i : ℕ) → get_or (begun n) i [] ≡ []
  none-taken zero i = refl
  none-taken (suc n) zero = refl
  none-taken (suc n) (suc i) = none-taken n i

  -- a finish that the history accepts: its blocks are whole
  pub whole_history : Sound a → (calls : List Call) → ByteCalls calls
      → finish_number (format_at a).block_length a.members (scrub_blocks a stripe) (history_of a stripe calls) ≡ 0 → Whole a (history_of a stripe calls)
  whole_history sound calls bytes e =
      let history = history_of a stripe calls in
      let follows = held-follows_history (format_at a) a.members (verdict a stripe) 16 most_tags sound.many (let F = format_at a in omega arith) calls in
      let every = (refuse-none (all (map (λ taken. leb (format_at a).block_length (length taken)) history)) 7 0 e).0 in
      record {
        all_there = follows.members;
        long = λ i h. le_antisymm (follows.fits i) (all_whole (format_at a).block_length history every i h);
        bytes = history_bytes calls (begun a.members) bytes (λ i. rw (none-taken a.members i) (λ k. lit< tt));
      }

  module _ (plain : (format_at a).carries ≡ false) (sound : Sound a) (calls : List Call) (bytes : ByteCalls calls)
      (accepted : finish_number (format_at a).block_length a.members (scrub_blocks a stripe) (history_of a stripe calls) ≡ 0)
      (none-bad : get_or (scrub_blocks a stripe (history_of a stripe calls)) 0 0 ≢ 1)
      (all-checked : get_or (scrub_blocks a stripe (history_of a stripe calls)) 0 0 ≢ 3) where
    pub quick_fits-beside : together a (history_of a stripe calls) ≡ replicate (format_at a).data_length 0
        → quick_of a (map (stored_guard (format_at a)) (history_of a stripe calls)) ≡ 1 ∷ 0 ∷ 0 ∷ 0 ∷ []
    quick_fits-beside = fits_where_zero a stripe (history_of a stripe calls) sound (whole_history sound calls bytes accepted) plain none-bad all-checked

    pub quick_differs_beside : together a (history_of a stripe calls) ≢ replicate (format_at a).data_length 0
        → Within (format_at a).reach ((format_at a).bits (together a (history_of a stripe calls))) ((format_at a).bits (replicate (format_at a).data_length 0))
        → (guard (format_at a) (together a (history_of a stripe calls)) ≢ blank (format_at a))
        × (quick_of a (map (stored_guard (format_at a)) (history_of a stripe calls))
        ≡ 1 ∷ 0 ∷ 1 ∷ bit_xor (guard (format_at a) (together a (history_of a stripe calls))) (spare (format_at a) (suc a.members)) ∷ [])
    quick_differs_beside = differs_within a stripe (history_of a stripe calls) sound (whole_history sound calls bytes accepted) plain none-bad all-checked

  -- ---- at a finish among the calls, from the answers that they got

  answer_at : (history : List (List ℕ)) (before later : List Call)
      → get_or (answers (format_at a).block_length a.members (scrub_blocks a stripe) history (before ++ (finish ∷ later))) (length before) []
      ≡ answer_to (format_at a).block_length a.members (scrub_blocks a stripe) (foldl (kept (format_at a).block_length a.members (scrub_blocks a stripe)) history before) finish
  answer_at history [] later = refl
  answer_at history (c ∷ before) later = answer_at (kept (format_at a).block_length a.members (scrub_blocks a stripe) history c) before later

  bytes-before : (before later : List Call) → ByteCalls (before ++ later) → ByteCalls before
  bytes-before [] later c = tt
  bytes-before (piece member bytes ∷ before) later c = (c.0, bytes-before before later c.1)
  bytes-before (finish ∷ before) later c = bytes-before before later c

  done_by : (number : ℕ) (v : List ℕ) (kind place count faults : ℕ) → answer number v ≡ 1 ∷ 0 ∷ kind ∷ place ∷ count ∷ faults ∷ []
      → (number ≡ 0) × (get_or v 0 0 ≡ kind)
  done_by zero (k ∷ v) kind place count faults e = (refl, (cc))
  done_by zero [] kind place count faults e = absurd (omega (arith, ap length e))
  done_by (suc number) v kind place count faults e = absurd (omega (arith, ap (λ (l : List ℕ). get_or l 0 0) e))

  module _ (sound : Sound a) (calls : List Call) (xs : List (List ℕ))
      (right : xs ≡ answers (format_at a).block_length a.members (scrub_blocks a stripe) (begun a.members) calls) where
    done_with : (before : List Call) (f : FoundAllGood calls before xs)
        → (finish_number (format_at a).block_length a.members (scrub_blocks a stripe) (history_of a stripe before) ≡ 0)
        × (get_or (scrub_blocks a stripe (history_of a stripe before)) 0 0 ≡ f.kind)
    unfolding answer_to
    done_with before f =
        done_by (finish_number (format_at a).block_length a.members (scrub_blocks a stripe) (history_of a stripe before)) (scrub_blocks a stripe (history_of a stripe before))
        f.kind f.place f.count f.faults
        (sym (answer_at (begun a.members) before f.later)
        ∙ sym (ap (λ (l : List (List ℕ)). get_or l (length before) [])
        (right ∙ ap (answers (format_at a).block_length a.members (scrub_blocks a stripe) (begun a.members)) f.there)) ∙ f.answer_is)

    pub answers-cut_anywhere : CutAnywhere a stripe calls xs
    answers-cut_anywhere =
        record {
          answered = right;
          quick_fits = λ plain bytes before f.
              let d = done_with before f in
              quick_fits-beside plain sound before (bytes-before before (finish ∷ f.later) (rw f.there at bytes)) d.0 (λ e. f.not-bad (sym d.1 ∙ e)) (λ e. f.not-unchecked (sym d.1 ∙ e));
          quick_differs = λ plain bytes before f.
              let d = done_with before f in
              quick_differs_beside plain sound before (bytes-before before (finish ∷ f.later) (rw f.there at bytes)) d.0 (λ e. f.not-bad (sym d.1 ∙ e)) (λ e. f.not-unchecked (sym d.1 ∙ e));
        }
