-- Every list of calls, over any format: the machine answers as the history does, and what it holds after them follows from the
-- history after them. Of the format no more is used than its record promises.
-- Assumes nothing.
use mathlib.Core.Path.{◌≡◌, refl, ap₂}
use mathlib.Core.List.{List, [], ◌∷◌, foldl}
use Prim.Native.Nat.{ℕ, ◌≤◌, ◌*◌}
use lib.ListN.{length}
use Rattle.format.specs.Formats.{Format}
use Rattle.stripe.specs.Formats.{Summary}
use Rattle.scan.specs.History.{Call, begun, kept, answers}
use Rattle.scan.specs.Holding.{Held, Follows}
use Rattle.scan.specs.Machines.{fresh, scrub_of, held_after, held_answers}
use Rattle.scan.proofs.Follows.{fresh-follows}
use Rattle.scan.proofs.Machine.{call_answered, call_follows}

module _ (F : Format) (n : ℕ) (judge : Summary → List ℕ) where
  calls_follow : (calls : List Call) {h : Held F} {history : List (List ℕ)} → Follows F n h history
      → Follows F n (foldl (held_after F n judge) h calls) (foldl (kept F.block_length n (scrub_of F judge)) history calls)
  calls_follow [] t = t
  calls_follow (c ∷ calls) {h} {history} t = calls_follow calls (call_follows F n judge h history t c)

  calls_answered : ((x y : Summary) → length (judge x) ≡ length (judge y)) → (calls : List Call) {h : Held F} {history : List (List ℕ)}
      → Follows F n h history → held_answers F n judge h calls ≡ answers F.block_length n (scrub_of F judge) history calls
  calls_answered even [] t = refl
  calls_answered even (c ∷ calls) {h} {history} t =
      ap₂ (λ (x : List ℕ) (xs : List (List ℕ)). x ∷ xs) (call_answered F n judge h history t even c) (calls_answered even calls (call_follows F n judge h history t c))

  -- from nothing taken, with room for at least n members
  pub held-follows_history : (size room : ℕ) → n ≤ size → F.tag_length * size ≤ room → (calls : List Call)
      → Follows F n (foldl (held_after F n judge) (fresh F size room) calls) (foldl (kept F.block_length n (scrub_of F judge)) (begun n) calls)
  held-follows_history size room h enough calls = calls_follow calls (fresh-follows F size room n h enough)

  -- where every verdict is equally many numbers
  pub machine_answers_as_history : ((x y : Summary) → length (judge x) ≡ length (judge y)) → (size room : ℕ) → n ≤ size → F.tag_length * size ≤ room → (calls : List Call)
      → held_answers F n judge (fresh F size room) calls ≡ answers F.block_length n (scrub_of F judge) (begun n) calls
  machine_answers_as_history even size room h enough calls = calls_answered even calls (fresh-follows F size room n h enough)
