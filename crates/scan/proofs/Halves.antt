-- The theorem in the customer's words: a stripe of whole blocks is fed in one piece a member, or in two, cut anywhere. Every piece is
-- accepted, and the finish gives the full scrub's verdict on the blocks, the same for every cut.
-- Assumes nothing.
use mathlib.Core.Path.{◌≡◌, refl, sym, ap, ap₂, ◌∙◌}
use mathlib.Core.List.{List, [], ◌∷◌, ◌++◌, append_assoc}
use Prim.Native.Nat.{ℕ, zero, suc, ◌+◌, ◌≤◌, ◌<◌, zero-le}
use native.Mathlib.Decide.{dec_lt}
use native.Mathlib.Omega.{arith}
use lib.ListN.{length, get_or, replicate, length-replicate, length-take, length-drop, take-append-drop, replicate-append-replicate, get_or-eq_default}
use Rattle.layout.specs.Answers.{answer}
use Rattle.layout.specs.declared.Array.{Array}
use Rattle.tag.specs.Blocks.{format_at}
use Rattle.stripe.specs.Verdicts.{scrub_blocks}
use Rattle.scan.specs.declared.Scan.{Scan}
use Rattle.scan.specs.History.{Call, finish, begun, answers}
use Rattle.scan.specs.Scans.{start_refusal, start_state, start_work}
use Rattle.scan.specs.Runs.{ScanRun}
use Rattle.scan.specs.Feeds.{fed, firsts, seconds, wholes, halves}
use Rattle.scan.proofs.Feeding.{grown, fed-answers, finish-answers}
use Rattle.scan.proofs.Theorem.{run-answers_as_history}

length-firsts : (cut : ℕ → ℕ) (blocks : List (List ℕ)) → length (firsts cut blocks) ≡ length blocks
length-firsts cut [] = refl
length-firsts cut (b ∷ blocks) = ap suc (length-firsts (λ i. cut (suc i)) blocks)

length-seconds : (cut : ℕ → ℕ) (blocks : List (List ℕ)) → length (seconds cut blocks) ≡ length blocks
length-seconds cut [] = refl
length-seconds cut (b ∷ blocks) = ap suc (length-seconds (λ i. cut (suc i)) blocks)

-- the parts together are the blocks
grown-halves : (cut : ℕ → ℕ) (blocks : List (List ℕ)) → grown (firsts cut blocks) (seconds cut blocks) ≡ blocks
grown-halves cut [] = refl
grown-halves cut (b ∷ blocks) = ap₂ (λ (x : List ℕ) (l : List (List ℕ)). x ∷ l) (take-append-drop (cut 0) b) (grown-halves (λ i. cut (suc i)) blocks)

length-halves : (cut : ℕ → ℕ) (blocks : List (List ℕ)) (i : ℕ) → length (get_or (firsts cut blocks) i []) + length (get_or (seconds cut blocks) i []) ≡ length (get_or blocks i [])
length-halves cut [] i = refl
length-halves cut (b ∷ blocks) zero = rw (length-take, length-drop) (omega arith)
length-halves cut (b ∷ blocks) (suc i) = length-halves (λ i. cut (suc i)) blocks i

grown-none : (lists : List (List ℕ)) → grown (replicate (length lists) []) lists ≡ lists
grown-none [] = refl
grown-none (b ∷ lists) = ap (λ (l : List (List ℕ)). b ∷ l) (grown-none lists)

length_none : (n i : ℕ) → length (get_or (begun n) i []) ≡ 0
length_none zero i = refl
length_none (suc n) zero = refl
length_none (suc n) (suc i) = length_none n i

-- ---- by the history

module _ (block n : ℕ) (scrub : List (List ℕ) → List ℕ) where
  -- the first piece of each member, of which nothing has been taken
  begun-answers : (pieces : List (List ℕ)) (more : List Call) → length pieces ≡ n → ((i : ℕ) → length (get_or pieces i []) ≤ block)
      → answers block n scrub (begun n) (fed 0 pieces ++ more) ≡ replicate n (0 ∷ []) ++ answers block n scrub pieces more
  begun-answers pieces more e room =
      rw (← e) (fed-answers block (length pieces) scrub [] (begun (length pieces)) pieces more 0 refl (omega arith) (sym (length-replicate (length pieces) []))
      (λ i. omega (arith, length_none (length pieces) i, room i))
      ∙ ap (λ (l : List (List ℕ)). replicate (length pieces) (0 ∷ []) ++ answers block (length pieces) scrub l more) (grown-none pieces))

  module _ (blocks : List (List ℕ)) (many : length blocks ≡ n) (full : (i : ℕ) → i < n → length (get_or blocks i []) ≡ block) where
    most : (i : ℕ) → length (get_or blocks i []) ≤ block
    most i = go (dec_lt i n)
      where
        go : Dec (i < n) → length (get_or blocks i []) ≤ block
        go (yes h) = omega (arith, full i h)
        go (no h) = rw (get_or-eq_default blocks [] {n = i} (omega arith)) zero-le

    verdict-answered : answers block n scrub blocks (finish ∷ []) ≡ answer 0 (scrub blocks) ∷ []
    verdict-answered = finish-answers block n scrub blocks (rw many full)

    pub wholes-answered : answers block n scrub (begun n) (wholes blocks) ≡ replicate n (0 ∷ []) ++ (answer 0 (scrub blocks) ∷ [])
    wholes-answered = begun-answers blocks (finish ∷ []) many most ∙ ap (λ (xs : List (List ℕ)). replicate n (0 ∷ []) ++ xs) verdict-answered

    pub halves-answered : (cut : ℕ → ℕ) → answers block n scrub (begun n) (halves cut blocks) ≡ replicate (n + n) (0 ∷ []) ++ (answer 0 (scrub blocks) ∷ [])
    halves-answered cut =
        let a = length-firsts cut blocks in
        let b = length-seconds cut blocks in
        begun-answers (firsts cut blocks) (fed 0 (seconds cut blocks) ++ (finish ∷ [])) (a ∙ many) (λ i. omega (arith, length-halves cut blocks i, most i))
        ∙ ap (λ (xs : List (List ℕ)). replicate n (0 ∷ []) ++ xs)
        (fed-answers block n scrub [] (firsts cut blocks) (seconds cut blocks) (finish ∷ []) 0 refl (omega arith) (omega arith)
        (λ i. omega (arith, length-halves cut blocks i, most i))
        ∙ ap₂ (λ (k : ℕ) (l : List (List ℕ)). replicate k (0 ∷ []) ++ answers block n scrub l (finish ∷ [])) (b ∙ many) (grown-halves cut blocks)
        ∙ ap (λ (xs : List (List ℕ)). replicate n (0 ∷ []) ++ xs) verdict-answered)
        ∙ sym (append_assoc (replicate n (0 ∷ [])) (replicate n (0 ∷ [])) (answer 0 (scrub blocks) ∷ []))
        ∙ ap (λ (xs : List (List ℕ)). xs ++ (answer 0 (scrub blocks) ∷ [])) (replicate-append-replicate n n (0 ∷ []))

-- ---- of every run from an accepted start

module _ (a : Array) (stripe : ℕ) (old : List ℕ) (accepted : start_refusal a stripe (length old) ≡ 0)
    {s last : Scan} {w left : List ℕ} (started : s ≡ start_state a stripe (length old)) (cleared : w ≡ start_work a stripe old)
    (blocks : List (List ℕ)) (many : length blocks ≡ a.members) (full : (i : ℕ) → i < a.members → length (get_or blocks i []) ≡ (format_at a).block_length)
    {xs : List (List ℕ)} where
  pub one-piece_each : ScanRun s w (wholes blocks) xs last left → xs ≡ replicate a.members (0 ∷ []) ++ (answer 0 (scrub_blocks a stripe blocks) ∷ [])
  one-piece_each run =
      run-answers_as_history a stripe old accepted started cleared run ∙ wholes-answered (format_at a).block_length a.members (scrub_blocks a stripe) blocks many full

  pub two_halves : (cut : ℕ → ℕ) → ScanRun s w (halves cut blocks) xs last left
      → xs ≡ replicate (a.members + a.members) (0 ∷ []) ++ (answer 0 (scrub_blocks a stripe blocks) ∷ [])
  two_halves cut run =
      run-answers_as_history a stripe old accepted started cleared run ∙ halves-answered (format_at a).block_length a.members (scrub_blocks a stripe) blocks many full cut
