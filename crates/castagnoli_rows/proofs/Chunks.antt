-- Bytes taken away chunk by chunk: each chunk goes on where the one before ended.
-- Assumes nothing.
use mathlib.Core.Path.{◌≡◌, refl, sym, ap, ap₂, subst, ◌∙◌}
use mathlib.Core.Bool.{true, ◌&&◌}
use mathlib.Core.List.{List, [], ◌∷◌}
use Prim.Native.Nat.{ℕ, suc, ◌+◌, ◌-◌, ◌*◌, ◌/◌, ◌%◌, ◌≤◌, ◌<◌}
use native.Mathlib.Nat.{zero-add, mul_comm, le-div_iff_mul-le}
use native.Mathlib.Decide.{dec_lt}
use native.Mathlib.Omega.{arith}
use lib.Dec.{ltb, leb-suc-suc}
use lib.ListN.{get_or, take, drop}
use lib.Seq.{get_or-take, get_or-drop}
use lib.Bits.{bit_xor}
use borrow.Author.Tests.{ltb-true}
use Rattle.castagnoli_words.proofs.Sparse.{first_true, second_true}
use Rattle.castagnoli_rows.specs.Folds.{mix, no_further, all_below, Ready, Chunk, Taken}

-- two buffers that agree on r bytes, from i on in the one and from k on in the other
mix-same : (es : List ℕ) (r x : ℕ) (u w : List ℕ) (i k : ℕ) → all_below r es ≡ true → ((j : ℕ) → j < r → get_or u (i + j) 0 ≡ get_or w (k + j) 0)
    → mix es x u i ≡ mix es x w k
mix-same [] r x u w i k h same = refl
mix-same (e ∷ es) r x u w i k h same =
    ap (λ (y : ℕ). mix es (bit_xor x y) u i) (same e (ltb-true e r (first_true (ltb e r) (all_below r es) h)))
    ∙ mix-same es r (bit_xor x (get_or w (k + e) 0)) u w i k (second_true (ltb e r) (all_below r es) h) same

-- the r bytes from k on have all that meets the one there
pub mix-window : (es : List ℕ) (r x : ℕ) (u w : List ℕ) (k : ℕ) → all_below r es ≡ true → u ≡ take r (drop k w) → mix es x u 0 ≡ mix es x w k
mix-window es r x u w k h e =
    mix-same es r x u w 0 k h (λ j g. rw (zero-add j, e) (get_or-take r (drop k w) j 0 g ∙ get_or-drop k w j 0))

pub taken_none : (es : List ℕ) (n m : ℕ) (head b w : List ℕ) → Ready n m head w → Taken es n m head b w 0
taken_none es n m head b w ready = record { ready = ready; made = λ k l. absurd (omega arith) }

-- c bytes more, where each place is below r
pub taken_more_below : (es : List ℕ) (r n m c : ℕ) (head b w u : List ℕ) (i : ℕ) → all_below r es ≡ true → r - 1 + c ≤ n → i + c ≤ m
    → Chunk es c n b i w u → Taken es n m head b w i → Taken es n m head b u (i + c)
taken_more_below es r n m c head b w u i hr hc h e taken =
    record {
      ready =
          record {
            long = e.long ∙ taken.ready.long;
            front = λ j l. e.before j (omega arith) ∙ taken.ready.front j l;
            back = λ j l. e.after j (omega arith) ∙ taken.ready.back j l;
          };
      made = λ k l. go k l (dec_lt k i);
    }
  where
    same : (k : ℕ) → k < i + c → mix es (get_or b k 0) w k ≡ mix es (get_or b k 0) u k
    same k l = mix-same es r (get_or b k 0) w u k k hr (λ j g. sym (e.before (k + j) (omega arith)))

    go : (k : ℕ) → k < i + c → Dec (k < i) → get_or u (n + k) 0 ≡ mix es (get_or b k 0) u k
    go k l (yes g) = e.before (n + k) (omega arith) ∙ taken.made k g ∙ same k l
    go k l (no g) =
        let e₁ : n + k ≡ i + n + (k - i) = omega arith in
        let e₂ : i + (k - i) ≡ k = omega arith in
        ap (λ (x : ℕ). get_or u x 0) e₁ ∙ e.made (k - i) (omega arith) ∙ ap (λ (x : ℕ). mix es (get_or b x 0) w x) e₂ ∙ same k l

-- what is not past z is below the next
below-next : (z : ℕ) (es : List ℕ) → all_below (suc z) es ≡ no_further z es
below-next z [] = refl
below-next z (e ∷ es) = ap₂ (◌&&◌) (leb-suc-suc e z) (below-next z es)

-- c bytes more, where no place is past z
pub taken_more : (es : List ℕ) (z n m c : ℕ) (head b w u : List ℕ) (i : ℕ) → no_further z es ≡ true → z + c ≤ n → i + c ≤ m
    → Chunk es c n b i w u → Taken es n m head b w i → Taken es n m head b u (i + c)
taken_more es z n m c head b w u i hz hc = taken_more_below es (suc z) n m c head b w u i (below-next z es ∙ hz) (omega (arith, hc))

-- chunk k is the next of those before m, and the chunks are all
pub chunk_next : (c k : ℕ) → c * k + c ≡ c * (k + 1)
chunk_next c k = omega arith

pub chunk_within : (c k m : ℕ) → 0 < c → k < m / c → c * k + c ≤ m
chunk_within c k m some h =
    let fits : (k + 1) * c ≤ m = (le-div_iff_mul-le some).0 (omega arith) in
    omega (arith, fits, mul_comm (k + 1) c, chunk_next c k)

pub chunks_all : (c k m : ℕ) → 0 < c → m % c ≡ 0 → k ≤ m / c → m / c ≤ k → c * k ≡ m
chunks_all c k m some whole h g =
    let e : k ≡ m / c = omega arith in
    subst (λ (x : ℕ). c * x ≡ m) (sym e) (omega arith)
