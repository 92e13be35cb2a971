-- Elements written one after the other.
-- Assumes nothing.
use mathlib.Core.Path.{◌≡◌, sym, subst, ◌∙◌}
use mathlib.Core.List.{List}
use Prim.Native.Nat.{ℕ, ◌+◌, ◌≤◌, ◌<◌}
use native.Mathlib.Omega.{arith}
use lib.ListN.{length, get_or, set, length-set}
use lib.Seq.{get_or-set_same, get_or-set_other}
use borrow.Author.Count.{below_more}
use borrow.Author.Rules.{read_below, read_above}

-- one more, where f says what
put_next : (l : List ℕ) (o j v : ℕ) (f : ℕ → ℕ) → o + j < length l → ((m : ℕ) → m < j → get_or l (o + m) 0 ≡ f m) → v ≡ f j
    → (m : ℕ) → m < j + 1 → get_or (set l (o + j) v) (o + m) 0 ≡ f m
put_next l o j v f h old e =
    below_more (λ (m : ℕ). get_or (set l (o + j) v) (o + m) 0 ≡ f m) j (λ m g. read_below ℕ l (o + j) (o + m) v 0 (f m) (omega arith) (old m g)) (get_or-set_same l (o + j) v 0 h ∙ e)

pub put_first : (l : List ℕ) (j v : ℕ) (f : ℕ → ℕ) → j < length l → ((m : ℕ) → m < j → get_or l m 0 ≡ f m) → v ≡ f j
    → (m : ℕ) → m < j + 1 → get_or (set l j v) m 0 ≡ f m
put_first l j v f h old e =
    below_more (λ (m : ℕ). get_or (set l j v) m 0 ≡ f m) j (λ m g. read_below ℕ l j m v 0 (f m) g (old m g)) (get_or-set_same l j v 0 h ∙ e)

-- one element more of which something is known
pub set_more : (P : ℕ → ℕ → Type 0) (out : List ℕ) (l v : ℕ) → l < length out → ((k : ℕ) → k < l → P k (get_or out k 0)) → P l v
    → (k : ℕ) → k < l + 1 → P k (get_or (set out l v) k 0)
set_more P out l v h old new =
    below_more (λ (k : ℕ). P k (get_or (set out l v) k 0)) l (λ k g. subst (P k) (sym (get_or-set_other out l k v 0 (λ e. omega arith))) (old k g))
    (subst (P l) (sym (get_or-set_same out l v 0 h)) new)

-- the invariant of a loop that writes n elements from o on, as f says, when j are written: what stands before them and after them stays
abbrev pub Written : (ℕ → ℕ) → ℕ → ℕ → List ℕ → List ℕ → ℕ → Type 0
Written f n o l₀ l j =
    (j ≤ n) × (length l ≡ length l₀) × ((i : ℕ) → i < o → get_or l i 0 ≡ get_or l₀ i 0) × ((i : ℕ) → o + j ≤ i → get_or l i 0 ≡ get_or l₀ i 0)
    × ((k : ℕ) → k < j → get_or l (o + k) 0 ≡ f k)

pub written_next : (f : ℕ → ℕ) (n o : ℕ) (l₀ l : List ℕ) (j v : ℕ) → j < n → o + j < length l → Written f n o l₀ l j → v ≡ f j → Written f n o l₀ (set l (o + j) v) (j + 1)
written_next f n o l₀ l j v h room w e = (
  omega arith,
  length-set l (o + j) v ∙ w.1,
  (λ i g. read_below ℕ l (o + j) i v 0 (get_or l₀ i 0) (omega arith) (w.2 i g)),
  (λ i g. read_above ℕ l (o + j) i v 0 (get_or l₀ i 0) (omega arith) (w.3 i (omega arith))),
  put_next l o j v f room w.4 e,
)
