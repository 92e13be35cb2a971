-- Lists that are stored element by element: what is known of those before stays known.
-- Assumes nothing.
use mathlib.Core.Path.{sym, subst}
use mathlib.Core.List.{List}
use Prim.Native.Nat.{ℕ, ◌+◌, ◌<◌}
use native.Mathlib.Omega.{arith}
use lib.ListN.{length, get_or, set}
use lib.Seq.{get_or-set_same, get_or-set_other}
use borrow.Author.Count.{below_more}

-- one element more of which something is known
pub set_more : {A : Type 0} (P : ℕ → A → Type 0) (out : List A) (l : ℕ) (v d : A) → l < length out → ((k : ℕ) → k < l → P k (get_or out k d)) → P l v
    → (k : ℕ) → k < l + 1 → P k (get_or (set out l v) k d)
set_more P out l v d h old new =
    below_more (λ (k : ℕ). P k (get_or (set out l v) k d)) l (λ k g. subst (P k) (sym (get_or-set_other out l k v d (λ e. omega arith))) (old k g))
    (subst (P l) (sym (get_or-set_same out l v d h)) new)
