-- Two tables that differ in one entry at most: the one is the other with that entry set. Assumes nothing.
use mathlib.Core.Path.{◌≡◌, sym, ap, ◌∙◌}
use mathlib.Core.Logic.{◌≢◌}
use Prim.Native.Nat.{ℕ, ◌<◌}
use native.Mathlib.Decide.{ℕ_discrete}
use lib.ListN.{get_or, set, length-set}
use lib.Seq.{ext_get_or, get_or-set_same, get_or-set_other}
use Rattle.stripe.specs.Tables.{table}
use Rattle.stripe.proofs.Tables.{length-table, get_or-table}

module _ {A : Type 0} where
  pub one_entry_set : (n k : ℕ) (f g : ℕ → A) → k < n → ((i : ℕ) → i < n → i ≢ k → f i ≡ g i) → table n f ≡ set (table n g) k (f k)
  one_entry_set n k f g here same =
      ext_get_or (f k) (table n f) (set (table n g) k (f k)) (length-table n f ∙ sym (length-set (table n g) k (f k) ∙ length-table n g))
      (λ i l. at i (rw length-table at l) (ℕ_discrete i k))
    where
      at : (i : ℕ) → i < n → Dec (i ≡ k) → get_or (table n f) i (f k) ≡ get_or (set (table n g) k (f k)) i (f k)
      at i l (yes e) =
          get_or-table n f (f k) i l ∙ ap f e
          ∙ sym (ap (λ (j : ℕ). get_or (set (table n g) k (f k)) j (f k)) e ∙ get_or-set_same (table n g) k (f k) (f k) (rw length-table here))
      at i l (no ne) = get_or-table n f (f k) i l ∙ same i l ne ∙ sym (get_or-set_other (table n g) k i (f k) (f k) ne ∙ get_or-table n g (f k) i l)
