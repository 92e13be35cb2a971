-- A finish: the members that stand at the end of a block are those whose history is whole, and once all are, what is held says of
-- the stripe what its whole blocks say.
-- Assumes nothing.
use mathlib.Core.Path.{◌≡◌, refl, sym, ap, ap₂, ◌∙◌}
use mathlib.Core.Bool.{Bool, true, false, ◌&&◌}
use mathlib.Core.List.{List, [], ◌∷◌, map}
use Prim.Native.Nat.{ℕ, zero, suc, ◌*◌, ◌≤◌, ◌<◌}
use native.Mathlib.Nat.{le_of_suc-le-suc, not-suc-le-zero}
use native.Mathlib.Omega.{arith}
use lib.Dec.{leb, eqb}
use borrow.Author.Tests.{leb-true, leb-false, le-leb, eq-eqb, ne_eqb}
use lib.ListN.{length, get_or, take, drop, length-take, length-drop}
use lib.Seq.{get_or-take, get_or-drop, ext_get_or}
use Rattle.stripe.specs.Tables.{table, all, span}
use Rattle.format.specs.Formats.{Format, guard}
use Rattle.tag.specs.Blocks.{tag_of}
use Rattle.stripe.specs.Formats.{register_of, summary_of}
use Rattle.scan.specs.Scans.{held_summary}
use Rattle.scan.specs.Holding.{Held, Follows}
use Rattle.scan.proofs.Joins.{table-map, map-map}
use Rattle.scan.proofs.Pieces.{apart}

-- ---- flags over the positions of a history none of whose members has more than a block

at_end : (p block : ℕ) → p ≤ block → eqb p block ≡ leb block p
at_end p block h = go (leb block p) refl
  where
    go : (f : Bool) → leb block p ≡ f → eqb p block ≡ f
    go true e = eq-eqb p block (omega (arith, leb-true block p e))
    go false e = ne_eqb p block (λ q. omega (arith, leb-false block p e))

and_first : (x y : Bool) → (x && y) ≡ true → x ≡ true
and_first true y e = refl
and_first false y e = e

and_second : (x y : Bool) → (x && y) ≡ true → y ≡ true
and_second true y e = e
and_second false y e = cc

module _ (block : ℕ) where
  ends_alike : (history : List (List ℕ)) → ((i : ℕ) → length (get_or history i []) ≤ block)
      → map (λ p. eqb p block) (map length history) ≡ map (λ taken. leb block (length taken)) history
  ends_alike [] h = refl
  ends_alike (b ∷ history) h = ap₂ (λ (f : Bool) (fs : List Bool). f ∷ fs) (at_end (length b) block (h 0)) (ends_alike history (λ i. h (suc i)))

  none-past : (history : List (List ℕ)) → ((i : ℕ) → length (get_or history i []) ≤ block) → all (map (λ p. leb p block) (map length history)) ≡ true
  none-past [] h = refl
  none-past (b ∷ history) h = rw (le-leb (length b) block (h 0)) (none-past history (λ i. h (suc i)))

  pub all_whole : (history : List (List ℕ)) → all (map (λ taken. leb block (length taken)) history) ≡ true
      → (i : ℕ) → i < length history → block ≤ length (get_or history i [])
  all_whole [] e i h = absurd (not-suc-le-zero h)
  all_whole (b ∷ history) e zero h = leb-true block (length b) (and_first (leb block (length b)) _ e)
  all_whole (b ∷ history) e (suc i) h = all_whole history (and_second (leb block (length b)) _ e) i (le_of_suc-le-suc h)

-- ---- what is held, at a finish

module _ (F : Format) (n : ℕ) (h : Held F) (history : List (List ℕ)) (t : Follows F n h history) where
  pub flags_are : map (λ p. eqb p F.block_length) (take n h.at) ≡ map (λ taken. leb F.block_length (length taken)) history
  flags_are = rw t.at_is (ends_alike F.block_length history t.fits)

  pub positions-fit : all (map (λ p. leb p F.block_length) (take n h.at)) ≡ true
  positions-fit = rw t.at_is (none-past F.block_length history t.fits)

  tag-held : (i : ℕ) → i < n → length (get_or history i []) ≡ F.block_length → span (F.tag_length * i) F.tag_length h.tag ≡ tag_of F (get_or history i [])
  unfolding span tag_of
  tag-held i hi e =
      ext_get_or 0 (take F.tag_length (drop (F.tag_length * i) h.tag)) (drop F.data_length (get_or history i []))
      (long ∙ sym (length-drop F.data_length (get_or history i []) ∙ omega arith)) (λ j hj. at j (rw long at hj))
    where
      long : length (take F.tag_length (drop (F.tag_length * i) h.tag)) ≡ F.tag_length
      long = simp (length-take, length-drop) (omega (arith, t.tag-long, apart F.tag_length i n hi))

      at : (j : ℕ) → j < F.tag_length → get_or (take F.tag_length (drop (F.tag_length * i) h.tag)) j 0 ≡ get_or (drop F.data_length (get_or history i [])) j 0
      at j hj = rw (get_or-take, get_or-drop (F.tag_length * i)) (t.tag_is i hi j hj)

  pub summary-held : all (map (λ taken. leb F.block_length (length taken)) history) ≡ true
      → held_summary F n h.register h.tag h.work ≡ summary_of F history
  unfolding held_summary guard
  summary-held e = cc (guards, tags, t.work_is)
    where
      guards : map F.guard_of (take n h.register) ≡ map (λ b. F.guard_of (register_of F b)) history
      guards = rw t.register_is (map-map F.guard_of (register_of F) history)

      full : (i : ℕ) → i < length history → length (get_or history i []) ≡ F.block_length
      full i hi = omega (arith, t.fits i, all_whole F.block_length history e i hi)

      tags : table n (λ m. span (F.tag_length * m) F.tag_length h.tag) ≡ map (tag_of F) history
      tags =
          ap (λ (k : ℕ). table k (λ m. span (F.tag_length * m) F.tag_length h.tag)) (sym t.members)
          ∙ table-map (tag_of F) (λ m. span (F.tag_length * m) F.tag_length h.tag) history [] (λ i hi. tag-held i (rw t.members at hi) (full i hi))
