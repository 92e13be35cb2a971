-- The front of a work buffer, as the code cuts it, and the buffer when it has come back. Assumes nothing.
use mathlib.Core.Path.{◌≡◌, refl, sym, ◌∙◌}
use mathlib.Core.List.{List, ◌++◌}
use Prim.Native.Nat.{ℕ, ◌+◌, min}
use native.Mathlib.Omega.{arith}
use lib.ListN.{length, take, drop, length-take}
use lib.Seq.{sets, sets-eq}
use Rattle.report.proofs.Doing.{part_lacking}

module _ (d end : ℕ) (w : List ℕ) (cut : end ≡ min d (length w)) where
  pub front-lent : take end w ≡ take d w
  front-lent = part_lacking d d end w refl cut

  -- what came back as long as it went stands at the front, and the rest stays
  pub front-back : (y : List ℕ) → length y ≡ length (take end w) → y ++ drop end w ≡ sets w 0 y
  front-back y same =
      let long : length y ≡ end = same ∙ simp length-take (omega arith) in
      let cut-there : end ≡ 0 + length y = omega (arith, long) in
      rw cut-there (sym (sets-eq y w 0 (omega arith)))
