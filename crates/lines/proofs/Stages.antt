-- The number of a state, by the stage that it is read as. Assumes nothing.
use Rattle.std.proofs.Common.{◌≡◌, ◌≢◌, ◌⊎◌, inl, inr, ℕ, ◌<◌, Bool, true, false, cond, refl, sym, ap, ◌∙◌, arith}
use borrow.Author.Tests.{eqb-true}
use lib.Dec.{eqb}
use Rattle.lines.specs.declared.stage.Stage.{Stage}
use Rattle.lines.specs.declared.stage.Stage.TheVariants.{Header, Stripes, Behind, Over}
use Rattle.lines.specs.Stages.{stage_of}

module _ {s : Stage} {n : ℕ} (told : s ≡ stage_of n) where
  pub in_header : s ≡ Header → n ≡ 0
  in_header is = go (eqb n 0) refl (eqb n 1) (eqb n 2) (sym told ∙ is)
    where
      go : (f : Bool) → eqb n 0 ≡ f → (g h : Bool) → cond f Header (cond g Stripes (cond h Behind Over)) ≡ Header → n ≡ 0
      go true zero g h e = eqb-true n 0 zero
      go false zero true h e = absurd (cc)
      go false zero false true e = absurd (cc)
      go false zero false false e = absurd (cc)

  pub in_stripes : s ≡ Stripes → n ≡ 1
  in_stripes is = go (eqb n 0) (eqb n 1) refl (eqb n 2) (sym told ∙ is)
    where
      go : (f g : Bool) → eqb n 1 ≡ g → (h : Bool) → cond f Header (cond g Stripes (cond h Behind Over)) ≡ Stripes → n ≡ 1
      go true g one h e = absurd (cc)
      go false true one h e = eqb-true n 1 one
      go false false one true e = absurd (cc)
      go false false one false e = absurd (cc)

  pub behind : s ≡ Behind → n ≡ 2
  behind is = go (eqb n 0) (eqb n 1) (eqb n 2) refl (sym told ∙ is)
    where
      go : (f g h : Bool) → eqb n 2 ≡ h → cond f Header (cond g Stripes (cond h Behind Over)) ≡ Behind → n ≡ 2
      go true g h two e = absurd (cc)
      go false true h two e = absurd (cc)
      go false false true two e = eqb-true n 2 two
      go false false false two e = absurd (cc)

  pub not_in_header : s ≢ Header → n ≢ 0
  not_in_header other zero = other (told ∙ ap stage_of zero)

  pub not_in_stripes : s ≢ Stripes → n ≢ 1
  not_in_stripes other one = other (told ∙ ap stage_of one)

  pub not_behind : s ≢ Behind → n ≢ 2
  not_behind other two = other (told ∙ ap stage_of two)

  pub over : s ≡ Over → 2 < n
  over is = omega (arith, not_in_header (λ e. absurd (cc)), not_in_stripes (λ e. absurd (cc)), not_behind (λ e. absurd (cc)))

-- behind the last stripe, or over
module _ {s : Stage} (past : (s ≡ Behind) ⊎ (s ≡ Over)) where
  pub past_header : s ≢ Header
  past_header is = elim past [ inl e ↦ (cc) | inr e ↦ (cc) ]

  pub past_stripes : s ≢ Stripes
  past_stripes is = elim past [ inl e ↦ (cc) | inr e ↦ (cc) ]
