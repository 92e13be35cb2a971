-- What the number of an answer tells. Assumes nothing.
use Rattle.std.proofs.Common.{◌≡◌, ℕ, cond, ◌==◌, ◌≢◌, Result, refl, sym, ap, ◌∙◌, arith}
use Rattle.std.specs.Result.{IsErrAnd}
use Rattle.std.proofs.lemmas.Result.{err_from_is_err_and}
use Rattle.refusal.specs.Refusals.{number, told}
use Rattle.refusal.specs.declared.Refusal.{Refusal}
use Rattle.refusal.specs.declared.Refusal.TheVariants.{Members, Stripes, Place, State, Member, Length, Piece, Unfinished, Bad, Header, Image, Method, Row, Full, Entered, Record}

-- no reason has the number of a call that is done
pub number-some : (refusal : Refusal) → number refusal ≢ 0
number-some Members = omega arith
number-some Stripes = omega arith
number-some Place = omega arith
number-some State = omega arith
number-some Member = omega arith
number-some Length = omega arith
number-some Piece = omega arith
number-some Unfinished = omega arith
number-some Bad = omega arith
number-some Header = omega arith
number-some Image = omega arith
number-some Method = omega arith
number-some Row = omega arith
number-some Full = omega arith
number-some Entered = omega arith
number-some Record = omega arith

-- what a `?` hands on tells the number of the reason that it was handed
pub passed_on : {T : Type 0} (r : Result T Refusal) (refusal : Refusal) → IsErrAnd r (λ y. y ≡ refusal) → told r ≡ number refusal
passed_on r refusal h = let p = err_from_is_err_and r h in rw (p.1, p.2)

-- the number tells the reason
reason : ℕ → Refusal
reason n =
    cond (n == 1) Members (cond (n == 2) Stripes (cond (n == 3) Place (cond (n == 4) State (cond (n == 5) Member (cond (n == 6) Length (cond (n == 7) Piece (cond (n == 8) Unfinished (cond (n == 9) Bad (cond (n == 10) Header (cond (n == 11) Image (cond (n == 12) Method (cond (n == 13) Row (cond (n == 14) Full (cond (n == 15) Entered Record))))))))))))))

reason-number : (refusal : Refusal) → reason (number refusal) ≡ refusal
unfolding reason
reason-number Members = refl
reason-number Stripes = refl
reason-number Place = refl
reason-number State = refl
reason-number Member = refl
reason-number Length = refl
reason-number Piece = refl
reason-number Unfinished = refl
reason-number Bad = refl
reason-number Header = refl
reason-number Image = refl
reason-number Method = refl
reason-number Row = refl
reason-number Full = refl
reason-number Entered = refl
reason-number Record = refl

pub number_injective : (a b : Refusal) → number a ≡ number b → a ≡ b
number_injective a b e = sym (reason-number a) ∙ ap reason e ∙ reason-number b
