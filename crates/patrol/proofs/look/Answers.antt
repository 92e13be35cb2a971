-- `patrol::look` meets its contract: a scrub that nothing refuses finds a verdict. Assumes nothing.
use mathlib.Core.Path.{◌≡◌, ap, ◌∙◌}
use mathlib.Core.List.{List, [], ◌∷◌, ◌++◌}
use Prim.Native.Nat.{ℕ}
use native.Mathlib.Omega.{arith}
use Rattle.stripe.proofs.Scrubs.{scrub_answered}
use Rattle.patrol.specs.Patrols.{scrub_of}
use Rattle.patrol.proofs.look.Goals as goal

pub returns-in_err-verdict : goal.returns-in_err-verdict
returns-in_err-verdict c =
    let same = c.in_err-verdict.ensures ∙ scrub_answered c.args.array c.args.stripe c.args.bytes.now c.requires in
    let z : ◌≡◌ {A = ℕ} 0 1 = cc in
    absurd (omega arith)

pub returns : goal.returns
unfolding scrub_of
returns c = ap (λ (l : List ℕ). l ++ (1 ∷ c.args.stripe ∷ [])) c.in_ok-verdict.ensures
