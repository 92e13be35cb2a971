-- `intent::updating::write_record` meets its contract. Assumes nothing.
use mathlib.Core.Path.{◌≡◌, ap, ◌∙◌}
use Prim.Native.Nat.{ℕ, suc, ◌^◌, ◌<◌}
use native.Mathlib.Numerals.{add-one}
use native.Mathlib.Omega.{arith}
use lib.Dec.{lit<}
use Rattle.intent.specs.Records.{written, entered, struck}
use Rattle.intent.proofs.Logs.{entry_free, entered-there}
use Rattle.intent.proofs.Calling.{none-stored, enter_stored, strike_stored}
use Rattle.intent.proofs.updating.write_record.Goals as goal

pub returns-then-stores-eq0 : goal.returns-then-stores-eq0
returns-then-stores-eq0 c = let a = c.args in none-stored a.stripe a.log.now a.stores c.if-stores-eq0.true

pub rewrite-requires : goal.rewrite-requires
rewrite-requires c = (entry_free c.args.stripe c.args.log.now c.requires.log_value).0

pub returns-then-stores-lt4 : goal.returns-then-stores-lt4
returns-then-stores-lt4 c =
    let in_log : let a = c.args in c.rewrite.new.log ≡ entered a.stripe a.log.now = let a = c.args in
    c.rewrite.ensures ∙ ap (λ (k : ℕ). written 0 k a.log.now) (add-one a.stripe) in
    let a = c.args in
    in_log ∙ enter_stored a.stripe a.log.now a.stores c.if-stores-eq0.false c.if-stores-lt4.true

pub rewrite-requires-2 : goal.rewrite-requires-2
rewrite-requires-2 c =
    let in_log : let a = c.args in c.rewrite.new.log ≡ entered a.stripe a.log.now = let a = c.args in
    c.rewrite.ensures ∙ ap (λ (k : ℕ). written 0 k a.log.now) (add-one a.stripe) in
    let small : suc c.args.stripe < 256 ^ 8 = let big : 18446744073709551615 < 256 ^ 8 = lit< tt in omega (arith, c.requires.stripe_bound) in
    let a = c.args in
    let free = (entry_free a.stripe a.log.now c.requires.log_value).0 in
    rw (in_log, add-one a.stripe) (entered-there a.stripe a.log.now c.told-log free small)

pub returns : goal.returns
returns c =
    let in_log : let a = c.args in c.rewrite.new.log ≡ entered a.stripe a.log.now = let a = c.args in
    c.rewrite.ensures ∙ ap (λ (k : ℕ). written 0 k a.log.now) (add-one a.stripe) in
    let a = c.args in
    c.rewrite-2.ensures ∙ ap (λ (k : ℕ). written k 0 c.rewrite.new.log) (add-one a.stripe) ∙ ap (struck a.stripe) in_log
    ∙ strike_stored a.stripe a.log.now a.stores (omega arith)
