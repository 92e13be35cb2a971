-- The theorem on the code's own promises. `Learnt` is what the kit makes of a function's `ensures`: all that a caller may count on. From it
-- a call of `update`, `read` or `rebuild` is a step of a life, and an accepted call of `seal` begins one. So what is said of every life is said
-- of the calls: with an `ensures` weakened, these laws are refused. Assumes nothing.
use mathlib.Core.Path.{◌≡◌, sym, ◌∙◌}
use mathlib.Core.List.{List, ◌∷◌}
use Prim.Native.Nat.{ℕ, ◌<◌}
use Rattle.std.proofs.Common.{Result}
use Rattle.refusal.specs.Refusals.{told}
use Rattle.refusal.specs.declared.Refusal.{Refusal}
use contract.Lifetimes.{Lfts}
use borrow.Fn.Kinds.{Dens, ended_of}
use denote.Triple.Clauses.{AtExit}
use Rattle.stripe.specs.Jobs.{reading_numbers}
use Rattle.stripe.specs.declared.Reading.{Reading}
use Rattle.stripe.proofs.seal.Kinds as seal-kinds
use Rattle.stripe.proofs.seal.Reads as seal-reads
use Rattle.stripe.proofs.update.Kinds as update-kinds
use Rattle.stripe.proofs.update.Reads as update-reads
use Rattle.stripe.proofs.read.Kinds as read-kinds
use Rattle.stripe.proofs.read.Reads as read-reads
use Rattle.stripe.proofs.rebuild.Kinds as rebuild-kinds
use Rattle.stripe.proofs.rebuild.Reads as rebuild-reads
use Rattle.life.specs.Events.{Event, update, read, rebuild, Answer, numbered}
use Rattle.life.specs.Runs.{LifeRun, updated, served, rebuilt}
use Rattle.life.specs.Ledger.{whole, OneAtATime}
use Rattle.life.specs.WholeLife.{WholeLife}
use Rattle.life.proofs.Theorem.{life_as_kept}

-- A call is its arguments a, its result r, and e, what its borrows hold at the end; both a and e are in the order of the parameters.
-- Of `update`: .0 the array, .1 .0 the block, .1 .1 .0 the new data, .1 .1 .1 .0 the stripe
module _ (κs : Lfts 2) (a : Dens κs update-kinds.ps) (r : Result Unit Refusal) (e : AtExit (ended_of 2 update-kinds.ps update-kinds.r) κs) where
  pub update_lives : update-reads.Learnt κs a r e → {stripe : ℕ} {events : List Event} {answers : List Answer} {last : List ℕ}
      → LifeRun a.0 stripe e.1.1.1.0.now events answers last
      → LifeRun a.0 stripe a.1.1.1.0.now (update a.1.0 a.1.1.0.now ∷ events) (numbered (told r) ∷ answers) last
  update_lives promised run = updated (told r) promised.0 promised.1 run

-- of `read`: .0 the array, .1 .0 the block, .1 .1 .0 the stripe, which stays as it is, .1 .1 .1 .0 the buffer
module _ (κs : Lfts 2) (a : Dens κs read-kinds.ps) (r : Result Reading Refusal) (e : AtExit (ended_of 2 read-kinds.ps read-kinds.r) κs) where
  pub read_lives : read-reads.Learnt κs a r e → {stripe : ℕ} {events : List Event} {answers : List Answer} {last : List ℕ}
      → LifeRun a.0 stripe a.1.1.0.now events answers last
      → LifeRun a.0 stripe a.1.1.0.now (read a.1.0 a.1.1.1.0.now ∷ events)
      (record { numbers = reading_numbers r; left = e.1.1.1.0.now } ∷ answers) last
  read_lives promised run = served r promised.0 promised.1 run

-- of `rebuild`: .0 the array, .1 .0 the stripe's number, .1 .1 .0 the member, .1 .1 .1 .0 the stripe
module _ (κs : Lfts 1) (a : Dens κs rebuild-kinds.ps) (r : Result Unit Refusal) (e : AtExit (ended_of 1 rebuild-kinds.ps rebuild-kinds.r) κs) where
  pub rebuild_lives : rebuild-reads.Learnt κs a r e → {events : List Event} {answers : List Answer} {last : List ℕ}
      → LifeRun a.0 a.1.0 e.1.1.1.0.now events answers last
      → LifeRun a.0 a.1.0 a.1.1.1.0.now (rebuild a.1.1.0 ∷ events) (numbered (told r) ∷ answers) last
  rebuild_lives promised run = rebuilt (told r) promised.0 promised.1 run

-- of `seal`: .0 the array, .1 .0 the stripe's number, .1 .1 .0 the content, .1 .1 .1 .0 the stripe. It is accepted, and any life goes on from the
-- bytes that it left
pub whole-life : (κs : Lfts 2) (a : Dens κs seal-kinds.ps) (r : Result Unit Refusal) (e : AtExit (ended_of 2 seal-kinds.ps seal-kinds.r) κs)
    → seal-reads.Learnt κs a r e → told r ≡ 0 → a.0.volume < 256
    → {events : List Event} {answers : List Answer} {last : List ℕ} → LifeRun a.0 a.1.0 e.1.1.1.0.now events answers last
    → OneAtATime a.0 a.1.0 whole events
    → WholeLife a.0 a.1.0 a.1.1.0.now events answers last
whole-life κs a r e promised done small run single =
    life_as_kept a.0 a.1.0 a.1.1.0.now a.1.1.1.0.now (sym promised.0 ∙ done) small promised.1 run single
