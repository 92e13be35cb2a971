-- One event after the other: each answers as the ledger says, and leaves the stripe standing to the ledger as it is then. Assumes nothing.
use mathlib.Core.Path.{◌≡◌, sym, ap, ap₂, ◌∙◌, subst}
use mathlib.Core.List.{List, foldl}
use Prim.Native.Nat.{ℕ, ◌<◌}
use lib.ListN.{length}
use Rattle.layout.specs.Places.{stripe_of}
use Rattle.layout.specs.Ranges.{SoundStripe}
use Rattle.layout.specs.declared.Array.{Array}
use Rattle.stripe.specs.Jobs.{update_refusal, update_bytes, Reads}
use Rattle.life.specs.Events.{Event, update, rebuild, lose, Answer, numbered}
use Rattle.life.specs.Runs.{LifeRun, ended, updated, served, rebuilt, lost}
use Rattle.life.specs.Ledger.{entered, Standing, standing_after, OneAtATime, read_kept, AllAsKept}
use Rattle.life.specs.LastAccepted.{kept_after}
use Rattle.life.proofs.Stands.{Stands}
use Rattle.life.proofs.Reading.{read_as_kept}
use Rattle.life.proofs.Updating.{update-stands}
use Rattle.life.proofs.Rebuilding.{rebuild_mends}
use Rattle.life.proofs.Losing.{loss_stands}

module _ (a : Array) (stripe : ℕ) (sound : SoundStripe a stripe) (small : a.volume < 256) where
  -- of a block of this stripe, by its number alone
  here-updated : (block : ℕ) (new : List ℕ) {contents : List (List ℕ)} {s : Standing} {bytes : List ℕ} → stripe_of a block ≡ stripe → Stands a stripe contents s bytes
      → Stands a stripe (entered a contents (update block new) (numbered (update_refusal a block (length new) bytes))) s (update_bytes a block new bytes)
  here-updated block new {contents} {s} {bytes} q st =
      subst (λ (x : ℕ). Stands a x (entered a contents (update block new) (numbered (update_refusal a block (length new) bytes))) s (update_bytes a block new bytes)) q
      (update-stands a block (subst (SoundStripe a) (sym q) sound) small (subst (λ (x : ℕ). Stands a x contents s bytes) (sym q) st) new)

  here-read : (block : ℕ) (out : List ℕ) {contents : List (List ℕ)} {s : Standing} {bytes : List ℕ} → stripe_of a block ≡ stripe → Stands a stripe contents s bytes
      → Reads a block bytes out (read_kept a contents s block out).numbers (read_kept a contents s block out).left
  here-read block out {contents} {s} {bytes} q st =
      read_as_kept a block (subst (SoundStripe a) (sym q) sound) small (subst (λ (x : ℕ). Stands a x contents s bytes) (sym q) st) out

  -- a whole run
  pub run-kept : {bytes last : List ℕ} {events : List Event} {answers : List Answer} → LifeRun a stripe bytes events answers last
      → (contents : List (List ℕ)) (s : Standing) → OneAtATime a stripe s events → Stands a stripe contents s bytes
      → AllAsKept a contents s events answers × Stands a stripe (kept_after a contents events answers) (foldl standing_after s events) last
  run-kept ended contents s single st = (tt, st)
  run-kept (updated {bytes = bytes} {new = new} {block = block} number e f run) contents s single st =
      let next = subst (λ (k : ℕ). Stands a stripe (entered a contents (update block new) (numbered k)) s (update_bytes a block new bytes)) (sym e) (here-updated block new single.0 st) in
      let rest = run-kept run (entered a contents (update block new) (numbered number)) s single.1 (subst (Stands a stripe (entered a contents (update block new) (numbered number)) s) (sym f) next) in
      ((tt, rest.0), rest.1)
  run-kept (served {out = out} {block = block} r e f run) contents s single st =
      let reads = here-read block out single.0 st in
      let rest = run-kept run contents s single.1 st in
      ((ap₂ (λ (x y : List ℕ). record { numbers = x; left = y }) (e ∙ sym reads.0) (f ∙ sym reads.1), rest.0), rest.1)
  run-kept (rebuilt {member = member} number e f run) contents s single st =
      let mends = rebuild_mends a stripe sound small st member in
      let rest = run-kept run contents (standing_after s (rebuild member)) single.1 (subst (Stands a stripe contents (standing_after s (rebuild member))) (sym f) mends.1) in
      ((ap numbered (e ∙ mends.0), rest.0), rest.1)
  run-kept (lost {block = block} {member = member} run) contents s single st =
      let rest = run-kept run contents (standing_after s (lose member block)) single.1 (loss_stands a stripe st member block single.0) in
      ((tt, rest.0), rest.1)
