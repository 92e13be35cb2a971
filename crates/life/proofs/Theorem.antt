-- The whole life of a stripe: from an accepted seal, whatever the events, if no loss strikes a second member before the first is rebuilt.
-- The theorem ends this file; specs/WholeLife.antt has what it claims. Assumes nothing.
use mathlib.Core.Path.{◌≡◌, sym, ap, ◌∙◌, subst}
use mathlib.Core.Bool.{cond}
use mathlib.Core.List.{List, [], ◌∷◌, ◌++◌, foldl}
use Prim.Native.Nat.{ℕ, ◌<◌}
use borrow.Author.Tests.{eq-eqb}
use lib.ListN.{length, get_or}
use Rattle.layout.specs.Arrays.{data_members}
use Rattle.layout.specs.Places.{index_of, member_of}
use Rattle.layout.specs.Ranges.{SoundStripe}
use Rattle.layout.specs.declared.Array.{Array}
use Rattle.layout.proofs.Ranges.{stripe_sound}
use Rattle.layout.proofs.Blocks.{index_in_stripe}
use Rattle.tag.specs.Blocks.{format_at}
use Rattle.stripe.specs.Tables.{joined, part}
use Rattle.stripe.specs.Jobs.{seal_refusal, seal_bytes, sealed}
use Rattle.stripe.specs.Verdicts.{scrub_numbers, clean}
use Rattle.stripe.proofs.Tables.{length-table, get_or-table}
use Rattle.stripe.proofs.Blocks.{parts_joined}
use Rattle.stripe.proofs.Seals.{seal_fitting, seal_done}
use Rattle.stripe.proofs.Clean.{sealed-clean}
use Rattle.life.specs.Events.{Event, read, Answer, unanswered}
use Rattle.life.specs.Runs.{LifeRun}
use Rattle.life.specs.Ledger.{opened, Standing, whole, is_lost, standing_after, OneAtATime, AllAsKept}
use Rattle.life.specs.LastAccepted.{kept_after, last_accepted}
use Rattle.life.specs.WholeLife.{WholeLife}
use Rattle.life.proofs.Stands.{Stands, sealed-stands, whole-sealed}
use Rattle.life.proofs.Lives.{run-kept}
use Rattle.life.proofs.Keeping.{answer-after, entry_last, read_here}

module _ (a : Array) (stripe : ℕ) (content : List ℕ) (sound : SoundStripe a stripe) (small : a.volume < 256)
    (events : List Event) (answers : List Answer) (last : List ℕ) (single : OneAtATime a stripe whole events)
    (kept : AllAsKept a (opened a content) whole events answers) where
  read-last : (before later : List Event) (block : ℕ) (out : List ℕ) → events ≡ before ++ (read block out ∷ later) → length out ≡ (format_at a).data_length
      → get_or answers (length before) unanswered
      ≡ record {
        numbers = 1 ∷ 0 ∷ cond (is_lost (foldl standing_after whole before) (member_of a block)) 1 0 ∷ [];
        left = last_accepted block (part (format_at a).data_length content (index_of a block)) before answers;
      }
  read-last before later block out e room =
      let rest = read block out ∷ later in
      let lost = is_lost (foldl standing_after whole before) (member_of a block) in
      let i = index_of a block in
      let first = part (format_at a).data_length content in
      let d = data_members a in
      let here : i < d = index_in_stripe a block sound.array in
      let alone = subst (OneAtATime a stripe whole) e single in
      let own = read_here a stripe before later block out whole alone in
      let entry =
      entry_last a stripe block own before rest answers (opened a content) whole (first i) (rw (length-table d first) here) alone (get_or-table d first [] i here) in
      answer-after a before later block out answers (opened a content) whole (subst (λ (l : List Event). AllAsKept a (opened a content) whole l answers) e kept)
      ∙ rw (eq-eqb (length out) (format_at a).data_length room) (ap (λ (l : List ℕ). record { numbers = 1 ∷ 0 ∷ cond lost 1 0 ∷ []; left = l }) entry)

  ends-sealed : Stands a stripe (kept_after a (opened a content) events answers) whole last
      → (last ≡ sealed a stripe (joined (kept_after a (opened a content) events answers))) × (scrub_numbers a stripe last ≡ clean)
  ends-sealed st =
      let back = whole-sealed a stripe sound st in (
        back ∙ ap (sealed a stripe) (sym (ap joined st.kept ∙ parts_joined (format_at a).data_length (data_members a) st.content st.content_long)),
        ap (scrub_numbers a stripe) back ∙ sealed-clean a stripe st.content sound st.content_long small,
      )

-- for any array, stripe, content and old bytes that a seal accepts (a volume is one byte); any events, with the answers that a run of them gives
-- from the sealed bytes, if each is of this stripe and no loss strikes a second member before the first is rebuilt
pub life_as_kept : (a : Array) (stripe : ℕ) (content old : List ℕ) → seal_refusal a stripe (length content) (length old) ≡ 0 → a.volume < 256
    → {sealed-bytes last : List ℕ} → sealed-bytes ≡ seal_bytes a stripe content old
    → {events : List Event} {answers : List Answer} → LifeRun a stripe sealed-bytes events answers last
    → OneAtATime a stripe whole events
    → WholeLife a stripe content events answers last
life_as_kept a stripe content old accepted small {last = last} from {events = events} {answers = answers} run single =
    let fit = seal_fitting a stripe (length content) (length old) accepted in
    let sound = stripe_sound a stripe fit.stripe-good in
    let first = subst (Stands a stripe (opened a content) whole) (seal_done a stripe content old accepted ∙ sym from) (sealed-stands a stripe content sound fit.content_long) in
    let both = run-kept a stripe sound small run (opened a content) whole single first in
    record {
      answered = both.0;
      reads = read-last a stripe content sound small events answers last single both.0;
      ends = λ e. ends-sealed a stripe content sound small events answers last single both.0
          (subst (λ (s : Standing). Stands a stripe (kept_after a (opened a content) events answers) s last) e both.1);
    }
