-- A life that was tried out: a block is lost, another is updated meanwhile, the lost one is read and rebuilt, then the other one is lost.
-- Every run of it gives these answers. Assumes nothing.
use mathlib.Core.Path.{◌≡◌, refl, sym, ap, ap₂, ◌∙◌, subst}
use mathlib.Core.Logic.{◌≢◌}
use mathlib.Core.Bool.{Bool, true, false, cond}
use mathlib.Core.List.{List, [], ◌∷◌}
use Prim.Native.Nat.{ℕ, ◌*◌, ◌<◌}
use native.Mathlib.Omega.{arith}
use borrow.Author.Tests.{eq-eqb, ne_eqb, lt-ltb}
use lib.Dec.{eqb}
use lib.ListN.{length, get_or, set}
use lib.Seq.{length-sets, get_or-set_same, get_or-set_other}
use Rattle.format.proofs.Sizes.{times-next}
use Rattle.layout.specs.Arrays.{data_members}
use Rattle.layout.specs.Places.{parity_member, stripe_of, index_of, member_of}
use Rattle.layout.specs.Ranges.{SoundStripe}
use Rattle.layout.specs.declared.Array.{Array}
use Rattle.layout.proofs.Members.{parity-below, index_of_member}
use Rattle.layout.proofs.Blocks.{index_in_stripe}
use Rattle.layout.proofs.Bijection.{parity_no_block}
use Rattle.tag.specs.Blocks.{format_at}
use Rattle.tag.specs.Tags.{good}
use Rattle.stripe.specs.Tables.{part}
use Rattle.stripe.specs.Stripes.{stored_guards}
use Rattle.stripe.specs.Jobs.{with_block, stored_good, sealed_data, sealed, update_refusal}
use Rattle.stripe.proofs.Tables.{length-table, get_or-table}
use Rattle.stripe.proofs.Rows.{length-span}
use Rattle.stripe.proofs.Blocks.{block-kept}
use Rattle.stripe.proofs.Seals.{length-sealed}
use Rattle.stripe.proofs.Sealed.{sealed-good}
use Rattle.stripe.proofs.UpdateBeside.{update-beside}
use Rattle.life.specs.Events.{Event, update, read, rebuild, lose, Answer, numbered, unanswered}
use Rattle.life.specs.Runs.{LifeRun, ended, updated, served, rebuilt, lost}
use Rattle.life.specs.Ledger.{opened, Standing, whole, lacks, is_lost, Loss, OneAtATime, read_kept, AllAsKept}
use Rattle.life.proofs.Stands.{sealed-stands}
use Rattle.life.proofs.Reading.{own_block, own_below}
use Rattle.life.proofs.Lives.{run-kept}
use Rattle.life.proofs.TwoBlocks.{second_in, second_data, indices_apart, members-apart}
use Rattle.life.proofs.Strays.{stray, length-stray, stray-bad, stray-guards}

-- a read that is done: stored or rebuilt, with these data
abbrev pub read_stored : List ℕ → Answer
read_stored content = record { numbers = 1 ∷ 0 ∷ 0 ∷ []; left = content }

abbrev pub read_rebuilt : List ℕ → Answer
read_rebuilt content = record { numbers = 1 ∷ 0 ∷ 1 ∷ []; left = content }

-- what was sealed for a block
abbrev pub sealed_at : Array → ℕ → List ℕ → List ℕ
sealed_at a block content = part (format_at a).data_length content (index_of a block)

-- the events on two blocks of a stripe sealed from this content, and the answers: new data for the other block, read into a buffer
abbrev pub worked_events : Array → ℕ → ℕ → List ℕ → List ℕ → List ℕ → List Event
worked_events a block other content new out =
    lose (member_of a block) (stray a (stripe_of a block) (sealed_at a block content)) ∷ update other new ∷ read block out ∷ read other out
    ∷ rebuild (member_of a block) ∷ lose (member_of a other) (stray a (stripe_of a block) new) ∷ read other out ∷ read block out ∷ []

abbrev pub worked_answers : Array → ℕ → List ℕ → List ℕ → List Answer
worked_answers a block content new =
    unanswered ∷ numbered 0 ∷ read_rebuilt (sealed_at a block content) ∷ read_stored new
    ∷ numbered 0 ∷ unanswered ∷ read_rebuilt new ∷ read_stored (sealed_at a block content) ∷ []

module _ (a : Array) (block other : ℕ) (sound : SoundStripe a (stripe_of a block)) (small : a.volume < 256) (two : block ≢ other) (beside : stripe_of a other ≡ stripe_of a block)
    (content new out : List ℕ) (long : length content ≡ (format_at a).data_length * data_members a) (size : length new ≡ (format_at a).data_length) (room : length out ≡ (format_at a).data_length) where
  abbrev stripe : ℕ
  stripe = stripe_of a block

  abbrev first : ℕ
  first = member_of a block

  abbrev second : ℕ
  second = member_of a other

  abbrev old : List ℕ
  old = sealed_at a block content

  old-size : length old ≡ (format_at a).data_length
  old-size = length-span ((format_at a).data_length * index_of a block) (format_at a).data_length content (omega (arith, times-next (format_at a).data_length (index_of a block) (data_members a) (index_in_stripe a block sound.array)))

  old-sealed : sealed_data a stripe content first ≡ old
  old-sealed = rw (ne_eqb first (parity_member a stripe) (parity_no_block a block)) (ap (part (format_at a).data_length content) (index_of_member a stripe (index_of a block)))

  -- ---- the losses are such, one at a time

  first_loss : Loss a stripe whole first (stray a stripe old)
  first_loss =
      record {
        alone = refl;
        here = own_below a block sound;
        size = length-stray a stripe sound small old old-size;
        checks_bad = stray-bad a stripe sound small old old-size first (parity_no_block a block);
      }

  second_loss : Loss a stripe whole second (stray a stripe new)
  second_loss =
      record {
        alone = refl;
        here = second_in a block other sound two beside;
        size = length-stray a stripe sound small new size;
        checks_bad = stray-bad a stripe sound small new size second (second_data a block other sound two beside);
      }

  -- the rebuild lies between them
  pub one-at_a_time : OneAtATime a stripe whole (worked_events a block other content new out)
  one-at_a_time = (first_loss, (beside, (refl, (beside, (tt, rw (eq-eqb first first refl) (second_loss, (beside, (refl, tt))))))))

  -- ---- the update beside the loss is accepted

  abbrev damaged : List ℕ
  damaged = with_block (format_at a) (sealed a stripe content) first (stray a stripe old)

  still_good : (m : ℕ) → m < a.members → m ≢ first → stored_good a stripe m damaged ≡ true
  still_good m h ne =
      ap (good a stripe m) (block-kept (format_at a) (sealed a stripe content) first m (stray a stripe old) (length-stray a stripe sound small old old-size) ne)
      ∙ sealed-good a stripe content sound long small m h

  same-guards : stored_guards (format_at a) a.members damaged ≡ stored_guards (format_at a) a.members (sealed a stripe content)
  same-guards =
      subst (λ (l : List ℕ). stored_guards (format_at a) a.members (with_block (format_at a) (sealed a stripe content) first (stray a stripe l)) ≡ stored_guards (format_at a) a.members (sealed a stripe content))
      old-sealed
      (stray-guards a stripe first content sound small long (own_below a block sound) (parity_no_block a block) (ap length old-sealed ∙ old-size))

  accepted-beside : update_refusal a other (length new) damaged ≡ 0
  accepted-beside =
      update-beside a other content new damaged (own_block a other (subst (SoundStripe a) (sym beside) sound)) small long size
      (length-sets (sealed a stripe content) ((format_at a).block_length * first) (stray a stripe old) ∙ length-sealed a stripe content sound long)
      (subst (λ (s : ℕ). stored_good a s second damaged ≡ true) (sym beside) (still_good second (second_in a block other sound two beside) (members-apart a block other sound two beside)))
      (subst (λ (s : ℕ). stored_good a s (parity_member a s) damaged ≡ true) (sym beside)
      (still_good (parity_member a stripe) (parity-below a stripe (omega (arith, sound.array.few))) (λ q. parity_no_block a block (sym q))))
      (subst (λ (s : ℕ). stored_guards (format_at a) a.members damaged ≡ stored_guards (format_at a) a.members (sealed a s content)) (sym beside) same-guards)

  -- ---- what the ledger then says

  kept-old : (number : ℕ) → number ≡ 0 → get_or (cond (eqb number 0) (set (opened a content) (index_of a other) new) (opened a content)) (index_of a block) [] ≡ old
  kept-old number e =
      let parts = part (format_at a).data_length content in
      rw (eq-eqb number 0 e)
      (get_or-set_other (opened a content) (index_of a other) (index_of a block) new [] (λ q. indices_apart a block other sound two beside (sym q)) ∙ get_or-table (data_members a) parts [] (index_of a block) (index_in_stripe a block sound.array))

  kept_new : (number : ℕ) → number ≡ 0 → get_or (cond (eqb number 0) (set (opened a content) (index_of a other) new) (opened a content)) (index_of a other) [] ≡ new
  kept_new number e =
      rw (eq-eqb number 0 e) (get_or-set_same (opened a content) (index_of a other) new [] (rw (length-table (data_members a) (part (format_at a).data_length content)) (index_in_stripe a other sound.array)))

  read_done : (contents : List (List ℕ)) (s : Standing) (b : ℕ) (f : Bool) (l : List ℕ) → is_lost s (member_of a b) ≡ f → get_or contents (index_of a b) [] ≡ l
      → read_kept a contents s b out ≡ record { numbers = 1 ∷ 0 ∷ cond f 1 0 ∷ []; left = l }
  read_done contents s b f l e g = rw (eq-eqb (length out) (format_at a).data_length room, e, g)

  first_is : eqb first first ≡ true
  first_is = eq-eqb first first refl

  cons : {x y : Answer} {xs ys : List Answer} → x ≡ y → xs ≡ ys → x ∷ xs ≡ y ∷ ys
  cons e f = ap₂ (λ (x : Answer) (xs : List Answer). x ∷ xs) e f

  -- no events are left, and so no answers
  none_left : {bytes : List ℕ} {answers : List Answer} {last : List ℕ} → LifeRun a stripe bytes [] answers last → answers ≡ []
  none_left ended = refl

  pub every_run : {answers : List Answer} {last : List ℕ} → LifeRun a stripe (sealed a stripe content) (worked_events a block other content new out) answers last → answers ≡ worked_answers a block content new
  every_run run = listed run (run-kept a stripe sound small run (opened a content) whole one-at_a_time (sealed-stands a stripe content sound long)).0
    where
      listed : {answers : List Answer} {last : List ℕ} → LifeRun a stripe (sealed a stripe content) (worked_events a block other content new out) answers last → AllAsKept a (opened a content) whole (worked_events a block other content new out) answers → answers ≡ worked_answers a block content new
      listed (lost (updated number e f (served r₁ p₁ q₁ (served r₂ p₂ q₂ (rebuilt n₃ p₃ q₃ (lost (served r₄ p₄ q₄ (served r₅ p₅ q₅ tail)))))))) kept =
          let done : number ≡ 0 = e ∙ accepted-beside in
          let contents = cond (eqb number 0) (set (opened a content) (index_of a other) new) (opened a content) in
          let answers = kept.1.1 in
          cons refl (cons (ap numbered done)
          (cons (answers.0 ∙ read_done contents (lacks first) block true old first_is (kept-old number done))
          (cons (answers.1.0 ∙ read_done contents (lacks first) other false new (ne_eqb second first (members-apart a block other sound two beside)) (kept_new number done))
          (cons (answers.1.1.0 ∙ rw (lt-ltb first a.members (own_below a block sound), first_is))
          (cons refl
          (cons (answers.1.1.1.1.0 ∙ read_done contents (lacks second) other true new (eq-eqb second second refl) (kept_new number done))
          (cons (answers.1.1.1.1.1.0 ∙ read_done contents (lacks second) block false old (ne_eqb first second (λ q. members-apart a block other sound two beside (sym q))) (kept-old number done)) (none_left tail))))))))
