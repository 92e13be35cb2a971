-- The worked life in an array of three members and one stripe, by method 1: blocks 0 and 1, on members 1 and 2, beside the parity on 0.
-- What the worked lives ask for can be met, and such a life is lived. Assumes nothing.
use mathlib.Core.Path.{◌≡◌, refl, ◌∙◌}
use mathlib.Core.Logic.{◌≢◌}
use mathlib.Core.List.{List, [], ◌∷◌}
use Prim.Native.Nat.{ℕ, ◌*◌}
use native.Mathlib.Nat.{mul-one}
use native.Mathlib.Omega.{arith}
use lib.Dec.{lit<}
use lib.ListN.{length, replicate, length-replicate}
use Rattle.layout.specs.Arrays.{array_of, array_refusal}
use Rattle.layout.specs.Places.{parity_member, stripe_of, index_of, member_of, member_at}
use Rattle.layout.specs.Ranges.{SoundStripe}
use Rattle.layout.specs.declared.Array.{Array}
use Rattle.layout.proofs.Ranges.{array_sound}
use Rattle.layout.proofs.Bijection.{parity_no_block}
use Rattle.tag.specs.Blocks.{format_at}
use Rattle.stripe.specs.Jobs.{sealed}
use Rattle.life.specs.Events.{Event, Answer, unanswered}
use Rattle.life.specs.Runs.{LifeRun, Lived}
use Rattle.life.proofs.SomeLife.{some-life}
use Rattle.life.proofs.Strays.{stray, length-stray, stray-bad}
use Rattle.life.proofs.TwoBlocks.{second_data}
use Rattle.life.proofs.WorkedLife.{worked_events, worked_answers, every_run}
use Rattle.life.proofs.BrokenLives.{lost_twice, refused_for_damage}

abbrev pub three : Array
three = array_of 3 1 7 1 1

pub where_they_lie : (parity_member three 0 ≡ 0) × (member_of three 0 ≡ 1) × (member_of three 1 ≡ 2)
unfolding parity_member stripe_of index_of member_at
where_they_lie = (refl, refl, refl)

sound : SoundStripe three (stripe_of three 0)
unfolding array_refusal stripe_of
sound = record { array = array_sound three refl; here = lit< tt }

beside : stripe_of three 1 ≡ stripe_of three 0
unfolding stripe_of
beside = refl

two : ◌≢◌ {A = ℕ} 0 1
two = omega arith

-- sealed with zeros, updated with ones, read into a buffer of twos
abbrev pub run_of : ℕ → ℕ → List ℕ
run_of parts byte = replicate ((format_at three).data_length * parts) byte

abbrev pub life : Lived three (stripe_of three 0) (sealed three (stripe_of three 0) (run_of 2 0)) (worked_events three 0 1 (run_of 2 0) (run_of 1 1) (run_of 1 2))
life = some-life three (stripe_of three 0) (sealed three (stripe_of three 0) (run_of 2 0)) (worked_events three 0 1 (run_of 2 0) (run_of 1 1) (run_of 1 2))

length_run : (parts byte : ℕ) → length (run_of parts byte) ≡ (format_at three).data_length * parts
length_run parts byte = length-replicate ((format_at three).data_length * parts) byte

pub lived : life.answers ≡ worked_answers three 0 (run_of 2 0) (run_of 1 1)
lived =
    every_run three 0 1 sound (lit< tt) two beside (run_of 2 0) (run_of 1 1) (run_of 1 2) (length_run 2 0) (length_run 1 1 ∙ mul-one (format_at three).data_length) (length_run 1 2 ∙ mul-one (format_at three).data_length) life.run

-- both blocks lost, each to its own data under the parity's tag: the read of the first is refused
abbrev pub lost-twice : List Event
lost-twice = lost_twice three 0 1 (stray three (stripe_of three 0) (run_of 1 0)) (stray three (stripe_of three 0) (run_of 1 0)) (run_of 1 2)

pub refused : {answers : List Answer} {last : List ℕ} → LifeRun three (stripe_of three 0) (sealed three (stripe_of three 0) (run_of 2 0)) lost-twice answers last
    → answers ≡ unanswered ∷ unanswered ∷ record { numbers = 0 ∷ 9 ∷ 0 ∷ []; left = run_of 1 2 } ∷ []
refused =
    let bytes = run_of 1 0 in
    let block = stray three (stripe_of three 0) bytes in
    let long = length-stray three (stripe_of three 0) sound (lit< tt) bytes one-part in
    refused_for_damage three 0 sound (run_of 2 0) (run_of 1 2) (length_run 2 0) (length_run 1 2 ∙ mul-one (format_at three).data_length) 1 two beside block block long long
    (stray-bad three (stripe_of three 0) sound (lit< tt) bytes one-part (member_of three 0) (parity_no_block three 0))
    (stray-bad three (stripe_of three 0) sound (lit< tt) bytes one-part (member_of three 1) (second_data three 0 1 sound two beside))
  where
    one-part : length (run_of 1 0) ≡ (format_at three).data_length
    one-part = length_run 1 0 ∙ mul-one (format_at three).data_length
