-- `tag::number_of` is `number_of`, within sixty-four bits. Assumes nothing.
use Rattle.std.proofs.Common.{◌≡◌, ◌%◌, List, ℕ, rules, refl, subst}
use Rattle.std.proofs.lemmas.Fn.{fold_over, slice_gives, fronts}
use Rattle.tag.specs.Numbers.{number_of}
use Rattle.tag.proofs.Numbers.{number-more}
use Rattle.tag.proofs.number_of.Goals as goal

pub returns : goal.returns
unfolding number_of
returns c = subst (λ (l : List ℕ). c.fold.result ≡ number_of l % 18446744073709551616) c.iter.ensures.rest
    (fold_over fronts (λ y. y.now) _ (λ ys n. n ≡ number_of ys % 18446744073709551616) _ (λ ys a x b f' j k. (number-more ys a b x.now j (search rules), search rules))
    _ _ _ _ (slice_gives c.iter.result) refl c.fold.ensures.ran)
