-- An accepted start: its numbers are in range, and it leaves what follows from a history with nothing in it.
-- Assumes nothing.
use mathlib.Core.Path.{◌≡◌, refl, sym, subst}
use mathlib.Core.List.{List}
use Prim.Native.Nat.{ℕ, zero, suc}
use native.Mathlib.Omega.{arith}
use lib.ListN.{length, replicate, length-replicate, get_or-replicate}
use Rattle.format.proofs.Laws.{start-narrow}
use Rattle.format.specs.Formats.{most_tags}
use Rattle.layout.specs.Answers.{after}
use Rattle.layout.specs.Arrays.{stripe_refusal}
use Rattle.layout.specs.declared.Array.{Array}
use Rattle.layout.proofs.Ranges.{stripe_sound}
use Rattle.tag.specs.Blocks.{format_at}
use Rattle.scan.specs.declared.Scan.{Scan}
use Rattle.scan.specs.History.{begun}
use Rattle.scan.specs.Scans.{start_refusal, empty_scan, start_state, start_work}
use Rattle.scan.specs.Holding.{Follows, Holds}
use Rattle.scan.proofs.Registers.{registers-empty}
use Rattle.scan.proofs.Follows.{fresh-follows}

after_none : (x y : ℕ) → after x y ≡ 0 → x ≡ 0
after_none zero y e = refl
after_none (suc x) y e = e

module _ (a : Array) (stripe : ℕ) (old : List ℕ) (accepted : start_refusal a stripe (length old) ≡ 0) where
  pub start_sound : stripe_refusal a stripe ≡ 0
  unfolding start_refusal
  start_sound = after_none (stripe_refusal a stripe) _ accepted

  pub start-holds : {s : Scan} {w : List ℕ} → s ≡ start_state a stripe (length old) → w ≡ start_work a stripe old → Holds a stripe s w (begun a.members)
  unfolding start_state start_work empty_scan
  start-holds e f =
      rw (e, f, accepted)
      record {
        array = refl;
        place = refl;
        values = length-replicate {A = ℕ} 16 (format_at a).start;
        narrow = λ m h. rw (get_or-replicate 16 m (format_at a).start 0 h) (start-narrow a.method);
        waiters = refl;
        follows =
            subst (λ (registers : List ℕ). Follows (format_at a) a.members (record { at = replicate 16 0; register = registers; tag = replicate most_tags 0; work = replicate (format_at a).data_length 0 }) (begun a.members))
            (sym (registers-empty a stripe))
            (fresh-follows (format_at a) 16 most_tags a.members (stripe_sound a stripe start_sound).array.many (let F = format_at a in omega arith));
      }
