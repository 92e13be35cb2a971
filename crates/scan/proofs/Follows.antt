-- What is held follows from the history when nothing has been taken.
-- Assumes nothing.
use mathlib.Core.Path.{◌≡◌, refl, sym, ap, ◌∙◌}
use mathlib.Core.List.{List, [], ◌∷◌, map}
use Prim.Native.Nat.{ℕ, zero, suc, ◌+◌, ◌*◌, ◌≤◌, ◌<◌, zero-le}
use native.Mathlib.Nat.{mul-le-mul_left, le_trans}
use native.Mathlib.Decide.{dec_lt}
use native.Mathlib.Omega.{arith}
use lib.ListN.{length, get_or, take, replicate, length-replicate, get_or-replicate, get_or-eq_default}
use lib.Seq.{take-nil, drop-nil}
use Rattle.xor.specs.Xors.{add_all}
use Rattle.xor.proofs.Lists.{xors-nil}
use Rattle.format.specs.Formats.{Format}
use Rattle.tag.specs.Blocks.{data_of, tag_of}
use Rattle.stripe.specs.Formats.{register_of}
use Rattle.scan.specs.History.{begun}
use Rattle.scan.specs.Holding.{Follows}
use Rattle.scan.specs.Machines.{fresh}

map-replicate : {A B : Type 0} (f : A → B) (n : ℕ) (x : A) → map f (replicate n x) ≡ replicate n (f x)
map-replicate f zero x = refl
map-replicate {B = B} f (suc n) x = ap (λ (l : List B). f x ∷ l) (map-replicate f n x)

take-replicate : {A : Type 0} (n size : ℕ) (x : A) → n ≤ size → take n (replicate size x) ≡ replicate n x
take-replicate zero size x h = refl
take-replicate (suc n) zero x h = absurd (omega arith)
take-replicate {A = A} (suc n) (suc size) x h = ap (λ (l : List A). x ∷ l) (take-replicate n size x (omega arith))

get_or-none : {A : Type 0} (n i : ℕ) (x : A) → get_or (replicate n x) i x ≡ x
get_or-none {A = A} n i x = go (dec_lt i n)
  where
    go : Dec (i < n) → get_or (replicate n x) i x ≡ x
    go (yes h) = get_or-replicate n i x x h
    go (no h) = get_or-eq_default (replicate n x) x {n = i} (rw (length-replicate {A = A} n x) (omega arith))

add_all-none : (a : List ℕ) (n : ℕ) → add_all a (replicate n []) ≡ a
unfolding add_all
add_all-none a zero = refl
add_all-none a (suc n) = ap (λ (l : List ℕ). add_all l (replicate n [])) (xors-nil a) ∙ add_all-none a n

pub fresh-follows : (F : Format) (size room n : ℕ) → n ≤ size → F.tag_length * size ≤ room → Follows F n (fresh F size room) (begun n)
unfolding data_of tag_of
fresh-follows F size room n h enough =
    record {
      members = length-replicate n [];
      at_long = rw (length-replicate {A = ℕ} size 0) h;
      register-long = rw (length-replicate size F.start) h;
      tag-long = rw (length-replicate {A = ℕ} room 0) (le_trans (mul-le-mul_left F.tag_length h) enough);
      fits = λ i. rw (get_or-none {A = List ℕ} n i []) zero-le;
      at_is = take-replicate n size 0 h ∙ sym (map-replicate length n []);
      register_is = take-replicate n size F.start h ∙ ap (replicate n) (sym none-run) ∙ sym (map-replicate (register_of F) n []);
      tag_is = λ i hi j hj. rw (get_or-none {A = List ℕ} n i [], drop-nil) (get_or-none room (F.tag_length * i + j) 0);
      work_is = sym (ap (add_all (replicate F.data_length 0)) none_added ∙ add_all-none (replicate F.data_length 0) n);
    }
  where
    none-run : register_of F [] ≡ F.start
    none-run = ap (F.advance 0 F.start) (take-nil F.data_length) ∙ F.advance-nil 0 F.start

    none_added : map (data_of F) (replicate n []) ≡ replicate n []
    none_added = map-replicate (data_of F) n [] ∙ ap (replicate n) (take-nil F.data_length)
