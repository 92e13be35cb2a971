-- The blocks of a stripe: what stands in each after one is written, and that they are all there is.
-- Assumes nothing.
use mathlib.Core.Path.{◌≡◌, refl, sym, ap, ap₂, ◌∙◌}
use mathlib.Core.Logic.{◌≢◌}
use mathlib.Core.List.{List, [], ◌∷◌, ◌++◌}
use Prim.Native.Nat.{ℕ, zero, suc, ◌+◌, ◌*◌, ◌≤◌, ◌<◌}
use native.Mathlib.Nat.{zero-add, suc-add, add_comm, mul-zero, mul-suc, le_of_suc-le-suc, not-suc-le-zero, zero-lt-suc}
use native.Mathlib.Decide.{dec_lt}
use native.Mathlib.Omega.{arith}
use lib.ListN.{length, take, drop, set, length-append, length-take, length-drop, take-append-drop}
use lib.Seq.{take-nil, sets, sets-eq, set_comm, take-set-le, drop-set-lt, take_at, drop_at, drop-append-add, drop-append-le, drop-drop}
use Rattle.layout.specs.Places.{owner_refusal}
use Rattle.layout.specs.declared.Array.{Array}
use Rattle.format.specs.Formats.{Format}
use Rattle.format.proofs.Sizes.{times-next}
use Rattle.tag.specs.Blocks.{format_at}
use Rattle.tag.specs.Tags.{due, due_at, bytes_by, tag_bytes, tagged_by}
use Rattle.tag.specs.declared.Fields.{Fields}
use Rattle.tag.proofs.Owed.{due_somewhere}
use Rattle.stripe.specs.Tables.{table, joined, span}
use Rattle.stripe.specs.Stripes.{block_of}
use Rattle.stripe.specs.Jobs.{with_block}
use Rattle.copy.proofs.Puts.{sets-append}
use Rattle.stripe.proofs.Tables.{table_ext}

pub drop-take : (from size : ℕ) (l : List ℕ) → drop from (take (from + size) l) ≡ take size (drop from l)
drop-take zero size l = rw zero-add
drop-take (suc from) size [] = ap (drop (suc from)) (take-nil (suc from + size)) ∙ sym (take-nil size)
drop-take (suc from) size (x ∷ l) = rw suc-add (drop-take from size l)

-- ---- a run written over others

pub take-sets : (n : ℕ) (l : List ℕ) (at : ℕ) (vs : List ℕ) → n ≤ at → take n (sets l at vs) ≡ take n l
take-sets n l at [] h = refl
take-sets n l at (v ∷ vs) h = take-sets n (set l at v) (suc at) vs (omega arith) ∙ take-set-le n l at v h

pub drop-sets : (n : ℕ) (l : List ℕ) (at : ℕ) (vs : List ℕ) → at + length vs ≤ n → drop n (sets l at vs) ≡ drop n l
drop-sets n l at [] h = refl
drop-sets n l at (v ∷ vs) h = drop-sets n (set l at v) (suc at) vs (omega arith) ∙ drop-set-lt n l at v (omega arith)

pub span-sets-same : (l : List ℕ) (at size : ℕ) (vs : List ℕ) → length vs ≡ size → at + size ≤ length l → span at size (sets l at vs) ≡ vs
unfolding span
span-sets-same l at size vs long h =
    let front : length (take at l) ≡ at = simp length-take (omega arith) in
    ap (λ (x : List ℕ). take size (drop at x)) (sets-eq vs l at (omega arith))
    ∙ ap (take size) (drop-append-le at (take at l ++ vs) (drop (at + length vs) l) (simp length-append (omega arith))
    ∙ ap (λ (x : List ℕ). x ++ drop (at + length vs) l) (drop_at (take at l) vs at front))
    ∙ take_at vs (drop (at + length vs) l) size long

pub span-sets-below : (l : List ℕ) (from size at : ℕ) (vs : List ℕ) → from + size ≤ at → span from size (sets l at vs) ≡ span from size l
unfolding span
span-sets-below l from size at vs h =
    sym (drop-take from size (sets l at vs)) ∙ ap (drop from) (take-sets (from + size) l at vs h) ∙ drop-take from size l

pub span-sets_above : (l : List ℕ) (from size at : ℕ) (vs : List ℕ) → at + length vs ≤ from → span from size (sets l at vs) ≡ span from size l
unfolding span
span-sets_above l from size at vs h = ap (take size) (drop-sets from l at vs h)

-- runs that lie apart may be written in either order
set-sets : (l : List ℕ) (i v at : ℕ) (ws : List ℕ) → i < at → sets (set l i v) at ws ≡ set (sets l at ws) i v
set-sets l i v at [] h = refl
set-sets l i v at (w ∷ ws) h =
    ap (λ (x : List ℕ). sets x (suc at) ws) (set_comm l i at v w (λ e. omega (arith, e, h))) ∙ set-sets (set l at w) i v (suc at) ws (omega arith)

sets-sets : (l : List ℕ) (at : ℕ) (vs : List ℕ) (from : ℕ) (ws : List ℕ) → at + length vs ≤ from → sets (sets l at vs) from ws ≡ sets (sets l from ws) at vs
sets-sets l at [] from ws h = refl
sets-sets l at (v ∷ vs) from ws h =
    sets-sets (set l at v) (suc at) vs from ws (omega arith) ∙ ap (λ (x : List ℕ). sets x (suc at) vs) (set-sets l at v from ws (omega arith))

-- ---- a block written into a stripe

pub block_written : (F : Format) (bytes : List ℕ) (m : ℕ) (block : List ℕ) → length block ≡ F.block_length → F.block_length * m + F.block_length ≤ length bytes → block_of F (with_block F bytes m block) m ≡ block
block_written F bytes m block long h = span-sets-same bytes (F.block_length * m) F.block_length block long h

pub block-kept : (F : Format) (bytes : List ℕ) (m k : ℕ) (block : List ℕ) → length block ≡ F.block_length → k ≢ m → block_of F (with_block F bytes m block) k ≡ block_of F bytes k
block-kept F bytes m k block long ne = go (dec_lt k m)
  where
    go : Dec (k < m) → block_of F (with_block F bytes m block) k ≡ block_of F bytes k
    go (yes l) = span-sets-below bytes (F.block_length * k) F.block_length (F.block_length * m) block (times-next F.block_length k m l)
    go (no l) =
        let after : m < k = omega arith in
        span-sets_above bytes (F.block_length * k) F.block_length (F.block_length * m) block (omega (arith, times-next F.block_length m k after))

-- two blocks may be written in either order
pub blocks_swap : (F : Format) (bytes : List ℕ) (m k : ℕ) (x y : List ℕ) → length x ≡ F.block_length → length y ≡ F.block_length → m ≢ k
    → with_block F (with_block F bytes m x) k y ≡ with_block F (with_block F bytes k y) m x
blocks_swap F bytes m k x y lx ly ne = by_order (dec_lt m k)
  where
    by_order : Dec (m < k) → with_block F (with_block F bytes m x) k y ≡ with_block F (with_block F bytes k y) m x
    by_order (yes l) = sets-sets bytes (F.block_length * m) x (F.block_length * k) y (omega (arith, times-next F.block_length m k l))
    by_order (no l) =
        let after : k < m = omega arith in
        sym (sets-sets bytes (F.block_length * k) y (F.block_length * m) x (omega (arith, times-next F.block_length k m after)))

-- written as the code writes it: the tag due there in its place
pub tag_in_place : (a : Array) (stripe m g to : ℕ) (f : Fields) (bytes last : List ℕ) → owner_refusal a stripe m ≡ 0
    → (format_at a).block_length * m + (format_at a).block_length ≤ length bytes → f ≡ due_at a stripe m g
    → to ≡ (format_at a).block_length * m + (format_at a).data_length → (quarter : ℕ) → quarter ≡ (format_at a).quarter → last ≡ sets bytes to (bytes_by quarter f)
    → last ≡ sets bytes ((format_at a).block_length * m + (format_at a).data_length) (tag_bytes (format_at a) (due a stripe m g))
unfolding tag_bytes
tag_in_place a stripe m g to f bytes last place room ef there quarter q e =
    let F = format_at a in
    e ∙ ap (λ (n : ℕ). sets bytes to (bytes_by n f)) q ∙ ap₂ (λ (k : ℕ) (x : Fields). sets bytes k (tag_bytes F x)) there (ef ∙ due_somewhere a stripe m g place)

-- the data, then the tag
pub data_then_tag : (a : Array) (stripe m g : ℕ) (bytes once twice content : List ℕ) → length content ≡ (format_at a).data_length
    → once ≡ sets bytes ((format_at a).block_length * m) content
    → twice ≡ sets once ((format_at a).block_length * m + (format_at a).data_length) (tag_bytes (format_at a) (due a stripe m g))
    → twice ≡ with_block (format_at a) bytes m (tagged_by a stripe m g content)
unfolding tagged_by
data_then_tag a stripe m g bytes once twice content long e₁ e₂ =
    let F = format_at a in
    let tag = tag_bytes F (due a stripe m g) in
    e₂ ∙ ap₂ (λ (l : List ℕ) (k : ℕ). sets l (F.block_length * m + k) tag) e₁ (sym long) ∙ sets-append bytes (F.block_length * m) content tag

-- ---- blocks joined

pub span-joined : (size n : ℕ) (f : ℕ → List ℕ) (m : ℕ) → ((i : ℕ) → i < n → length (f i) ≡ size) → m < n → span (size * m) size (joined (table n f)) ≡ f m
unfolding span
span-joined size zero f m h l = absurd (not-suc-le-zero l)
span-joined size (suc n) f zero h l = rw mul-zero (take_at (f 0) (joined (table n (λ i. f (suc i)))) size (h 0 l))
span-joined size (suc n) f (suc m) h l =
    let rest = joined (table n (λ i. f (suc i))) in
    let ahead : size * suc m ≡ length (f 0) + size * m = mul-suc size m ∙ omega (arith, h 0 (zero-lt-suc n)) in
    ap (λ (k : ℕ). take size (drop k (f 0 ++ rest))) ahead ∙ ap (take size) (drop-append-add (f 0) rest (size * m))
    ∙ span-joined size n (λ i. f (suc i)) m (λ i p. h (suc i) (omega arith)) (le_of_suc-le-suc l)

pub length-joined : (size n : ℕ) (f : ℕ → List ℕ) → ((i : ℕ) → i < n → length (f i) ≡ size) → length (joined (table n f)) ≡ size * n
length-joined size zero f h = sym (mul-zero size)
length-joined size (suc n) f h =
    length-append (f 0) (joined (table n (λ i. f (suc i)))) ∙ ap₂ (λ (x y : ℕ). x + y) (h 0 (zero-lt-suc n)) (length-joined size n (λ i. f (suc i)) (λ i l. h (suc i) (omega arith)))
    ∙ omega (arith, mul-suc size n)

-- a run of n parts is its parts, joined
pub parts_joined : (size n : ℕ) (l : List ℕ) → length l ≡ size * n → joined (table n (λ m. span (size * m) size l)) ≡ l
unfolding span
parts_joined size zero [] h = refl
parts_joined size zero (x ∷ l) h = absurd (omega (arith, mul-zero size))
parts_joined size (suc n) l h =
    let first : take size (drop (size * 0) l) ≡ take size l = rw mul-zero in
    ap₂ (λ (x y : List ℕ). x ++ y) first
    (ap joined (table_ext n (λ m. take size (drop (size * suc m) l)) (λ m. take size (drop (size * m) (drop size l)))
    (λ m p. ap (take size) (ap (λ (k : ℕ). drop k l) (mul-suc size m ∙ add_comm (size * m) size) ∙ sym (drop-drop (size * m) size l))))
    ∙ parts_joined size n (drop size l) (length-drop size l ∙ omega (arith, mul-suc size n)))
    ∙ take-append-drop size l

-- two stripes with the same blocks are one
pub same_blocks : (F : Format) (n : ℕ) (a b : List ℕ) → length a ≡ F.block_length * n → length b ≡ F.block_length * n → ((m : ℕ) → m < n → block_of F a m ≡ block_of F b m) → a ≡ b
same_blocks F n a b ha hb h = sym (parts_joined F.block_length n a ha) ∙ ap joined (table_ext n (block_of F a) (block_of F b) h) ∙ parts_joined F.block_length n b hb
