-- The content of a stripe with one part replaced: that part is the new one, the others are as they were, and the parity is the old one with
-- the old part taken out and the new one put in. Assumes nothing.
use mathlib.Core.Path.{◌≡◌, ap, ap₂, ◌∙◌}
use mathlib.Core.Logic.{◌≢◌}
use mathlib.Core.List.{List, []}
use Prim.Native.Nat.{ℕ, ◌+◌, ◌*◌, ◌≤◌, ◌<◌}
use native.Mathlib.Decide.{dec_lt}
use native.Mathlib.Omega.{arith}
use lib.ListN.{length, replicate}
use lib.Seq.{sets}
use Rattle.xor.specs.Xors.{xors, add_all}
use Rattle.xor.proofs.Combination.{add_all-set}
use Rattle.layout.specs.Arrays.{data_members}
use Rattle.layout.specs.declared.Array.{Array}
use Rattle.format.proofs.Sizes.{times-next}
use Rattle.tag.specs.Blocks.{format_at}
use Rattle.stripe.specs.Tables.{table, part}
use Rattle.stripe.specs.Jobs.{parity_of}
use Rattle.stripe.proofs.Tables.{length-table, get_or-table}
use Rattle.stripe.proofs.Blocks.{span-sets-same, span-sets-below, span-sets_above}
use Rattle.stripe.proofs.OneEntry.{one_entry_set}

-- content in which the part at an index is replaced
abbrev pub with_part : ℕ → List ℕ → ℕ → List ℕ → List ℕ
with_part size content i new = sets content (size * i) new

module _ (size : ℕ) (content : List ℕ) (i : ℕ) (new : List ℕ) (long : length new ≡ size) where
  pub part-new : size * i + size ≤ length content → part size (with_part size content i new) i ≡ new
  part-new room = span-sets-same content (size * i) size new long room

  pub part-kept : (k : ℕ) → k ≢ i → part size (with_part size content i new) k ≡ part size content k
  part-kept k ne = by_order (dec_lt k i)
    where
      by_order : Dec (k < i) → part size (with_part size content i new) k ≡ part size content k
      by_order (yes l) = span-sets-below content (size * k) size (size * i) new (times-next size k i l)
      by_order (no l) =
          let behind : i < k = omega arith in
          span-sets_above content (size * k) size (size * i) new (omega (arith, times-next size i k behind))

pub parity-moved : (a : Array) (content : List ℕ) (i : ℕ) (new : List ℕ) → length content ≡ (format_at a).data_length * data_members a → length new ≡ (format_at a).data_length → i < data_members a
    → parity_of a (with_part (format_at a).data_length content i new) ≡ xors (xors (parity_of a content) (part (format_at a).data_length content i)) new
parity-moved a content i new whole long here =
    let size = (format_at a).data_length in
    let d = data_members a in
    let zeros : List ℕ = replicate size 0 in
    let old = table d (part size content) in
    let own : part size (with_part size content i new) i ≡ new = part-new size content i new long (omega (arith, times-next size i d here)) in
    ap (add_all zeros) (one_entry_set d i (part size (with_part size content i new)) (part size content) here (λ k h ne. part-kept size content i new long k ne))
    ∙ add_all-set zeros old i (part size (with_part size content i new) i) (rw length-table here)
    ∙ ap₂ (λ (x y : List ℕ). xors (xors (add_all zeros old) x) y) (get_or-table d (part size content) [] i here) own
