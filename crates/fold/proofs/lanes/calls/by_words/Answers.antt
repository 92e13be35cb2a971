-- `fold::lanes::calls::by_words` meets its contract. Assumes nothing.
use mathlib.Core.Path.{◌≡◌, sym, ap, ap₂, ◌∙◌}
use mathlib.Core.List.{List, []}
use Prim.Native.Nat.{ℕ, ◌+◌, ◌-◌, ◌*◌, ◌/◌, ◌≤◌}
use native.Mathlib.Omega.{arith}
use lib.ListN.{length, get_or, take, drop, length-drop}
use lib.Seq.{take_all, drop-drop}
use Rattle.std.specs.Simd.{first_chunks}
use Rattle.crc.specs.Guard.{run}
use Rattle.words.specs.Words.{rest}
use Rattle.fold.proofs.Wordwise.{word_first, word-more, chunk-at}
use borrow.Author.Rules.{rules}
use Rattle.fold.proofs.lanes.calls.by_words.Goals as goal

-- the bytes after the first eight
after_first : (b : List ℕ) → take (length b - 8) (drop 8 b) ≡ drop 8 b
after_first b = take_all (length b - 8) (drop 8 b) (rw (length-drop 8 b) (omega arith))

pub loop-next-init : goal.loop-next-init
loop-next-init c =
    let a = c.args in
    word_first a.register c.added-word.result c.lead.result a.bytes.now (search rules) (search rules) c.added-word.ensures c.lead.ensures

pub loop-next-preserved : goal.loop-next-preserved
loop-next-preserved c =
    let at = c.loop-next in
    let i = at.next-index in
    let bytes = c.args.bytes.now in
    let left = drop 8 bytes in
    let cut = c.as_chunks.ensures in
    let chunks = c.as_chunks.result.0.now in
    let v = c.past_word-word.result in
    let long : length left ≡ length bytes - 8 = length-drop 8 bytes in
    let few : length chunks ≡ length left / 8 = cut.front_len ∙ ap (λ (l : List ℕ). length l / 8) (after_first bytes) in
    let front : chunks ≡ first_chunks 8 (length left / 8) left = cut.front ∙ ap (λ (l : List ℕ). first_chunks 8 (length l / 8) l) (after_first bytes) in
    let chunk : get_or chunks i [] ≡ take 8 (drop (8 * i) left) =
    ap (λ (cs : List (List ℕ)). get_or cs i []) front ∙ chunk-at 8 (length left / 8) left i [] (omega (arith, few, c.loop-next-test.true)) in
    let room : 8 ≤ length (drop (8 * i) left) = rw (length-drop (8 * i) left) (omega (arith, few, c.loop-next-test.true)) in
    let next : 8 * i + 8 ≡ 8 * (i + 1) = omega arith in
    ap (run (rest v)) (sym (drop-drop 8 (8 * i) left ∙ ap (λ (k : ℕ). drop k left) next))
    ∙ word-more v at.word c.added.result (drop (8 * i) left) (get_or chunks i []) room chunk c.past_word-word.ensures c.added.ensures
    ∙ at.invariant

pub returns : goal.returns
returns c =
    let at = c.loop-next in
    let i = at.next-index in
    let bytes = c.args.bytes.now in
    let left = drop 8 bytes in
    let cut = c.as_chunks.ensures in
    let few : length c.as_chunks.result.0.now ≡ length left / 8 = cut.front_len ∙ ap (λ (l : List ℕ). length l / 8) (after_first bytes) in
    let all : length left / 8 * 8 ≡ 8 * i = omega (arith, few, at.auto.next-index-end, c.loop-next-test.false) in
    let back : c.as_chunks.result.1.now ≡ drop (8 * i) left =
    cut.back ∙ ap (λ (l : List ℕ). drop (length l / 8 * 8) l) (after_first bytes) ∙ ap (λ (k : ℕ). drop k left) all in
    c.by_few.ensures ∙ ap₂ run c.left.ensures back ∙ at.invariant
