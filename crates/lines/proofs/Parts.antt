-- The text of a line's parts: of some, and of one more. Assumes nothing.
use Rattle.std.proofs.Common.{◌≡◌, ℕ, ◌+◌, ◌<◌, ◌≤◌, List, [], ◌∷◌, ◌++◌, length, get_or, take, drop, refl, sym, ap, ◌∙◌, append_assoc, append-nil, add-one, arith, length-append}
use Rattle.std.proofs.Math.Seq.{take-suc}
use Rattle.std.proofs.lemmas.List.{take-append-drop}
use Rattle.lines.specs.declared.Part.{Part}
use Rattle.lines.specs.Parts.{part_text, text}

text-append : (l m : List Part) → text (l ++ m) ≡ text l ++ text m
text-append [] m = refl
text-append (part ∷ l) m = rw (text-append l m, append_assoc)

module _ (parts : List Part) (i : ℕ) (d : Part) {part : Part} (is : get_or parts i d ≡ part) (more : i < length parts) where
  pub text_more : text (take (i + 1) parts) ≡ text (take i parts) ++ part_text part
  text_more = rw (add-one, take-suc parts i d, is, text-append, append-nil)

  pub text_within : length (text (take i parts)) + length (part_text part) ≤ length (text parts)
  text_within =
      let whole = ap text (sym (take-append-drop (i + 1) parts)) ∙ text-append (take (i + 1) parts) (drop (i + 1) parts) in
      rw (whole, length-append, text_more, length-append) (omega arith)
