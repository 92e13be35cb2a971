-- A finish by its steps: how each member stands by its register and tag bytes, and the verdict from what the loop over them found.
-- Assumes nothing.
use mathlib.Core.Path.{◌≡◌, refl, sym, ap, ap₂, ◌∙◌}
use mathlib.Core.List.{List, [], ◌∷◌, ◌++◌}
use mathlib.Core.Logic.{◌≢◌}
use Prim.Native.Nat.{ℕ, zero, suc, ◌+◌, ◌*◌, ◌≤◌}
use native.Mathlib.Omega.{arith}
use lib.ListN.{length, take, drop, length-take}
use lib.Seq.{get_or-take}
use Rattle.format.specs.Formats.{Format}
use Rattle.layout.specs.Answers.{answer}
use Rattle.layout.specs.Places.{owner_refusal}
use Rattle.layout.specs.declared.Array.{Array}
use Rattle.tag.specs.Numbers.{number_of}
use Rattle.tag.specs.Tags.{found, guard_due, due_at, expected, standing}
use Rattle.tag.proofs.Within.{found_by_calls}
use Rattle.scan.proofs.Joins.{get_or-map_in}
use Rattle.tag.specs.declared.Fields.{Fields}
use Rattle.tag.proofs.Owed.{due_somewhere}
use Rattle.verdict.specs.Verdicts.{nonzero, says_clean, judged}
use Rattle.stripe.specs.Tables.{table, span}
use Rattle.tag.specs.Blocks.{format_at}
use Rattle.stripe.specs.Formats.{Summary}
use Rattle.stripe.specs.Stripes.{left_of}
use Rattle.stripe.specs.Verdicts.{standing_members, guards_left, torn_places, verdict}
use Rattle.stripe.proofs.Tables.{length-table, get_or-table, table_ext, map-table}
use Rattle.scan.specs.declared.Scan.{Scan}
use Rattle.scan.specs.Scans.{held_summary, register_at, registers_of, finish_refusal, finish_numbers}
use Rattle.scan.specs.Steps.{held_standing, standings_held, held_guards}
use Rattle.scan.proofs.Refusals.{refused_verdict}

-- the fields of a member's tag among those held, as the code reads them
module _ (F : Format) (m at quarter : ℕ) (tags : List ℕ) (here : at ≡ F.tag_length * m) (q : quarter ≡ F.quarter) where
  pub fields-held : (f : Fields) → f.guard ≡ number_of (take quarter (drop at tags)) → f.application ≡ number_of (take quarter (drop (at + quarter) tags))
      → f.reference ≡ number_of (take (2 * quarter) (drop (at + 2 * quarter) tags)) → f ≡ found F (span (F.tag_length * m) F.tag_length tags)
  unfolding span
  fields-held f eg ea er =
      found_by_calls F tags at quarter q f.guard f.application f.reference eg ea er
      ∙ ap (λ (k : ℕ). found F (take F.tag_length (drop k tags))) here

-- one member, by the steps of its check
pub held_by_steps : (a : Array) (stripe m g register : ℕ) (tags : List ℕ) → owner_refusal a stripe m ≡ 0 → (f e : Fields) (how : ℕ) → g ≡ (format_at a).guard_of register
    → f ≡ found (format_at a) (span ((format_at a).tag_length * m) (format_at a).tag_length tags) → e ≡ due_at a stripe m (guard_due a stripe m f.guard g)
    → how ≡ standing (format_at a) f e → how ≡ held_standing a stripe m register tags
unfolding held_standing
held_by_steps a stripe m g register tags place f e how eg is due-there q =
    q
    ∙ ap₂ (standing (format_at a)) is
    (due-there ∙ due_somewhere a stripe m (guard_due a stripe m f.guard g) place ∙ ap₂ (λ (x : Fields) (y : ℕ). expected a stripe m x y) is eg)

-- which places are torn by what is held
torn-held : (F : Format) (n : ℕ) (register tag w : List ℕ) → torn_places F (held_summary F n register tag w) ≡ nonzero (w ++ (guards_left F (held_summary F n register tag w) ∷ []))
unfolding torn_places held_summary
torn-held F n register tag w = refl

module _ (s : Scan) where
  abbrev pub held_as : ℕ → ℕ
  held_as m = held_standing s.array s.stripe m (register_at (format_at s.array) s m) s.tag

  -- the loop over the members, at its end
  pub held_all : (l : List ℕ) (m : ℕ) → m ≡ s.array.members → take m l ≡ table m held_as → take s.array.members l ≡ standings_held s
  unfolding standings_held
  held_all l m h e = ap (λ (n : ℕ). take n l) (sym h) ∙ e ∙ ap (λ (n : ℕ). table n held_as) h

  -- what is held of the stripe, as its summary
  abbrev summary : List ℕ → Summary
  summary w = held_summary (format_at s.array) s.array.members (registers_of (format_at s.array) s) s.tag w

  -- it says the same of the members, and of what is left of their guards
  standing-members-held : (w : List ℕ) → s.array.members ≤ 16 → standing_members s.array s.stripe (summary w) ≡ standings_held s
  unfolding standing_members standings_held held_standing held_summary registers_of
  standing-members-held w few =
      let F = format_at s.array in
      let n = s.array.members in
      table_ext n _ _
      (λ m h.
      ap₂ (λ (t : List ℕ) (g : ℕ). standing F (found F t) (expected s.array s.stripe m (found F t) g))
      (get_or-table n (λ m. span (F.tag_length * m) F.tag_length s.tag) [] m h)
      (get_or-map_in F.guard_of (take n (table 16 (register_at F s))) m 0 0 (rw length-take (omega (arith, length-table 16 (register_at F s))))
      ∙ ap F.guard_of (get_or-take n (table 16 (register_at F s)) m 0 h ∙ get_or-table 16 (register_at F s) 0 m (omega arith))))

  guards-held : (w : List ℕ) → guards_left (format_at s.array) (summary w) ≡ left_of (format_at s.array) (held_guards (format_at s.array) s.array.members s.tag)
  unfolding held_summary held_guards
  guards-held w =
      let F = format_at s.array in
      ap (left_of F) (map-table (λ tag. (found F tag).guard) s.array.members (λ m. span (F.tag_length * m) F.tag_length s.tag))

  module _ (w : List ℕ) where
    pub finish-found : finish_refusal s (length w) ≡ 0 → s.array.members ≤ 16 → (members numbers : List ℕ) (left : ℕ) → members ≡ standings_held s
        → left ≡ left_of (format_at s.array) (held_guards (format_at s.array) s.array.members s.tag)
        → numbers ≡ judged members (nonzero (w ++ (left ∷ []))) → 1 ∷ 0 ∷ numbers ≡ finish_numbers s w
    unfolding finish_numbers
    finish-found none few members numbers left l g e =
        ap (λ (x : List ℕ). 1 ∷ 0 ∷ x) (e ∙ told)
        ∙ sym (ap (λ (k : ℕ). answer k (verdict s.array s.stripe (summary w))) none)
      where
        told : judged members (nonzero (w ++ (left ∷ []))) ≡ verdict s.array s.stripe (summary w)
        told =
            ap₂ (λ (x : List ℕ) (y : ℕ). judged x (nonzero (w ++ (y ∷ [])))) (l ∙ sym (standing-members-held w few)) (g ∙ sym (guards-held w))
            ∙ sym (ap (judged (standing_members s.array s.stripe (summary w))) (torn-held (format_at s.array) s.array.members (registers_of (format_at s.array) s) s.tag w))

    pub finish_refused : finish_refusal s (length w) ≢ 0 → finish_numbers s w ≡ 0 ∷ finish_refusal s (length w) ∷ says_clean
    unfolding finish_numbers
    finish_refused = go (finish_refusal s (length w)) (summary w)
      where
        go : (number : ℕ) (x : Summary) → number ≢ 0 → answer number (verdict s.array s.stripe x) ≡ 0 ∷ number ∷ says_clean
        go zero x h = absurd (h refl)
        go (suc number) x h = refused_verdict s.array s.stripe number x
