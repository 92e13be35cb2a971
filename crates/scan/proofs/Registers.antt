-- The registers of a state, value and waiting byte together: of an empty one, and after a piece. Assumes nothing.
use mathlib.Core.Path.{◌≡◌, refl, sym, ap, ap₂, ◌∙◌}
use mathlib.Core.Bool.{false}
use mathlib.Core.List.{List, [], ◌∷◌, ◌++◌}
use Prim.Native.Nat.{ℕ, zero, suc, ◌+◌, ◌^◌, ◌≤◌, ◌<◌}
use native.Mathlib.Nat.{mul-zero, add-zero, mod-lt}
use native.Mathlib.Decide.{ℕ_discrete}
use native.Mathlib.Omega.{arith}
use lib.ListN.{length, get_or, set, replicate, length-set, get_or-replicate}
use lib.Seq.{get_or-set_same, get_or-set_other}
use Rattle.format.specs.Formats.{Format, value_in, waiting_in, register_from}
use Rattle.format.proofs.Sizes.{register-kept, power_some}
use Rattle.layout.specs.declared.Array.{Array}
use Rattle.tag.specs.Blocks.{format_at, data_of}
use Rattle.stripe.specs.Formats.{register_of}
use Rattle.stripe.specs.Tables.{table}
use Rattle.stripe.proofs.Tables.{get_or-table, table_ext}
use Rattle.stripe.proofs.OneEntry.{one_entry_set}
use Rattle.scan.specs.declared.Scan.{Scan}
use Rattle.scan.specs.Scans.{data_of_piece, positions, registers, tags, buffer, register_at, registers_of, empty_scan, advanced}
use Rattle.scan.specs.Holding.{Follows, held}
use Rattle.scan.specs.Machines.{taken}
use Rattle.scan.proofs.Parts.{register-joined}
use Rattle.scan.proofs.Pieces.{position_is, register_now}

table_same : {A : Type 0} (n : ℕ) (x : A) → table n (λ i. x) ≡ replicate n x
table_same zero x = refl
table_same {A} (suc n) x = ap (λ (l : List A). x ∷ l) (table_same n x)

-- nothing taken
pub registers-empty : (a : Array) (stripe : ℕ) → registers_of (format_at a) (empty_scan a stripe) ≡ replicate 16 (format_at a).start
unfolding registers_of empty_scan
registers-empty a stripe =
    let F = format_at a in
    table_ext 16 (λ m. register_from F (get_or (replicate 16 F.start) m 0) (get_or (replicate 16 0) m 0)) (λ m. F.start)
    (λ m h. ap₂ (register_from F) (get_or-replicate 16 m F.start 0 h) (get_or-replicate 16 m 0 0 h) ∙ ap (λ (x : ℕ). F.start + x) (mul-zero (256 ^ F.quarter)) ∙ add-zero F.start)
    ∙ table_same 16 F.start

-- a piece taken, whose register is not past its limit
pub registers-advanced : (s : Scan) (m : ℕ) (bytes : List ℕ) → length s.register ≡ 16 → length s.waiting ≡ 16 → m < 16
    → (format_at s.array).advance (get_or s.at m 0) (register_at (format_at s.array) s m) (data_of_piece (format_at s.array) (get_or s.at m 0) bytes) < (format_at s.array).limit
    → registers_of (format_at s.array) (advanced s m bytes) ≡ registers (format_at s.array) s.at (registers_of (format_at s.array) s) m bytes
unfolding registers_of advanced registers
registers-advanced s m bytes values waiters few small =
    let F = format_at s.array in
    let p = get_or s.at m 0 in
    let after = F.advance p (register_at F s m) (data_of_piece F p bytes) in
    let now : ℕ → ℕ = λ k. register_from F (get_or (set s.register m (value_in F after)) k 0) (get_or (set s.waiting m (waiting_in F after)) k 0) in
    let here : now m ≡ after =
    ap₂ (register_from F) (get_or-set_same s.register m (value_in F after) 0 (omega arith)) (get_or-set_same s.waiting m (waiting_in F after) 0 (omega arith)) ∙ register-kept F after small in
    one_entry_set 16 m now (register_at F s) few
    (λ k l ne. ap₂ (register_from F) (get_or-set_other s.register m k (value_in F after) 0 ne) (get_or-set_other s.waiting m k (waiting_in F after) 0 ne))
    ∙ ap (set (table 16 (register_at F s)) m)
    (here ∙ ap (λ (r : ℕ). F.advance p r (data_of_piece F p bytes)) (sym (get_or-table 16 (register_at F s) F.start m few)))

-- ---- a state advanced

module _ (s : Scan) (m : ℕ) (bytes : List ℕ) where
  pub advanced-array : (advanced s m bytes).array ≡ s.array
  unfolding advanced
  advanced-array = refl

  pub advanced-stripe : (advanced s m bytes).stripe ≡ s.stripe
  unfolding advanced
  advanced-stripe = refl

  pub advanced-values : length (advanced s m bytes).register ≡ length s.register
  unfolding advanced
  advanced-values = simp length-set

  pub advanced-narrow : length s.register ≡ 16 → ((k : ℕ) → k < 16 → get_or s.register k 0 < 256 ^ (format_at s.array).quarter)
      → (k : ℕ) → k < 16 → get_or (advanced s m bytes).register k 0 < 256 ^ (format_at s.array).quarter
  unfolding advanced
  advanced-narrow long small k h = go (ℕ_discrete k m)
    where
      F : Format
      F = format_at s.array

      after : ℕ
      after = F.advance (get_or s.at m 0) (register_at F s m) (data_of_piece F (get_or s.at m 0) bytes)

      go : Dec (k ≡ m) → get_or (set s.register m (value_in F after)) k 0 < 256 ^ F.quarter
      go (yes e) =
          rw (ap (λ (j : ℕ). get_or (set s.register j (value_in F after)) k 0) (sym e) ∙ get_or-set_same s.register k (value_in F after) 0 (omega arith)) (mod-lt after (power_some F))
      go (no e) = rw (get_or-set_other s.register m k (value_in F after) 0 e) (small k h)

  pub advanced-waiters : length (advanced s m bytes).waiting ≡ length s.waiting
  unfolding advanced
  advanced-waiters = simp length-set

-- a register of data has its limit, and no more than a guard's bits where none waits
pub register-alone : (F : Format) (bytes : List ℕ) → F.waits (length bytes) ≡ false → register_of F bytes < 256 ^ F.quarter
unfolding data_of
register-alone F bytes e = F.none-waits bytes e

-- a member's register is that of its bytes
pub register-held : (F : Format) (s : Scan) (w : List ℕ) (history : List (List ℕ)) (n : ℕ) → Follows F n (held F s w) history → n ≤ 16 → (m : ℕ) → m < n
    → register_at F s m ≡ register_of F (get_or history m [])
unfolding registers_of
register-held F s w history n t few m h = sym (get_or-table 16 (register_at F s) F.start m (omega arith)) ∙ register_now F n (held F s w) history t m [] h

-- what is held after a piece is what the machine holds
pub held-advanced : (s : Scan) (w : List ℕ) (history : List (List ℕ)) (n : ℕ) → Follows (format_at s.array) n (held (format_at s.array) s w) history
    → length s.register ≡ 16 → length s.waiting ≡ 16 → n ≤ 16 → (m : ℕ) (bytes : List ℕ) → m < n
    → held (format_at s.array) (advanced s m bytes) (buffer (format_at s.array) s.at w m bytes) ≡ taken (format_at s.array) (held (format_at s.array) s w) m bytes
unfolding advanced
held-advanced s w history n t values waiters few m bytes here =
    ap (λ (registers : List ℕ). record { at = positions (format_at s.array) s.at m bytes; register = registers; tag = tags (format_at s.array) s.at s.tag m bytes; work = buffer (format_at s.array) s.at w m bytes })
    (registers-advanced s m bytes values waiters (omega arith) small)
  where
    small : (format_at s.array).advance (get_or s.at m 0) (register_at (format_at s.array) s m) (data_of_piece (format_at s.array) (get_or s.at m 0) bytes) < (format_at s.array).limit
    small =
        let G = format_at s.array in
        let b = get_or history m [] in
        let position = position_is G n (held G s w) history t m [] here in
        let register = register-held G s w history n t few m here in
        rw (position, register, register-joined G b bytes) (G.advance_small 0 G.start (data_of G (b ++ bytes)) G.start_small)
