-- An accepted piece: what is held after it follows from the history with its bytes joined to those of its member.
-- Assumes nothing.
use mathlib.Core.Path.{◌≡◌, sym, ap, ◌∙◌}
use mathlib.Core.List.{List, [], ◌++◌, map}
use Prim.Native.Nat.{ℕ, ◌+◌, ◌*◌, ◌≤◌, ◌<◌}
use native.Mathlib.Nat.{mul-le-mul_left, mul-suc}
use native.Mathlib.Decide.{ℕ_discrete, dec_lt}
use native.Mathlib.Omega.{arith}
use lib.ListN.{length, get_or, take, set, replicate, length-set, length-map, length-append}
use lib.Seq.{sets, length-sets, get_or-take, take-set-lt, get_or-set_same, get_or-set_other}
use Rattle.xor.specs.Xors.{xors, add_all, combination}
use Rattle.xor.proofs.Combination.{add_all-set}
use Rattle.format.specs.Formats.{Format}
use Rattle.tag.specs.Blocks.{data_of, tag_of}
use Rattle.stripe.specs.Formats.{register_of}
use Rattle.scan.specs.Scans.{tag_of_piece, positions, registers, tags, buffer}
use Rattle.scan.specs.Holding.{Held, Follows}
use Rattle.scan.specs.Machines.{taken}
use Rattle.scan.proofs.Joins.{map-set, get_or-map_in}
use Rattle.copy.proofs.Stores.{get_d_sets_before, get_or-sets-past, sets_grow}
use Rattle.scan.proofs.Parts.{tag-joined, tag-place, tag_fits, register-joined, work-joined}

-- the tags of two members lie apart
pub apart : (size i m : ℕ) → i < m → size * i + size ≤ size * m
apart size i m h = omega (arith, mul-suc size i, mul-le-mul_left size h)

module _ (F : Format) (n : ℕ) (h : Held F) (history : List (List ℕ)) (t : Follows F n h history) (m : ℕ) (bytes : List ℕ) (hm : m < n) where
  kept_in : m < length history
  kept_in = rw t.members hm

  pub position_is : get_or h.at m 0 ≡ length (get_or history m [])
  position_is = sym (get_or-take n h.at m 0 hm) ∙ ap (λ (l : List ℕ). get_or l m 0) t.at_is ∙ get_or-map_in length history m 0 [] kept_in

  pub register_now : get_or h.register m F.start ≡ register_of F (get_or history m [])
  register_now =
      sym (get_or-take n h.register m F.start hm) ∙ ap (λ (l : List ℕ). get_or l m F.start) t.register_is
      ∙ get_or-map_in (register_of F) history m F.start [] kept_in

  at-taken : take n (positions F h.at m bytes) ≡ map length (set history m (get_or history m [] ++ bytes))
  unfolding positions
  at-taken = rw (take-set-lt, t.at_is, position_is, map-set, length-append)

  register-taken : take n (registers F h.at h.register m bytes) ≡ map (register_of F) (set history m (get_or history m [] ++ bytes))
  unfolding registers
  register-taken = rw (take-set-lt, t.register_is, position_is, register_now, map-set, register-joined)

  work-taken : buffer F h.at h.work m bytes ≡ combination F.data_length (map (data_of F) (set history m (get_or history m [] ++ bytes)))
  unfolding buffer
  work-taken =
      let same : add_all (replicate F.data_length 0) (set (map (data_of F) history) m (data_of F (get_or history m [] ++ bytes)))
      ≡ xors (xors (combination F.data_length (map (data_of F) history)) (data_of F (get_or history m []))) (data_of F (get_or history m [] ++ bytes)) =
      add_all-set (replicate F.data_length 0) (map (data_of F) history) m (data_of F (get_or history m [] ++ bytes)) (rw length-map kept_in)
      ∙ ap (λ (l : List ℕ). xors (xors (combination F.data_length (map (data_of F) history)) l) (data_of F (get_or history m [] ++ bytes)))
      (get_or-map_in (data_of F) history m [] [] kept_in) in
      rw (position_is, t.work_is, map-set, same) (work-joined F (get_or history m []) bytes (combination F.data_length (map (data_of F) history)))

  tag-taken : length (get_or history m []) + length bytes ≤ F.block_length → (i : ℕ) → i < n → (j : ℕ) → j < F.tag_length
      → get_or (tags F h.at h.tag m bytes) (F.tag_length * i + j) 0 ≡ get_or (tag_of F (get_or (set history m (get_or history m [] ++ bytes)) i [])) j 0
  unfolding tags
  tag-taken room i hi j hj = rw (position_is, tag-place F (get_or history m []) bytes) (go (ℕ_discrete i m) (dec_lt i m))
    where
      go : Dec (i ≡ m) → Dec (i < m)
          → get_or (sets h.tag (F.tag_length * m + length (tag_of F (get_or history m []))) (tag_of_piece F (length (get_or history m [])) bytes)) (F.tag_length * i + j) 0
          ≡ get_or (tag_of F (get_or (set history m (get_or history m [] ++ bytes)) i [])) j 0
      go (yes e) d =
          rw (e, get_or-set_same history m (get_or history m [] ++ bytes) [] kept_in, tag-joined)
          (sets_grow h.tag (F.tag_length * m) F.tag_length (tag_of F (get_or history m [])) (tag_of_piece F (length (get_or history m [])) bytes)
          (omega (arith, t.tag-long, apart F.tag_length m n hm)) (tag_fits F (get_or history m []) bytes room) (t.tag_is m hm) j hj)
      go (no e) (yes l) =
          rw (get_or-set_other history m i (get_or history m [] ++ bytes) [] e)
          (get_d_sets_before h.tag _ (tag_of_piece F (length (get_or history m [])) bytes) (F.tag_length * i + j)
          (omega (arith, apart F.tag_length i m l)) ∙ t.tag_is i hi j hj)
      go (no e) (no l) =
          rw (get_or-set_other history m i (get_or history m [] ++ bytes) [] e)
          (get_or-sets-past h.tag _ (tag_of_piece F (length (get_or history m [])) bytes) (F.tag_length * i + j)
          (omega (arith, apart F.tag_length m i (omega arith), tag_fits F (get_or history m []) bytes room)) ∙ t.tag_is i hi j hj)

  fits-taken : length (get_or history m []) + length bytes ≤ F.block_length → (i : ℕ) → length (get_or (set history m (get_or history m [] ++ bytes)) i []) ≤ F.block_length
  fits-taken room i = go (ℕ_discrete i m)
    where
      go : Dec (i ≡ m) → length (get_or (set history m (get_or history m [] ++ bytes)) i []) ≤ F.block_length
      go (yes e) = rw (e, get_or-set_same history m (get_or history m [] ++ bytes) [] kept_in, length-append) room
      go (no e) = rw (get_or-set_other history m i (get_or history m [] ++ bytes) [] e) (t.fits i)

  pub piece-follows : length (get_or history m []) + length bytes ≤ F.block_length → Follows F n (taken F h m bytes) (set history m (get_or history m [] ++ bytes))
  unfolding positions registers tags
  piece-follows room =
      record {
        members = rw length-set t.members;
        at_long = rw length-set t.at_long;
        register-long = rw length-set t.register-long;
        tag-long = rw length-sets t.tag-long;
        fits = fits-taken room;
        at_is = at-taken;
        register_is = register-taken;
        tag_is = tag-taken room;
        work_is = work-taken;
      }
