-- What the programs' loops over a reader rest on: the rest of a piece as the code cuts it, and what a reader had, by what it gave. Assumes nothing.
use Rattle.std.proofs.Common.{◌≡◌, ℕ, ◌-◌, ◌<◌, ◌≤◌, List, [], length, take, drop, None, Some, IfSome, refl, arith, ap, append-nil, length-append, length-drop, take_all}
use Rattle.std.specs.declared.option.Option.{Option}
use Rattle.std.specs.Io.KnownBytes.{Consumes, IsAtEnd}
use Rattle.std.proofs.KnownBytes.{Consumes-trans, Consumes-whole}

-- all behind a place
pub rest-is : (input : List ℕ) (at : ℕ) → take (length input - at) (drop at input) ≡ drop at input
rest-is input at = take_all (length input - at) (drop at input) (rw length-drop (omega arith))

-- one that gave so many bytes did not have fewer
pub gave_many : (a b : Option (List ℕ)) (given : List ℕ) (n : ℕ) (P : List ℕ → Type 0) → Consumes a b given → n ≤ length given
    → IfSome a (λ bytes. length bytes < n → P bytes)
gave_many None b given n P c h = tt
gave_many (Some bytes) None given n P c h = absurd c
gave_many (Some bytes) (Some left) given n P c h = λ few. absurd (omega (arith, ap length c, length-append given left))

-- one that gave some, and then none since it was at its end, had those
pub gave_all : (a b d : Option (List ℕ)) (given buf : List ℕ) (n : ℕ) (P : List ℕ → Type 0) → Consumes a b given → n ≡ 0 → Consumes b d (take n buf) → IsAtEnd d
    → P given → IfSome a P
gave_all a b d given buf n P c e last end h =
    let none : take n buf ≡ [] = rw e refl in
    let all = rw (none, append-nil) at (Consumes-trans a b d given (take n buf) c last) in
    Consumes-whole a d given P all end h
