-- Round and round: of n successive numbers modulo n each is met once. Assumes nothing.
use mathlib.Core.Path.{◌≡◌, sym, ap, ◌∙◌}
use Prim.Native.Nat.{ℕ, ◌+◌, ◌-◌, ◌%◌, ◌≤◌, ◌<◌}
use native.Mathlib.Nat.{mod-eq_of_lt, mod-lt, mod-add-mod, add-mod_right, mod-eq-sub-mod}
use native.Mathlib.Decide.{dec_le, dec_lt}
use native.Mathlib.Omega.{arith}
use Rattle.patrol.specs.EveryStripe.{Once}

module _ (n r : ℕ) (here : r < n) where
  -- of what is less than twice n, r remains only of r and of r + n
  remains_below : (x : ℕ) → x < n → x % n ≡ r → x ≡ r
  remains_below x h e = sym (mod-eq_of_lt h) ∙ e

  remains_above : (x : ℕ) → n ≤ x → x < n + n → x % n ≡ r → x ≡ r + n
  remains_above x above h e =
      let less : x - n < n = omega arith in
      let rest : x - n ≡ r = sym (mod-eq-sub-mod above ∙ mod-eq_of_lt less) ∙ e in
      omega arith

  module _ (start from : ℕ) where
    abbrev first : ℕ
    first = (start + from) % n

    first_less : first < n
    first_less = mod-lt (start + from) (omega arith)

    -- the i-th after the first
    shifted : (i : ℕ) → (start + (from + i)) % n ≡ (first + i) % n
    shifted i =
        let e : start + (from + i) ≡ (start + from) + i = omega arith in
        ap (λ (x : ℕ). x % n) e ∙ sym (mod-add-mod (start + from) n i)

    -- only one of them leaves r: where the first is not past it, that far on, else so far on in the next round
    only_below : (i j : ℕ) → i < n → j < n → first ≤ r → first + i ≡ r → (first + j) % n ≡ r → j ≡ i
    only_below i j h k low e f = go (dec_lt (first + j) n)
      where
        go : Dec (first + j < n) → j ≡ i
        go (yes l) = omega (arith, remains_below (first + j) l f)
        go (no g) = omega (arith, remains_above (first + j) (omega arith) (omega (arith, first_less)) f)

    only_above : (i j : ℕ) → i < n → j < n → r < first → first + i ≡ r + n → (first + j) % n ≡ r → j ≡ i
    only_above i j h k high e f = go (dec_lt (first + j) n)
      where
        go : Dec (first + j < n) → j ≡ i
        go (yes l) = omega (arith, remains_below (first + j) l f)
        go (no g) = omega (arith, remains_above (first + j) (omega arith) (omega (arith, first_less)) f)

    met : (i : ℕ) → i < n → (first + i) % n ≡ r → ((j : ℕ) → j < n → (first + j) % n ≡ r → j ≡ i) → Once (λ k. (start + k) % n) from n r
    met i h e alone =
        record {
          turn = from + i;
          not-before = omega arith;
          not_after = omega arith;
          names = shifted i ∙ e;
          only = λ other low high named. same other (other - from) low high (omega arith) named;
        }
      where
        same : (other j : ℕ) → from ≤ other → other < from + n → other ≡ from + j → (start + other) % n ≡ r → other ≡ from + i
        same other j low high e named =
            let at : (first + j) % n ≡ r = sym (shifted j) ∙ ap (λ (x : ℕ). (start + x) % n) (sym e) ∙ named in
            omega (arith, alone j (omega arith) at)

    pub met_once : Once (λ k. (start + k) % n) from n r
    met_once = go (dec_le first r)
      where
        go : Dec (first ≤ r) → Once (λ k. (start + k) % n) from n r
        go (yes low) =
            let e : first + (r - first) ≡ r = omega arith in
            met (r - first) (omega arith) (ap (λ (x : ℕ). x % n) e ∙ mod-eq_of_lt here)
            (λ j k f. only_below (r - first) j (omega arith) k low e f)
        go (no high) =
            let e : first + (r + n - first) ≡ r + n = omega (arith, first_less) in
            met (r + n - first) (omega (arith, first_less)) (ap (λ (x : ℕ). x % n) e ∙ add-mod_right r n ∙ mod-eq_of_lt here)
            (λ j k f. only_above (r + n - first) j (omega (arith, first_less)) k (omega arith) e f)

-- the same of numbers that are these as far as one looks
pub once_alike : (f g : ℕ → ℕ) (from n r : ℕ) → ((k : ℕ) → k < from + n → g k ≡ f k) → Once f from n r → Once g from n r
once_alike f g from n r alike h =
    record {
      turn = h.turn;
      not-before = h.not-before;
      not_after = h.not_after;
      names = alike h.turn h.not_after ∙ h.names;
      only = λ other low high named. h.only other low high (sym (alike other high) ∙ named);
    }
