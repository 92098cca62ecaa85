-- The two exponents: what the definitions compute, and what the code finds, is what the statements say.
use Rattle.std.specs.Prelude.{◌≡◌, ℕ, zero, suc, ◌+◌, ◌-◌, ◌*◌, ◌/◌, ◌%◌, ◌^◌, ◌<◌, ◌≤◌, min, Bool, true, ◌==◌, nat_le, refl}
use Rattle.std.proofs.Common.{sym, ap, ◌∙◌, zero-mul, sub-add_cancel, le-mul_of_pos_right, add-one, arith}
use Rattle.std.proofs.Math.Nat.{mul-mod_left}
use Rattle.std.specs.Int.Count.{count_trailing_zeros, under}
use Rattle.std.proofs.lemmas.Nat.{pow_pos, mod-pow-add, shl-shr}
use Rattle.std.proofs.lemmas.Bool.{cond_both, and_parts, and_from, eqb-true, eq-eqb, leb-true, le-leb, both_ways}
use Rattle.compact.specs.Exponents.{IsExponent, IsUnitExponent, greatest, first, divides_both, exponent_of, unit_exponent_of}

-- no larger number passes
abbrev Greatest : ℕ → (ℕ → Bool) → ℕ → Type 0
Greatest n test g = (g ≤ n) × (test g ≡ true) × ((d : ℕ) → d ≤ n → test d ≡ true → d ≤ g)

greatest_is : (n : ℕ) (test : ℕ → Bool) → test 0 ≡ true → Greatest n test (greatest n test)
unfolding greatest
greatest_is zero test z = (omega arith, z, λ d l h. l)
greatest_is (suc n) test z =
    let r = greatest_is n test z in
    cond_both (test (suc n)) (suc n) (greatest n test) (Greatest (suc n) test)
    (λ q. (omega arith, q, λ d l h. l))
    (λ q. (
      omega arith,
      r.1,
      λ d l h.
          let ne : d ≡ suc n → ⊥ = λ s. both_ways (test (suc n)) q (ap test (sym s) ∙ h) in
          r.2 d (omega arith) h,
    ))

-- no smaller number passes
abbrev First : ℕ → ℕ → (ℕ → Bool) → ℕ → Type 0
First n low test f = (low ≤ f) × (f ≤ low + n) × (test f ≡ true) × ((d : ℕ) → low ≤ d → test d ≡ true → f ≤ d)

first_is : (n low : ℕ) (test : ℕ → Bool) → test (low + n) ≡ true → First n low test (first n low test)
unfolding first
first_is zero low test z = (omega arith, omega arith, ap test (let e : low ≡ low + 0 = omega arith in e) ∙ z, λ d l h. l)
first_is (suc n) low test z =
    let r = first_is n (suc low) test (ap test (let e : suc low + n ≡ low + suc n = omega arith in e) ∙ z) in
    cond_both (test low) low (first n (suc low) test) (First (suc n) low test)
    (λ q. (omega arith, omega arith, q, λ d l h. l))
    (λ q. (
      omega arith,
      omega arith,
      r.2,
      λ d l h.
          let ne : d ≡ low → ⊥ = λ s. both_ways (test low) q (ap test (sym s) ∙ h) in
          r.3 d (omega arith) h,
    ))

-- the exponent computed is the exponent
pub exponent_is : (base top : ℕ) → IsExponent base top (exponent_of base top)
unfolding exponent_of
exponent_is base top =
    let one : (n : ℕ) → (n % 2 ^ 0 == 0) ≡ true = λ n. eq-eqb (n % 2 ^ 0) 0 (omega arith) in
    let g = greatest_is 14 (divides_both base top) (and_from _ _ (one base) (one top)) in
    record {
      at_most = g.0;
      divides_base = eqb-true _ _ (and_parts _ _ g.1).0;
      divides_top = eqb-true _ _ (and_parts _ _ g.1).1;
      largest = λ d l p q. g.2 d l (and_from _ _ (eq-eqb _ _ p) (eq-eqb _ _ q));
    }

-- there is one exponent
pub one_exponent : (base top d e : ℕ) → IsExponent base top d → IsExponent base top e → d ≡ e
one_exponent base top d e h k =
    let p = h.largest e k.at_most k.divides_base k.divides_top in
    let q = k.largest d h.at_most h.divides_base h.divides_top in
    omega arith

-- so many units of 2^e, divided by 2^e and by the next larger power
unit_divides : (n e : ℕ) → n * 2 ^ e % 2 ^ e ≡ 0
unit_divides n e = mul-mod_left n (2 ^ e)

next_divides : (n e : ℕ) → n * 2 ^ e % 2 ^ (1 + e) ≡ n % 2 * 2 ^ e
next_divides n e =
    let m = mod-pow-add (n * 2 ^ e) 1 e in
    let d = ap (λ k. k % 2 * 2 ^ e) (shl-shr n e) in
    let z = unit_divides n e in omega arith

-- a power of two larger than 2^e divides only an even number of units
even_units : (n e d : ℕ) → e < d → n * 2 ^ e % 2 ^ d ≡ 0 → n % 2 ≡ 0
even_units n e d l h =
    let whole = ap (λ k. n * 2 ^ e % 2 ^ k) (sub-add_cancel {n = d} {m = 1 + e} (omega arith)) in
    let split = mod-pow-add (n * 2 ^ e) (d - (1 + e)) (1 + e) in
    let next = next_divides n e in
    let least = le-mul_of_pos_right (n % 2) (pow_pos e) in omega arith

-- the exponent of so many units of 2^e is at least e, and below 14 it is larger just if both numbers of units are even
pub units_exponent : (b t e : ℕ) → e ≤ 14
    → (e ≤ exponent_of (b * 2 ^ e) (t * 2 ^ e))
    × (e < 14 → b % 2 ≡ 0 → t % 2 ≡ 0 → e < exponent_of (b * 2 ^ e) (t * 2 ^ e))
    × (e < exponent_of (b * 2 ^ e) (t * 2 ^ e) → (b % 2 ≡ 0) × (t % 2 ≡ 0))
units_exponent b t e l =
    let is = exponent_is (b * 2 ^ e) (t * 2 ^ e) in
    let even : (n : ℕ) → n % 2 ≡ 0 → n * 2 ^ e % 2 ^ (1 + e) ≡ 0 = λ n z. next_divides n e ∙ ap (λ k. k * 2 ^ e) z ∙ zero-mul (2 ^ e) in (
      is.largest e l (unit_divides b e) (unit_divides t e),
      λ m p q. omega (arith, is.largest (1 + e) (omega arith) (even b p) (even t q)),
      λ m. (even_units b e _ m is.divides_base, even_units t e _ m is.divides_top),
    )

-- a power of two divides a number if the number is even and the next smaller power divides its half
half : (n j : ℕ) → n % 2 ^ suc j ≡ n / 2 % 2 ^ j * 2 + n % 2
half n j = ap (λ m. n % 2 ^ m) (sym (add-one j)) ∙ mod-pow-add n j 1

under_some : (d t j : ℕ) → suc j ≤ under d t → (d ≡ 0) × (j ≤ t)
under_some zero t j h = (refl, omega arith)
under_some (suc d) t j h = absurd (omega arith)

under_zero : (d t : ℕ) → d ≡ 0 → under d t ≡ suc t
under_zero zero t h = refl
under_zero (suc d) t h = absurd (omega arith)

-- 2^j divides n just if j of its lowest bits are zero
trailing_divides : (k n j : ℕ) → j ≤ count_trailing_zeros k n → n % 2 ^ j ≡ 0
unfolding count_trailing_zeros
trailing_divides k n zero h = omega arith
trailing_divides zero n (suc j) h = absurd (omega arith)
trailing_divides (suc k) n (suc j) h =
    let u = under_some (n % 2) (count_trailing_zeros k (n / 2)) j h in
    let r = trailing_divides k (n / 2) j u.1 in
    let s = half n j in omega arith

trailing_most : (k n j : ℕ) → j ≤ k → n % 2 ^ j ≡ 0 → j ≤ count_trailing_zeros k n
unfolding count_trailing_zeros
trailing_most k n zero l h = omega arith
trailing_most zero n (suc j) l h = absurd (omega arith)
trailing_most (suc k) n (suc j) l h =
    let s = half n j in
    let r = trailing_most k (n / 2) j (omega arith) (omega arith) in
    let u = under_zero (n % 2) (count_trailing_zeros k (n / 2)) (omega arith) in omega arith

-- the exponent from the zeros at the end of base and top
pub fewest_zeros : (base top e : ℕ) → e ≡ min (min (count_trailing_zeros 32 base) (count_trailing_zeros 32 top)) 14 → IsExponent base top e
fewest_zeros base top e h = record {
  at_most = omega arith;
  divides_base = trailing_divides 32 base e (omega arith);
  divides_top = trailing_divides 32 top e (omega arith);
  largest = λ d l p q.
      let b = trailing_most 32 base d (omega arith) p in
      let t = trailing_most 32 top d (omega arith) q in omega arith;
}

-- the exponent of the unit computed is the exponent of the unit
pub unit_exponent_is : (size : ℕ) → size ≤ 65536 → IsUnitExponent size (unit_exponent_of size)
unfolding unit_exponent_of
unit_exponent_is size h =
    let f = first_is 11 3 (λ e. nat_le size (511 * 2 ^ e)) (le-leb _ _ (omega arith)) in
    record {
      at_least = f.0;
      at_most = f.1;
      enough = leb-true _ _ f.2;
      least = λ d l k. f.3 d l (le-leb _ _ k);
    }

-- there is one exponent of the unit
pub one_unit_exponent : (size d e : ℕ) → IsUnitExponent size d → IsUnitExponent size e → d ≡ e
one_unit_exponent size d e h k =
    let p = h.least e k.at_least k.enough in
    let q = k.least d h.at_least h.enough in
    omega arith
