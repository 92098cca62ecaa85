-- The exponent of bounds, and the exponent of a size's unit.
use Rattle.std.specs.Prelude.{◌≡◌, ℕ, zero, suc, ◌*◌, ◌%◌, ◌^◌, ◌≤◌, Bool, cond, ◌&&◌, ◌==◌, nat_le}

-- the exponent of bounds is the largest number from 0 to 14 for which 2^e divides base and top
pub record IsExponent (base top e : ℕ) : Type 0 where
  pub at_most : e ≤ 14
  pub divides_base : base % 2 ^ e ≡ 0
  pub divides_top : top % 2 ^ e ≡ 0
  pub largest : (d : ℕ) → d ≤ 14 → base % 2 ^ d ≡ 0 → top % 2 ^ d ≡ 0 → d ≤ e

-- the exponent of a size's unit is the least number from 3 to 14 for which the size is at most 511 * 2^e
pub record IsUnitExponent (size e : ℕ) : Type 0 where
  pub at_least : 3 ≤ e
  pub at_most : e ≤ 14
  pub enough : size ≤ 511 * 2 ^ e
  pub least : (d : ℕ) → 3 ≤ d → size ≤ 511 * 2 ^ d → e ≤ d

-- the largest number up to n that passes a test, or 0
unfoldable pub greatest : ℕ → (ℕ → Bool) → ℕ
greatest zero test = 0
greatest (suc n) test = cond (test (suc n)) (suc n) (greatest n test)

-- the first of the n numbers from low on that passes a test, or the number after them
unfoldable pub first : ℕ → ℕ → (ℕ → Bool) → ℕ
first zero low test = low
first (suc n) low test = cond (test low) low (first n (suc low) test)

-- whether 2^e divides both bounds
abbrev pub divides_both : ℕ → ℕ → ℕ → Bool
divides_both base top e = base % 2 ^ e == 0 && top % 2 ^ e == 0

-- the exponent of bounds, computed
unfoldable pub exponent_of : ℕ → ℕ → ℕ
exponent_of base top = greatest 14 (divides_both base top)

-- the exponent of a size's unit, computed
unfoldable pub unit_exponent_of : ℕ → ℕ
unit_exponent_of size = first 11 3 (λ e. nat_le size (511 * 2 ^ e))
