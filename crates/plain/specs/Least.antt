-- The least number that passes a test.
use Rattle.std.specs.Prelude.{◌≡◌, ℕ, zero, suc, ◌<◌, Bool, true, cond, Some, None, Option, ◌≢◌}

-- it passes, is below n, and nothing lower passes; or nothing below n passes
abbrev pub IsLeast : ℕ → (ℕ → Bool) → Option ℕ → Type 0
IsLeast n test (Some x) = (x < n) × (test x ≡ true) × ((y : ℕ) → y < x → test y ≢ true)
IsLeast n test None = (y : ℕ) → y < n → test y ≢ true

-- the first of the n numbers from a on that passes
abbrev pub first_of : ℕ → ℕ → (ℕ → Bool) → Option ℕ
first_of zero a test = None
first_of (suc n) a test = cond (test a) (Some a) (first_of n (suc a) test)

-- the least number below n that passes the test, if one does: it is the one that IsLeast speaks of
unfoldable pub least : ℕ → (ℕ → Bool) → Option ℕ
least n test = first_of n 0 test
