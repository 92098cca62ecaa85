-- The laws of `least`. Assumes nothing.
use Rattle.std.proofs.Common.{◌≡◌, ℕ, zero, suc, ◌+◌, ◌<◌, ◌≤◌, Bool, true, false, cond, Some, None, Option, sym, refl, ap, ◌∙◌, subst, ⊎_elim, arith}
use Rattle.std.proofs.lemmas.Bool.{false_from_ne_true, cases_eq, cond-true, cond-false, both_ways}
use Rattle.plain.specs.Least.{least, IsLeast, first_of}

hit : (n a : ℕ) (test : ℕ → Bool) (x : ℕ) → a ≤ x → x < a + n → test x ≡ true → ((y : ℕ) → a ≤ y → y < x → test y ≡ true → ⊥)
    → first_of n a test ≡ Some x
hit zero a test x lo hi t none = absurd (omega arith)
hit (suc n) a test x lo hi t none =
    ⊎_elim
    (λ (e : a ≡ x). let P : ℕ → Type 0 = λ z. test z ≡ true in
    cond-true (test a) (Some a) (first_of n (suc a) test) (subst P (sym e) t) ∙ ap Some e)
    (λ ne. cond-false (test a) (Some a) (first_of n (suc a) test) (false_from_ne_true (test a) (none a (omega arith) (omega arith)))
    ∙ hit n (suc a) test x (omega arith) (omega arith) t (λ y l h. none y (omega arith) h))
    (cases_eq a x)

miss : (n a : ℕ) (test : ℕ → Bool) → ((y : ℕ) → a ≤ y → y < a + n → test y ≡ true → ⊥) → first_of n a test ≡ None
miss zero a test none = refl
miss (suc n) a test none =
    cond-false (test a) (Some a) (first_of n (suc a) test) (false_from_ne_true (test a) (none a (omega arith) (omega arith)))
    ∙ miss n (suc a) test (λ y l h. none y (omega arith) (omega arith))

-- what is the least is what `least` says
pub is_least : (n : ℕ) (test : ℕ → Bool) (r : Option ℕ) → IsLeast n test r → r ≡ least n test
unfolding least
is_least n test (Some x) h = sym (hit n 0 test x (omega arith) (omega (arith, h.0)) h.1 (λ y l k. h.2 y k))
is_least n test None h = sym (miss n 0 test (λ y l k. h y (omega arith)))

abbrev From : ℕ → ℕ → (ℕ → Bool) → Option ℕ → Type 0
From n a test (Some x) = (a ≤ x) × (x < a + n) × (test x ≡ true) × ((y : ℕ) → a ≤ y → y < x → test y ≡ true → ⊥)
From n a test None = (y : ℕ) → a ≤ y → y < a + n → test y ≡ true → ⊥

one_more : (b : Bool) (n a : ℕ) (test : ℕ → Bool) (r : Option ℕ) → test a ≡ b → From n (suc a) test r → From (suc n) a test (cond b (Some a) r)
one_more true n a test r e h = (omega arith, omega arith, e, λ y lo hi t. omega arith)
one_more false n a test (Some x) e h = (
  omega (arith, h.0),
  omega (arith, h.1),
  h.2,
  λ y lo hi t. ⊎_elim (λ (q : y ≡ a). both_ways (test a) e (let P : ℕ → Type 0 = λ z. test z ≡ true in subst P q t))
      (λ ne. h.3 y (omega arith) hi t) (cases_eq y a),
)
one_more false n a test None e h =
    λ y lo hi t. ⊎_elim (λ (q : y ≡ a). both_ways (test a) e (let P : ℕ → Type 0 = λ z. test z ≡ true in subst P q t))
    (λ ne. h y (omega arith) (omega arith) t) (cases_eq y a)

from_is : (n a : ℕ) (test : ℕ → Bool) → From n a test (first_of n a test)
from_is zero a test = λ y lo hi t. omega arith
from_is (suc n) a test = one_more (test a) n a test (first_of n (suc a) test) refl (from_is n (suc a) test)

is_from : (n : ℕ) (test : ℕ → Bool) (r : Option ℕ) → From n 0 test r → IsLeast n test r
is_from n test (Some x) h = (omega (arith, h.1), h.2, λ y hi t. h.3 y (omega arith) hi t)
is_from n test None h = λ y hi t. h y (omega arith) (omega arith) t

pub least_is : (n : ℕ) (test : ℕ → Bool) → IsLeast n test (least n test)
unfolding least
least_is n test = is_from n test (first_of n 0 test) (from_is n 0 test)
