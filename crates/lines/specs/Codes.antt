-- The calls that a line can ask for, by their codes.
use Rattle.std.specs.Prelude.{ℕ, Bool, true, false, cond, List, [], ◌∷◌, Some, None, Option, nat_eq}
use Rattle.plain.specs.declared.types.Call.{Call}
use Rattle.plain.specs.declared.types.Call.TheVariants as call
use Rattle.lines.specs.declared.checks.Marks.{Marks}
use Rattle.lines.specs.declared.codes.Code.{Code}
use Rattle.lines.specs.declared.codes.Code.TheVariants.{Allocate, Free, Move, Narrow, Restrict, Load, Store, Fetch, Put, Copy, Open, Advance, Close, Whose, Tally}

-- the number of a code, the fields that it needs, and the call that it asks for with the numbers in a, b, P and Q
pub record Row : Type 0 where
  pub number : ℕ
  pub needs : Marks
  pub call : ℕ → ℕ → ℕ → ℕ → Call

-- a row that needs the code and some of a, b, P and Q
abbrev pub asks : ℕ → Bool → Bool → Bool → Bool → (ℕ → ℕ → ℕ → ℕ → Call) → Row
asks number a b p q make = record {
  number = number;
  needs = record { code = true; a = a; b = b; p = p; q = q };
  call = make;
}

-- code       number  needs a, b, P, Q          the call
abbrev pub row : Code → Row
row Allocate = asks 1 true false true false (λ a b p q. call.Allocate a p)
row Free = asks 2 true false false false (λ a b p q. call.Free a)
row Move = asks 3 true true true false (λ a b p q. call.Move a b p)
row Narrow = asks 4 true true true true (λ a b p q. call.Narrow a b p q)
row Restrict = asks 5 true true true false (λ a b p q. call.Restrict a b p)
row Load = asks 6 true false true false (λ a b p q. call.Load a p)
row Store = asks 7 true false true true (λ a b p q. call.Store a p q)
row Fetch = asks 8 true true false false (λ a b p q. call.Fetch a b)
row Put = asks 9 true true false false (λ a b p q. call.Put a b)
row Copy = asks 10 true true true false (λ a b p q. call.Copy a b p)
row Open = asks 11 false false false false (λ a b p q. call.Open)
row Advance = asks 12 false false true false (λ a b p q. call.Advance p)
row Close = asks 13 false false false false (λ a b p q. call.Close)
row Whose = asks 14 true false false false (λ a b p q. call.Whose a)
row Tally = asks 15 false false false false (λ a b p q. call.Tally)

-- the first of a list that passes a test
abbrev pub first_with : {A : Type 0} → (A → Bool) → List A → Option A
first_with test [] = None
first_with test (x ∷ xs) = cond (test x) (Some x) (first_with test xs)

-- the code of a number, if it is listed
abbrev pub code_of : ℕ → Option Code
code_of n =
    first_with (λ code. nat_eq n (row code).number)
    (Allocate ∷ Free ∷ Move ∷ Narrow ∷ Restrict ∷ Load ∷ Store ∷ Fetch ∷ Put ∷ Copy ∷ Open ∷ Advance ∷ Close ∷ Whose ∷ Tally ∷ [])
