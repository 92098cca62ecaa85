use Rattle.std.proofs.Common.{◌≡◌, ℕ, ◌-◌, ◌*◌, ◌%◌, ◌^◌, ◌<◌, ◌≤◌, Some, None, Option, IfSome, IsSomeAnd, MatchOption, subst, ⊎_elim, arith, rules}
use Rattle.std.proofs.iter.runs.Sources.{ranges}
use Rattle.std.proofs.lemmas.Nat.{shl_whole}
use Rattle.std.proofs.lemmas.Bool.{cases_lt}
use Rattle.compact.specs.Exponents.{IsUnitExponent}
use Rattle.compact.specs.Powers.{unit_exponent_is, one_unit_exponent}
use Rattle.compact.proofs.exponents.unit_exponent.Goals as goal

less_at : (size d : ℕ) (o : Option ℕ) → IsSomeAnd o (λ y. (y ≡ d) × (511 * 2 ^ y % 2 ^ 64 < size)) → 511 * 2 ^ d % 2 ^ 64 < size
less_at size d None h = absurd h
less_at size d (Some y) h = subst (λ y. 511 * 2 ^ y % 2 ^ 64 < size) h.0 h.1

-- the first of the exponents that is large enough, where the code shifts within 64 bits
first_enough : (size : ℕ) (r : Option ℕ) (at : ℕ → Option ℕ) → size ≤ 65536
    → MatchOption r (511 * 2 ^ 14 < size) (λ e. (3 ≤ e) × (e ≤ 14) × (size ≤ 511 * 2 ^ e % 2 ^ 64))
    → ((d : ℕ) → 3 ≤ d → IfSome r (λ e. d < e → IsSomeAnd (at (d - 3)) (λ y. (y ≡ d) × (511 * 2 ^ y % 2 ^ 64 < size))))
    → IsSomeAnd r (IsUnitExponent size)
first_enough size None at small none _ = absurd (omega arith)
first_enough size (Some e) at small some less =
    let whole : (d : ℕ) → d ≤ 14 → 511 * 2 ^ d % 2 ^ 64 ≡ 511 * 2 ^ d = λ d l. shl_whole 511 9 d 64 (omega arith) (omega arith) in
    record {
      at_least = some.0;
      at_most = some.1;
      enough = omega (arith, whole e some.1);
      least = λ d l h. ⊎_elim
          (λ (b : d < e). absurd (omega (arith, less_at size d (at (d - 3)) (less d l b), whole d (omega arith))))
          (λ m. m)
          (cases_lt d e);
    }

pub returns : goal.returns
returns c =
    let is = first_enough c.args.size c.find.result c.find.ensures.runs.0.at (search rules) (search (rules, ranges)) (λ d l. search (rules, ranges)) in
    let small : c.args.size ≤ 65536 = search rules in
    let unit = unit_exponent_is c.args.size small in
    record {
      value = grind (arith, one_unit_exponent, is, unit);
      least = search rules;
    }
