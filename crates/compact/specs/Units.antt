-- The unit of a size is the least that serves it.
use Rattle.std.specs.Prelude.{◌≡◌, ℕ, ◌+◌, ◌-◌, ◌*◌, ◌/◌, ◌%◌, ◌^◌, ◌<◌, ◌≤◌, true, is_some, Some, None, Option, refl}
use Rattle.std.proofs.Common.{ap, ◌∙◌, ⊎_elim, add-mul, mul_comm, div-mul-le_self, mod-eq_of_lt, arith, pow_mono}
use Rattle.std.proofs.Math.Nat.{lt-div-mul-add}
use Rattle.std.proofs.lemmas.Nat.{pow_pos, pow_below, mul-le, div_below, mod-mul-add}
use Rattle.std.proofs.lemmas.Bool.{cases_lt, both_ways}
use Rattle.capability.specs.Formats.{Lawful, Serves, UnitOf, rounded, over}
use Rattle.capability.specs.declared.types.Capability.{Capability}
use Rattle.compact.specs.Exponents.{exponent_of, unit_exponent_of}
use Rattle.compact.specs.Compact.{compact, word}
use Rattle.compact.specs.Powers.{exponent_is, unit_exponent_is}
use Rattle.compact.specs.Inverse.{Carried}
use Rattle.compact.specs.Laws.{known, present, fits, bounds, any_rights, read_write, write_read}

some_value : (o : Option ℕ) → is_some o ≡ true → (w : ℕ) × (o ≡ Some w)
some_value None h = absurd (both_ways _ refl h)
some_value (Some w) h = (w, refl)

carried_of : (c : Capability) → is_some (word c) ≡ true → Carried (exponent_of c.base c.top) c
carried_of c h = let v = some_value (word c) h in (known c v.0 v.1).0

-- a size rounded up to a multiple of 2^g, for every power together
module _ (size g : ℕ) where
  round_ge : size ≤ rounded size (2 ^ g)
  round_ge = let a = lt-div-mul-add {a = size + (2 ^ g - 1)} {b = 2 ^ g} (pow_pos g) in let p = pow_pos g in omega arith

  round_le : rounded size (2 ^ g) ≤ size + (2 ^ g - 1)
  round_le = div-mul-le_self (size + (2 ^ g - 1)) (2 ^ g)

  round_short : size ≤ 511 * 2 ^ g → rounded size (2 ^ g) ≤ 511 * 2 ^ g
  round_short h =
      let p = pow_pos g in
      let q : (size + (2 ^ g - 1)) / 2 ^ g < 512 = div_below (size + (2 ^ g - 1)) (2 ^ g) 512 p (omega arith) in
      mul-le ((size + (2 ^ g - 1)) / 2 ^ g) (2 ^ g) 511 (2 ^ g) (omega arith) (omega arith)

  whole_base : (k : ℕ) → 2 ^ g * k % 2 ^ g ≡ 0
  whole_base k =
      ap (λ m. m % 2 ^ g) (let t : 2 ^ g * k ≡ k * 2 ^ g + 0 = omega (arith, mul_comm (2 ^ g) k) in t) ∙ mod-mul-add k (2 ^ g) 0 (pow_pos g)

  whole_top : (k : ℕ) → (2 ^ g * k + rounded size (2 ^ g)) % 2 ^ g ≡ 0
  whole_top k =
      let q : ℕ = (size + (2 ^ g - 1)) / 2 ^ g in
      ap (λ m. m % 2 ^ g) (let t : 2 ^ g * k + q * 2 ^ g ≡ (k + q) * 2 ^ g + 0 = omega (arith, mul_comm (2 ^ g) k, add-mul k q (2 ^ g)) in t)
      ∙ mod-mul-add (k + q) (2 ^ g) 0 (pow_pos g)

  -- a power that is large enough for the size serves it
  serves : g ≤ 14 → 1 ≤ size → size ≤ 511 * 2 ^ g → Serves compact size (2 ^ g)
  serves l one h k r t s =
      let b : ℕ = 2 ^ g * k in
      let u : ℕ = b + rounded size (2 ^ g) in
      let ge : g ≤ exponent_of b u = (exponent_is b u).largest g l (whole_base k) (whole_top k) in
      let m : 2 ^ g ≤ 2 ^ exponent_of b u = pow_mono ge in
      let rs = round_short h in
      let rg = round_ge in
      let p = pow_pos (exponent_of b u) in
      present (over b (rounded size (2 ^ g)) r) (record {
        some = omega arith;
        within = t;
        short = omega arith;
        from = omega arith;
        near = omega arith;
        word = omega arith;
        rights = s;
      })

  -- a power that is too small does not: with the base at that power itself, no larger power divides the base
  fails : g ≤ 14 → size ≤ 65536 → 511 * 2 ^ g < size → Serves compact size (2 ^ g) → ⊥
  fails l s h v =
      let b : ℕ = 2 ^ g * 1 in
      let u : ℕ = b + rounded size (2 ^ g) in
      let one : b ≡ 2 ^ g = omega arith in
      let top : 2 ^ g ≤ 2 ^ 14 = pow_mono l in
      let rl = round_le in
      let rg = round_ge in
      let f = carried_of (over b (rounded size (2 ^ g)) 0) (v 1 0 (omega arith) (omega arith)) in
      let le : exponent_of b u ≤ g = ⊎_elim
      (λ (k : g < exponent_of b u).
      let lt : b < 2 ^ exponent_of b u = omega (arith, pow_below g (exponent_of b u) k) in
      let z = (exponent_is b u).divides_base in
      let y = mod-eq_of_lt {n = b} {m = 2 ^ exponent_of b u} lt in
      let p = pow_pos g in absurd (omega arith))
      (λ k. k) (cases_lt g (exponent_of b u)) in
      let m : 2 ^ exponent_of b u ≤ 2 ^ g = pow_mono le in
      let sh = f.short in
      omega arith

unit_least : (size : ℕ) → 1 ≤ size → size ≤ 65536 → UnitOf compact size (2 ^ unit_exponent_of size)
unit_least size l h =
    let e = unit_exponent_is size h in
    record {
      exponent = unit_exponent_of size;
      low = e.at_least;
      high = omega arith;
      power = refl;
      serves = serves size (unit_exponent_of size) e.at_most l e.enough;
      least = λ d a b v. ⊎_elim
          (λ k. fails size d (omega arith) h k v)
          (λ k. let m = e.least d a k in omega arith)
          (cases_lt (511 * 2 ^ d) size);
    }

pub lawful : Lawful compact
lawful = record {
  span_low = omega arith;
  span_high = omega arith;
  fits = fits;
  read_write = read_write;
  write_read = write_read;
  bounds = bounds;
  any_rights = any_rights;
  units = unit_least;
}
