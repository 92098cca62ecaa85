-- Units, and where usable granules end. Assumes nothing.
use Rattle.std.proofs.Common.{◌≡◌, ℕ, ◌+◌, ◌-◌, ◌*◌, ◌/◌, ◌%◌, ◌^◌, ◌<◌, ◌≤◌, Bool, true, false, cond, ◌&&◌, leb, Ok, Err, refl, ap, ◌∙◌, arith, pow_pos, pow_mono, pow-add}
use Rattle.std.proofs.lemmas.Bool.{and_parts, leb-true}
use Rattle.std.proofs.lemmas.Nat.{div-add-mod'}
use Rattle.capability.specs.Formats.{Meaning, Lawful, rounded, unit_for}
use Rattle.table.proofs.Rooms.{multiple_past, multiple_near, multiple_even}

granted : {T E : Type 0} (b : Bool) (x u : T) (e : E) → Ok u ≡ cond b (Ok x) (Err e) → (b ≡ true) × (u ≡ x)
granted true x u e h = (refl, cc)
granted false x u e h = cc

-- what is known of a unit that was given
pub record GivenUnit (size unit : ℕ) : Type 0 where
  pub some : 1 ≤ size
  pub most : size ≤ 65536
  pub positive : 0 < unit
  pub small : unit ≤ 65536
  pub granules : (x : ℕ) → x % unit ≡ 0 → x % 8 ≡ 0

-- a multiple of 2^(3 + d) is a multiple of 8
by_eight : (d x u : ℕ) → u ≡ 8 * 2 ^ d → x % u ≡ 0 → x % 8 ≡ 0
by_eight d x u e z =
    let split = div-add-mod' x u in
    let q = x / u in
    let f : q * u ≡ 8 * (q * 2 ^ d) = ap (λ (n : ℕ). q * n) e ∙ native.Mathlib.Nat.mul_left_comm q 8 (2 ^ d) in
    omega arith

pub given_unit : (m : Meaning) → Lawful m → (size unit : ℕ) → Ok unit ≡ unit_for m size → GivenUnit size unit
given_unit m laws size unit h =
    let g = granted (leb 1 size && leb size 65536) (m.unit size) unit _ h in
    let p = and_parts (leb 1 size) (leb size 65536) g.0 in
    let low = leb-true 1 size p.0 in
    let high = leb-true size 65536 p.1 in
    let u = laws.units size low high in
    let same : unit ≡ 2 ^ u.exponent = g.1 ∙ u.power in
    let pos = pow_pos u.exponent in
    let top : 2 ^ u.exponent ≤ 2 ^ 16 = pow_mono u.high in
    let eight : unit ≡ 8 * 2 ^ (u.exponent - 3) = same ∙ ap (λ (n : ℕ). 2 ^ n) (let e : u.exponent ≡ 3 + (u.exponent - 3) = omega (arith, u.low) in e) ∙ pow-add 2 3 (u.exponent - 3) in
    record {
      some = low;
      most = high;
      positive = omega arith;
      small = omega arith;
      granules = λ x z. by_eight (u.exponent - 3) x unit eight z;
    }

-- what is known of a size rounded up to it
pub record RoundedSize (size unit : ℕ) : Type 0 where
  pub positive : 0 < rounded size unit
  pub small : rounded size unit < 131072
  pub granules : rounded size unit % 8 ≡ 0
  pub even : rounded size unit % unit ≡ 0

pub rounded_size : (size unit : ℕ) → GivenUnit size unit → RoundedSize size unit
rounded_size size unit g =
    let past = multiple_past size unit g.positive in
    let near = multiple_near size unit g.positive in
    let even = multiple_even ((size + (unit - 1)) / unit) unit g.positive in
    record { positive = omega (arith, g.some); small = omega (arith, g.most, g.small); granules = g.granules (rounded size unit) even; even = even }

-- the sum of two multiples of 8 is one
pub sum_granules : (x y : ℕ) → x % 8 ≡ 0 → y % 8 ≡ 0 → (x + y) % 8 ≡ 0
sum_granules x y p q = omega arith
