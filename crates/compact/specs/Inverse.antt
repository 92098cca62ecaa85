-- Reading undoes writing: for every exponent together.
use Rattle.std.specs.Prelude.{◌≡◌, ℕ, ◌+◌, ◌-◌, ◌*◌, ◌/◌, ◌%◌, ◌^◌, ◌<◌, ◌≤◌, true}
use Rattle.std.proofs.Common.{ap, ◌∙◌, add-mul, lt_of_mul-lt-mul_right, arith, rules}
use Rattle.std.proofs.lemmas.Nat.{pow_pos, pow-add, div-add-mod', div_below, le-div}
use Rattle.capability.specs.Fields.{field}
use Rattle.capability.specs.declared.types.Capability.{Capability}
use Rattle.compact.specs.Compact.{carries, nine_bits, packed, base_units, top_units, located, unpacked}

-- what a carried capability is known by
pub record Carried (e : ℕ) (c : Capability) : Type 0 where
  pub some : c.base < c.top
  pub within : c.top ≤ 4294967288
  pub short : c.top - c.base ≤ 511 * 2 ^ e
  pub from : c.base ≤ c.address
  pub near : c.address < c.base + 512 * 2 ^ e
  pub word : c.address < 2 ^ 32
  pub rights : c.rights ≤ 63

-- 2^(e + 9) is 512 * 2^e
nine : (e : ℕ) → 2 ^ (e + 9) ≡ 512 * 2 ^ e
nine e = let p = pow-add 2 e 9 in omega arith

pub carried : (e : ℕ) (c : Capability) → carries e c ≡ true → Carried e c
carried e c h =
    let p = nine e in
    let n : c.address < c.base + 2 ^ (e + 9) = search rules in
    record {
      some = search rules;
      within = search rules;
      short = search rules;
      from = search rules;
      near = omega arith;
      word = search rules;
      rights = search rules;
    }

pub carries_from : (e : ℕ) (c : Capability) → Carried e c → carries e c ≡ true
carries_from e c f =
    let p = nine e in
    let n : c.address < c.base + 2 ^ (e + 9) = omega arith in
    search rules

-- five fields side by side, and what is read from them
module _ (a l h e r : ℕ) (fa : a < 2 ^ 32) (fl : l < 512) (fh : h < 512) (fe : e ≤ 14) (fr : r ≤ 63) where
  get_address : field (a * 2 ^ 0 + l * 2 ^ 32 + h * 2 ^ 41 + e * 2 ^ 50 + r * 2 ^ 54) 0 32 ≡ a
  get_address = omega arith

  pub get_low : field (a * 2 ^ 0 + l * 2 ^ 32 + h * 2 ^ 41 + e * 2 ^ 50 + r * 2 ^ 54) 32 9 ≡ l
  get_low = omega arith

  pub get_high : field (a * 2 ^ 0 + l * 2 ^ 32 + h * 2 ^ 41 + e * 2 ^ 50 + r * 2 ^ 54) 41 9 ≡ h
  get_high = omega arith

  pub get_exponent : field (a * 2 ^ 0 + l * 2 ^ 32 + h * 2 ^ 41 + e * 2 ^ 50 + r * 2 ^ 54) 50 4 ≡ e
  get_exponent = omega arith

  get_rights : field (a * 2 ^ 0 + l * 2 ^ 32 + h * 2 ^ 41 + e * 2 ^ 50 + r * 2 ^ 54) 54 6 ≡ r
  get_rights = omega arith

  pub unpacked_fields : unpacked (a * 2 ^ 0 + l * 2 ^ 32 + h * 2 ^ 41 + e * 2 ^ 50 + r * 2 ^ 54) ≡ located a l h e r
  unpacked_fields = λ i. located (get_address i) (get_low i) (get_high i) (get_exponent i) (get_rights i)

  pub fields_fit : a * 2 ^ 0 + l * 2 ^ 32 + h * 2 ^ 41 + e * 2 ^ 50 + r * 2 ^ 54 < 2 ^ 60
  fields_fit = omega arith

  -- the fields shifted and added up, the address as it stands
  pub shifted : a + (l * 2 ^ 32 % 2 ^ 64 + h * 2 ^ 41 % 2 ^ 64 + e * 2 ^ 50 % 2 ^ 64) + r * 2 ^ 54 % 2 ^ 64
      ≡ a * 2 ^ 0 + l * 2 ^ 32 + h * 2 ^ 41 + e * 2 ^ 50 + r * 2 ^ 54
  shifted = omega arith

  -- the same as the code adds them up, with the address put in its place as the other fields are
  pub fields_sum : a * 2 ^ 0 % 2 ^ 64 + l * 2 ^ 32 % 2 ^ 64 + h * 2 ^ 41 % 2 ^ 64 + e * 2 ^ 50 % 2 ^ 64 + r * 2 ^ 54 % 2 ^ 64
      ≡ a * 2 ^ 0 + l * 2 ^ 32 + h * 2 ^ 41 + e * 2 ^ 50 + r * 2 ^ 54
  fields_sum = omega arith

-- the bounds in units, found again from the address and nine bits of each
base_back : (a b : ℕ) → b ≤ a → a < b + 512 → base_units a (b % 512) ≡ b
base_back a b l h = omega arith

top_back : (b t : ℕ) → b < t → t ≤ b + 511 → top_units b (b % 512) (t % 512) ≡ t
top_back b t l h = omega arith

-- the bounds of a carried capability in units of 2^e
module _ (e : ℕ) (c : Capability) (db : c.base % 2 ^ e ≡ 0) (dt : c.top % 2 ^ e ≡ 0) (f : Carried e c) where
  base_whole : c.base / 2 ^ e * 2 ^ e ≡ c.base
  base_whole = let m = div-add-mod' c.base (2 ^ e) in omega arith

  top_whole : c.top / 2 ^ e * 2 ^ e ≡ c.top
  top_whole = let m = div-add-mod' c.top (2 ^ e) in omega arith

  from : c.base / 2 ^ e ≤ c.address / 2 ^ e
  from = let i = base_whole in le-div (c.base / 2 ^ e) c.address (2 ^ e) (pow_pos e) (omega arith)

  near : c.address / 2 ^ e < c.base / 2 ^ e + 512
  near =
      let i = base_whole in
      let s = add-mul (c.base / 2 ^ e) 512 (2 ^ e) in
      div_below c.address (2 ^ e) (c.base / 2 ^ e + 512) (pow_pos e) (omega arith)

  some : c.base / 2 ^ e < c.top / 2 ^ e
  some = let i = base_whole in let j = top_whole in lt_of_mul-lt-mul_right (2 ^ e) (let k : c.base / 2 ^ e * 2 ^ e < c.top / 2 ^ e * 2 ^ e = omega arith in k)

  short : c.top / 2 ^ e ≤ c.base / 2 ^ e + 511
  short =
      let i = base_whole in
      let j = top_whole in
      let s = add-mul (c.base / 2 ^ e) 512 (2 ^ e) in
      let p = pow_pos e in
      let k = lt_of_mul-lt-mul_right (2 ^ e) (let k : c.top / 2 ^ e * 2 ^ e < (c.base / 2 ^ e + 512) * 2 ^ e = omega arith in k) in
      omega arith

  -- its fields say the capability
  located_is : located c.address (nine_bits e c.base) (nine_bits e c.top) e c.rights ≡ c
  located_is =
      let b : base_units (c.address / 2 ^ e) (nine_bits e c.base) ≡ c.base / 2 ^ e = base_back (c.address / 2 ^ e) (c.base / 2 ^ e) from near in
      let t : top_units (c.base / 2 ^ e) (nine_bits e c.base) (nine_bits e c.top) ≡ c.top / 2 ^ e = top_back (c.base / 2 ^ e) (c.top / 2 ^ e) some short in
      λ i. record {
        base = (ap (λ n. n * 2 ^ e) b ∙ base_whole) i;
        top = (ap (λ n. top_units n (nine_bits e c.base) (nine_bits e c.top) * 2 ^ e) b ∙ ap (λ n. n * 2 ^ e) t ∙ top_whole) i;
        address = c.address;
        rights = c.rights;
      }

  -- reading undoes writing
  pub unpacked_packed : e ≤ 14 → unpacked (packed e c) ≡ c
  unpacked_packed le =
      unpacked_fields c.address (nine_bits e c.base) (nine_bits e c.top) e c.rights f.word (omega arith) (omega arith) le f.rights ∙ located_is

pub packed_fits : (e : ℕ) (c : Capability) → e ≤ 14 → Carried e c → packed e c < 2 ^ 60
packed_fits e c le f =
    fields_fit c.address (nine_bits e c.base) (nine_bits e c.top) e c.rights f.word (omega arith) (omega arith) le f.rights
