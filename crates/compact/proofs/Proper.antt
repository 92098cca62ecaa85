-- Which words are capabilities': the code's tests pass just if a word is the word of the capability that its fields say.
use Rattle.std.proofs.Common.{◌≡◌, ℕ, ◌+◌, ◌-◌, ◌*◌, ◌/◌, ◌%◌, ◌^◌, ◌<◌, ◌≤◌, Some, Ok, Err, sym, ap, subst, ◌∙◌, ⊎_elim, add-mul, lt_of_mul-lt-mul_right, mul-lt-mul_of_pos_right, zero-mul, arith}
use native.Mathlib.Nat.{zero-div}
use Rattle.std.proofs.lemmas.Nat.{pow_pos, shl-shr, shl_whole, shr-shr, mul-le, div-add-mod', mod_below}
use Rattle.std.proofs.lemmas.Bool.{cases_lt}
use Rattle.std.specs.Option.{ok_or}
use Rattle.capability.specs.Fields.{field}
use Rattle.capability.specs.Formats.{reading}
use Rattle.capability.specs.declared.refusal.Refusal.TheVariants.{NotCapability}
use Rattle.capability.specs.declared.types.Capability.{Capability}
use Rattle.compact.specs.Exponents.{exponent_of}
use Rattle.compact.specs.Compact.{nine_bits, word, base_units, top_units, located, compact}
use Rattle.compact.specs.Powers.{exponent_is}
use Rattle.compact.specs.Inverse.{Carried, carries_from, packed_fits}
use Rattle.compact.specs.Laws.{word_given, read_given, read_refused, known, word_fields}

-- the capability that fields say, where its base is not below 0 and its length is not 0, for every exponent together
module _ (a l h e r : ℕ) (fa : a < 2 ^ 32) (fl : l < 512) (fh : h < 512) (fr : r ≤ 63)
    (behind : (a / 2 ^ e + 512 - l) % 512 ≤ a / 2 ^ e) (some : (h + 512 - l) % 512 ≡ 0 → ⊥) where
  abbrev b : ℕ
  b = base_units (a / 2 ^ e) l

  abbrev t : ℕ
  t = top_units b l h

  carried_located : t * 2 ^ e ≤ 4294967288 → Carried e (located a l h e r)
  carried_located within =
      let p = pow_pos e in
      let m = mod_below a (2 ^ e) p in
      let i = div-add-mod' a (2 ^ e) in
      let longest = mul-le ((h + 512 - l) % 512) (2 ^ e) 511 (2 ^ e) (omega arith) (omega arith) in
      let sum = add-mul b ((h + 512 - l) % 512) (2 ^ e) in
      let from = mul-le b (2 ^ e) (a / 2 ^ e) (2 ^ e) (omega arith) (omega arith) in
      let near = mul-le (a / 2 ^ e) (2 ^ e) (b + 511) (2 ^ e) (omega arith) (omega arith) in
      let far = add-mul b 511 (2 ^ e) in
      record {
        some = mul-lt-mul_of_pos_right (let s : b < t = omega arith in s) p;
        within = within;
        short = omega arith;
        from = omega arith;
        near = omega arith;
        word = fa;
        rights = fr;
      }

  -- its nine bits are those of the fields
  low_is : nine_bits e (b * 2 ^ e) ≡ l
  low_is = ap (λ n. n % 512) (shl-shr b e) ∙ (let s : b % 512 ≡ l = omega arith in s)

  high_is : nine_bits e (t * 2 ^ e) ≡ h
  high_is = ap (λ n. n % 512) (shl-shr t e) ∙ (let s : t % 512 ≡ h = omega arith in s)

  pub located_word : exponent_of (b * 2 ^ e) (t * 2 ^ e) ≡ e → t * 2 ^ e ≤ 4294967288
      → word (located a l h e r) ≡ Some (a * 2 ^ 0 + l * 2 ^ 32 + h * 2 ^ 41 + e * 2 ^ 50 + r * 2 ^ 54)
  located_word x within =
      word_given e (located a l h e r) (sym x) (carries_from e (located a l h e r) (carried_located within))
      ∙ λ i. Some (a * 2 ^ 0 + low_is i * 2 ^ 32 + high_is i * 2 ^ 41 + e * 2 ^ 50 + r * 2 ^ 54)

-- the fields of a word as the code takes them
pub record Fields : Type 0 where
  pub address : ℕ
  pub low : ℕ
  pub high : ℕ
  pub exponent : ℕ
  pub rights : ℕ

abbrev pub fields : ℕ → Fields
fields w = record { address = field w 0 32; low = field w 32 9; high = field w 41 9; exponent = field w 50 4; rights = field w 54 6 }

-- the address in units, how far back the base is, how far on the top is from there, and the capability that they say
abbrev pub here : Fields → ℕ
here f = f.address / 2 ^ f.exponent

abbrev pub back : Fields → ℕ
back f = (here f + 512 - f.low) % 512

abbrev pub long : Fields → ℕ
long f = (f.high + 512 - f.low) % 512

abbrev pub plain : Fields → Capability
plain f = located f.address f.low f.high f.exponent f.rights

-- what the code tests of a word
pub record Proper (w : ℕ) (f : Fields) : Type 0 where
  pub short : w < 2 ^ 60
  pub some : long f ≡ 0 → ⊥
  pub behind : back f ≤ here f
  pub within : (plain f).top ≤ 4294967288
  pub exponent : exponent_of (plain f).base (plain f).top ≡ f.exponent

-- a word below 2^60 is its fields side by side
joined : (w : ℕ) → w < 2 ^ 60
    → w / 2 ^ 0 % 2 ^ 32 * 2 ^ 0 + w / 2 ^ 32 % 512 * 2 ^ 32 + w / 2 ^ 41 % 512 * 2 ^ 41 + w / 2 ^ 50 % 16 * 2 ^ 50 + w / 2 ^ 54 % 64 * 2 ^ 54 ≡ w
joined w s =
    let rights : w / 2 ^ 54 % 64 ≡ w / 2 ^ 54 = omega arith in
    omega (arith, shr-shr w 32 9, shr-shr w 41 9, shr-shr w 50 4)

-- a word that passes is the word of the capability that its fields say
proper_word : (w : ℕ) → Proper w (fields w) → word (plain (fields w)) ≡ Some w
proper_word w p =
    located_word (w / 2 ^ 0 % 2 ^ 32) (w / 2 ^ 32 % 512) (w / 2 ^ 41 % 512) (w / 2 ^ 50 % 16) (w / 2 ^ 54 % 64)
    (omega arith) (omega arith) (omega arith) (omega arith) p.behind p.some p.exponent p.within
    ∙ ap Some (joined w p.short)

-- a base that would be below 0 is taken for 0, and the nine bits of 0 are not those of the field
not_behind : (f : Fields) (d : ℕ) → f.low ≡ nine_bits d (plain f).base → here f < back f → ⊥
not_behind f d s far =
    let zero : (plain f).base ≡ 0 = ap (λ n. n * 2 ^ f.exponent) (let z : here f - back f ≡ 0 = omega arith in z) ∙ zero-mul _ in
    let low = s ∙ ap (nine_bits d) zero ∙ ap (λ n. n % 512) (zero-div (2 ^ d)) in
    omega arith

-- and a word that is the word of the capability that its fields say passes
word_proper : (w : ℕ) → word (plain (fields w)) ≡ Some w → Proper w (fields w)
word_proper w h =
    let c = plain (fields w) in
    let k = known c w h in
    let f = word_fields c w h in
    let x = (exponent_is c.base c.top).at_most in
    let b = packed_fits (exponent_of c.base c.top) c x k.0 in
    record {
      short = omega arith;
      some = λ z. let lt = lt_of_mul-lt-mul_right (2 ^ (w / 2 ^ 50 % 16)) k.0.some in omega arith;
      behind = ⊎_elim (λ far. absurd (not_behind (fields w) _ f.1 far)) (λ l. l) (cases_lt (here (fields w)) (back (fields w)));
      within = k.0.within;
      exponent = sym f.0;
    }

-- the code shifts the bounds within 64 bits
abbrev pub shifted : Fields → Capability
shifted f = record {
  base = (here f - back f) * 2 ^ f.exponent % 2 ^ 64;
  top = (here f - back f + long f) * 2 ^ f.exponent % 2 ^ 64;
  address = f.address;
  rights = f.rights;
}

-- so a word is read as the capability that its fields say just if it passes
abbrev Reads : ℕ → Fields → Type 0
Reads w f = (shifted f ≡ plain f) × (Proper w f → Ok (plain f) ≡ reading compact w) × ((Proper w f → ⊥) → Err NotCapability ≡ reading compact w)

reads_plain : (w : ℕ) → Reads w (fields w)
reads_plain w =
    let f = fields w in
    let base = shl_whole (here f - back f) 33 f.exponent 64 (omega arith) (omega arith) in
    let top = shl_whole (here f - back f + long f) 33 f.exponent 64 (omega arith) (omega arith) in (
      λ i. record { base = base i; top = top i; address = f.address; rights = f.rights },
      λ p. sym (ap (λ o. ok_or o NotCapability) (read_given w (proper_word w p))),
      λ n. sym (ap (λ o. ok_or o NotCapability) (read_refused w (λ q. n (word_proper w q)))),
    )

pub reads : (w : ℕ) (f : Fields) → f ≡ fields w → Reads w f
reads w f is = subst (Reads w) (sym is) (reads_plain w)
