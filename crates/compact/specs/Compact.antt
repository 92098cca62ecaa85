-- The compact format: bounds by an exponent and nine bits each, beside an address of 32 bits.
use Rattle.std.specs.Prelude.{ℕ, ◌+◌, ◌-◌, ◌*◌, ◌/◌, ◌%◌, ◌^◌, Bool, false, cond, ◌&&◌, Some, None, Option, ◌==◌, nat_le, nat_lt}
use Rattle.capability.specs.Fields.{field}
use Rattle.capability.specs.Formats.{Meaning}
use Rattle.capability.specs.declared.types.Capability.{Capability}
use Rattle.compact.specs.Exponents.{exponent_of, unit_exponent_of}

-- a capability whose bounds have the exponent e is carried if base is less than top, top is at most the span,
-- top - base is at most 511 * 2^e, the address is from base to base + 2^(e + 9) - 1 and has 32 bits, and rights are at most 63
abbrev pub carries : ℕ → Capability → Bool
carries e c = nat_lt c.base c.top && nat_le c.top 4294967288 && nat_le (c.top - c.base) (511 * 2 ^ e)
    && nat_le c.base c.address && nat_lt c.address (c.base + 2 ^ (e + 9)) && nat_lt c.address (2 ^ 32) && nat_le c.rights 63

-- nine bits of a bound, in units of 2^e
abbrev pub nine_bits : ℕ → ℕ → ℕ
nine_bits e bound = bound / 2 ^ e % 512

-- the address from bit 0 on, base from bit 32, top from bit 41, the exponent from bit 50, the rights from bit 54
abbrev pub packed : ℕ → Capability → ℕ
packed e c = c.address * 2 ^ 0 + nine_bits e c.base * 2 ^ 32 + nine_bits e c.top * 2 ^ 41 + e * 2 ^ 50 + c.rights * 2 ^ 54

-- the word of a capability whose bounds have the exponent e, if it is carried
abbrev pub word_at : ℕ → Capability → Option ℕ
word_at e c = cond (carries e c) (Some (packed e c)) None

-- a capability's word
unfoldable pub word : Capability → Option ℕ
word c = word_at (exponent_of c.base c.top) c

-- the base in units: the last number up to the address that ends in these nine bits (where there is none it is 0, which ends
-- in others, and the word reads as nothing)
abbrev pub base_units : ℕ → ℕ → ℕ
base_units here low = here - (here + 512 - low) % 512

-- the top in units: the first number from the base on that ends in these nine bits
abbrev pub top_units : ℕ → ℕ → ℕ → ℕ
top_units base low high = base + (high + 512 - low) % 512

-- the capability that fields say
abbrev pub located : ℕ → ℕ → ℕ → ℕ → ℕ → Capability
located address low high e rights = record {
  base = base_units (address / 2 ^ e) low * 2 ^ e;
  top = top_units (base_units (address / 2 ^ e) low) low high * 2 ^ e;
  address = address;
  rights = rights;
}

-- the capability that the fields of a word say
abbrev pub unpacked : ℕ → Capability
unpacked w = located (field w 0 32) (field w 32 9) (field w 41 9) (field w 50 4) (field w 54 6)

-- whether a word is the one that is looked for
abbrev pub is : Option ℕ → ℕ → Bool
is None w = false
is (Some v) w = v == w

-- a word reads as the capability that its fields say if that capability's word is this one
unfoldable pub capability : ℕ → Option Capability
capability w = cond (is (word (unpacked w)) w) (Some (unpacked w)) None

-- the format
abbrev pub compact : Meaning
compact = record {
  span = 4294967288;
  word = word;
  capability = capability;
  unit = λ size. 2 ^ unit_exponent_of size;
}
