-- The exact format: a word holds base, top and address whole.
use Rattle.std.specs.Prelude.{ℕ, ◌+◌, ◌-◌, ◌*◌, ◌/◌, ◌^◌, Bool, cond, ◌&&◌, Some, None, ◌==◌, nat_le, nat_lt}
use Rattle.capability.specs.Fields.{field}
use Rattle.capability.specs.Formats.{Meaning}
use Rattle.capability.specs.declared.types.Capability.{Capability}

-- a capability is carried if base is less than top, top is at most 65,536, and address and rights fit their fields
abbrev pub carries : Capability → Bool
carries c = nat_lt c.base c.top && nat_le c.top 65536 && nat_le c.address 65535 && nat_le c.rights 63

-- base from bit 0 on, top - 1 from bit 16, the address from bit 32, the rights from bit 48
abbrev pub packed : Capability → ℕ
packed c = c.base * 2 ^ 0 + (c.top - 1) * 2 ^ 16 + c.address * 2 ^ 32 + c.rights * 2 ^ 48

-- the same fields read again: 16 bits for each bound and the address, 6 for the rights
abbrev pub unpacked : ℕ → Capability
unpacked w = record {
  base = field w 0 16;
  top = field w 16 16 + 1;
  address = field w 32 16;
  rights = field w 48 6;
}

-- a word is a capability's if all its bits from 54 on are zero, and base is less than top
abbrev pub proper : ℕ → Bool
proper w = w / 2 ^ 54 == 0 && nat_lt (unpacked w).base (unpacked w).top

-- the format
abbrev pub exact : Meaning
exact = record {
  span = 65536;
  word = λ c. cond (carries c) (Some (packed c)) None;
  capability = λ w. cond (proper w) (Some (unpacked w)) None;
  unit = λ size. 8;
}
