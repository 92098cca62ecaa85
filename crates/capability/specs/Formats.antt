-- What a format means, and the laws that every format shows.
use Rattle.std.specs.Prelude.{◌≡◌, ℕ, ◌+◌, ◌-◌, ◌*◌, ◌/◌, ◌^◌, ◌<◌, ◌≤◌, true, cond, ◌&&◌, is_some, Some, Ok, Err, Option, Result, nat_le}
use Rattle.std.specs.Option.{ok_or}
use Rattle.capability.specs.declared.refusal.Refusal.{Refusal}
use Rattle.capability.specs.declared.refusal.Refusal.TheVariants.{BadParameter, NotCarried, NotCapability}
use Rattle.capability.specs.declared.types.Capability.{Capability}

-- what a format means
pub record Meaning : Type 0 where
  -- no capability reaches past this address
  pub span : ℕ
  -- the map from the capabilities that the format carries to their words
  pub word : Capability → Option ℕ
  -- the capability that a word reads as, if it reads as one
  pub capability : ℕ → Option Capability
  -- the unit of a size from 1 to 65,536
  pub unit : ℕ → ℕ

-- the same bounds and address with other rights
abbrev pub with_rights : Capability → ℕ → Capability
with_rights c r = record { base = c.base; top = c.top; address = c.address; rights = r }

-- a size rounded up to a multiple of the unit
abbrev pub rounded : ℕ → ℕ → ℕ
rounded size unit = (size + (unit - 1)) / unit * unit

-- the capability over so many bytes from a start on, its address at the start
abbrev pub over : ℕ → ℕ → ℕ → Capability
over start size rights = record { base = start; top = start + size; address = start; rights = rights }

-- a unit serves a size: at each multiple of the unit, as far as the span goes, the rounded size is in the map
abbrev pub Serves : Meaning → ℕ → ℕ → Type 0
Serves m size unit = (k r : ℕ) → unit * k + rounded size unit ≤ m.span → r ≤ 63 → is_some (m.word (over (unit * k) (rounded size unit) r)) ≡ true

-- the unit of a size: the least power of two, from 8 to 65,536, that serves it
pub record UnitOf (m : Meaning) (size unit : ℕ) : Type 0 where
  pub exponent : ℕ
  pub low : 3 ≤ exponent
  pub high : exponent ≤ 16
  pub power : unit ≡ 2 ^ exponent
  pub serves : Serves m size unit
  pub least : (e : ℕ) → 3 ≤ e → e < exponent → Serves m size (2 ^ e) → ⊥

-- the laws
pub record Lawful (m : Meaning) : Type 0 where
  -- the span is from 65,536 to 4,294,967,288
  pub span_low : 65536 ≤ m.span
  pub span_high : m.span ≤ 4294967288
  -- a word has 64 bits, an address 32, and rights are a sum of the six
  pub fits : (c : Capability) (w : ℕ) → m.word c ≡ Some w → (w < 2 ^ 64) × (c.address < 2 ^ 32) × (c.rights ≤ 63)
  -- read undoes write, and write undoes read
  pub read_write : (c : Capability) (w : ℕ) → m.word c ≡ Some w → m.capability w ≡ Some c
  pub write_read : (c : Capability) (w : ℕ) → m.capability w ≡ Some c → m.word c ≡ Some w
  -- base is less than top, and top is at most the span
  pub bounds : (c : Capability) (w : ℕ) → m.word c ≡ Some w → (c.base < c.top) × (c.top ≤ m.span)
  -- a capability that is carried is carried with any other rights
  pub any_rights : (c : Capability) (w r : ℕ) → m.word c ≡ Some w → r ≤ 63 → is_some (m.word (with_rights c r)) ≡ true
  -- the unit of each size is the least
  pub units : (size : ℕ) → 1 ≤ size → size ≤ 65536 → UnitOf m size (m.unit size)

-- what write, read and unit answer
abbrev pub written : Meaning → Capability → Result ℕ Refusal
written m c = ok_or (m.word c) NotCarried

abbrev pub reading : Meaning → ℕ → Result Capability Refusal
reading m w = ok_or (m.capability w) NotCapability

abbrev pub unit_for : Meaning → ℕ → Result ℕ Refusal
unit_for m size = cond (nat_le 1 size && nat_le size 65536) (Ok (m.unit size)) (Err BadParameter)
