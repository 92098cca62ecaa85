-- Worked examples of the two formats.
use Rattle.std.specs.Prelude.{◌≡◌, ℕ, ◌≤◌, true, is_some, Some, None}
use Rattle.capability.specs.Fields.{field}
use Rattle.capability.specs.Formats.{Meaning, rounded}
use Rattle.capability.specs.declared.types.Capability.{Capability}
use Rattle.compact.specs.Compact.{compact}
use Rattle.exact.specs.Exact.{exact}

-- a capability with these bounds, this address and these rights
abbrev pub cap_of : ℕ → ℕ → ℕ → ℕ → Capability
cap_of base top address rights = record { base = base; top = top; address = address; rights = rights }

-- a format carries these bounds with this address, whatever the rights
abbrev pub Carries : Meaning → ℕ → ℕ → ℕ → Type 0
Carries m base top address = (rights : ℕ) → rights ≤ 63 → is_some (m.word (cap_of base top address rights)) ≡ true

-- a format does not carry these bounds with this address, whatever the rights
abbrev pub Refuses : Meaning → ℕ → ℕ → ℕ → Type 0
Refuses m base top address = (rights : ℕ) → m.word (cap_of base top address rights) ≡ None

-- the fields of a compact word: the exponent E, and the nine bits B of base and T of top
abbrev pub field_e : ℕ → ℕ
field_e w = field w 50 4

abbrev pub field_b : ℕ → ℕ
field_b w = field w 32 9

abbrev pub field_t : ℕ → ℕ
field_t w = field w 41 9

abbrev pub field_address : ℕ → ℕ
field_address w = field w 0 32

-- compact carries these bounds with the address at the base, and each word of these bounds has these fields
pub record HasFields (base top e b t : ℕ) : Type 0 where
  pub carried : Carries compact base top base
  pub fields : (address rights w : ℕ) → compact.word (cap_of base top address rights) ≡ Some w
      → (field_e w ≡ e) × (field_b w ≡ b) × (field_t w ≡ t)

pub record Examples : Type 0 where
  -- base 64, top 72 has E 3, B 8, T 9
  pub eight_at_64 : HasFields 64 72 3 8 9
  -- base 0, top 4,088 has E 3, T 511
  pub longest_by_8 : HasFields 0 4088 3 0 511
  -- base 0, top 4,096 has E 12, T 1
  pub one_page : HasFields 0 4096 12 0 1
  -- base 8, top 4,104 is not carried, whatever the address
  pub page_at_8 : (address : ℕ) → Refuses compact 8 4104 address
  -- base 1, top 512 has E 0, B 1, T 0
  pub longest_by_1 : HasFields 1 512 0 1 0
  -- base 1, top 513 is not carried in compact, whatever the address
  pub too_long : (address : ℕ) → Refuses compact 1 513 address
  -- but it is carried in exact
  pub exact_carries : (address : ℕ) → address ≤ 65535 → Carries exact 1 513 address
  -- base 1, top 512 carries the address 512
  pub last_address : Carries compact 1 512 512
  -- and not 0
  pub below_base : Refuses compact 1 512 0
  -- and not 513
  pub past_range : Refuses compact 1 512 513
  -- a word with E 0, B 8, T 16 and the address 8 is no capability
  pub small_exponent : (w : ℕ) → field_e w ≡ 0 → field_b w ≡ 8 → field_t w ≡ 16 → field_address w ≡ 8 → compact.capability w ≡ None
  -- the unit of 4,088 is 8
  pub unit_4088 : compact.unit 4088 ≡ 8
  -- the unit of 4,089 is 16
  pub unit_4089 : compact.unit 4089 ≡ 16
  -- and the rounded size is 4,096
  pub rounded_4089 : rounded 4089 (compact.unit 4089) ≡ 4096
