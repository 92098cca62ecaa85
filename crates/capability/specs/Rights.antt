-- Rights and what a capability covers.
use Rattle.std.specs.Prelude.{ℕ, ◌/◌, ◌%◌, Bool, ◌==◌}
use Rattle.capability.specs.declared.types.Capability.{Capability}
use Rattle.capability.specs.declared.types.Right.{Right}
use Rattle.capability.specs.declared.types.Right.TheVariants.{LoadData, StoreData, LoadCapabilities, StoreCapabilities, Global, StoreLocal}

-- the number of each right; the rights of a capability are a sum of these, each at most once
abbrev pub weight : Right → ℕ
weight LoadData = 1
weight StoreData = 2
weight LoadCapabilities = 4
weight StoreCapabilities = 8
weight Global = 16
weight StoreLocal = 32

-- whether a sum of rights has this right in it
abbrev pub includes : ℕ → Right → Bool
includes sum r = sum / weight r % 2 == 1

-- whether a capability has a right
abbrev pub has : Right → Capability → Bool
has r c = includes c.rights r

-- every right
abbrev pub all_rights : ℕ
all_rights = 63
