-- The plain memory that some parts make.
use Rattle.std.specs.Prelude.{List, ℕ}
use Rattle.store.specs.Cells.{Cell}
use Rattle.plain.specs.declared.types.Slot.{Slot}
use Rattle.plain.specs.declared.types.Sweep.{Sweep}
use Rattle.plain.specs.Blocks.{Entry}
use Rattle.plain.specs.Memory.{Plain}

-- slots, blocks, the next serial, a sweep, and a store by the number of its first granule and its granules
abbrev pub made_of : List Slot → List Entry → ℕ → Sweep → ℕ → List Cell → Plain
made_of slots blocks next sweep first cells = record { slots = slots; blocks = blocks; next = next; sweep = sweep; first = first; cells = cells }
