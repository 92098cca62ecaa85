-- The plain memory that a memory is: what its slots, its table and its store hold.
use Rattle.std.specs.Prelude.{◌≡◌, ℕ, List}
use Rattle.store.specs.Cells.{Cell, Kept}
use Rattle.plain.specs.Memory.{Plain}
use Rattle.table.specs.Recorded.{Sound}
use Rattle.memory.specs.declared.memory.Memory.{Memory}

abbrev pub plain : {F S : Type 0} → (S → ℕ) → (S → List Cell) → Memory F S → Plain
plain origin cells m = record {
  slots = m.slots.cells;
  blocks = m.table;
  next = m.next;
  sweep = m.sweep;
  first = origin m.store.now;
  cells = cells m.store.now;
}

-- a memory that has the store that another one had, of which nothing changed but the granules
abbrev pub Keeps : {F S : Type 0} → (S → Kept) → Memory F S → Memory F S → Type 0
Keeps kept old new = (new.store.ghost_name ≡ old.store.ghost_name) × (kept new.store.now ≡ kept old.store.now)

-- at most 64 blocks are on record, none is empty, and each is whole granules
abbrev pub Tabled : {F S : Type 0} → Memory F S → Type 0
Tabled m = Sound m.table
