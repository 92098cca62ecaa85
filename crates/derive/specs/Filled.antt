-- A slot that becomes a capability.
use Rattle.std.specs.Prelude.{ℕ, true, List, Ok, Err, Result, slice_set}
use Rattle.capability.specs.declared.refusal.Refusal.{Refusal}
use Rattle.plain.specs.declared.types.Slot.{Slot}

-- the slots once one has the word that was written, tagged; as they were where none was
abbrev pub filled : List Slot → ℕ → Result ℕ Refusal → List Slot
filled slots a (Ok w) = slice_set slots a (record { word = w; tag = true })
filled slots a (Err e) = slots
