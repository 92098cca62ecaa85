use Rattle.std.proofs.Common.{◌≡◌, ℕ, ◌+◌, ◌-◌, ◌%◌, ◌^◌, ◌<◌, ◌≤◌, true, ◌⊎◌, length}
use Rattle.plain.specs.Blocks.{entry_at, free_at}
use Rattle.table.proofs.Rooms.{Apart, Round}
use Rattle.table.proofs.table.Table.room.Given as goal

abbrev pub invariant-starts : goal.invariant-starts
invariant-starts l = (l.start % l.unit ≡ 0) × (l.low ≤ l.start) × (l.start ≤ 2 ^ 37)
    × ((y : ℕ) → y < l.start → free_at l.blocks l.low l.high l.unit l.size y ≡ true → ⊥)
    × ((l.place < length l.blocks) ⊎ (length l.blocks ≡ 0))

abbrev pub invariant-scan : goal.invariant-scan
invariant-scan l = (l.start ≡ l.initial.start)
    × Round (length l.blocks) (λ k. Apart l.initial.start l.top (entry_at l.blocks k)) l.place l.clear

abbrev pub decreases-scan : goal.decreases-scan
decreases-scan l = length l.blocks - l.clear

abbrev pub decreases-starts : goal.decreases-starts
decreases-starts l = (l.high + 1) - l.start
