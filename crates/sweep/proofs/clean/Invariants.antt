use Rattle.std.proofs.Common.{◌≡◌, ◌++◌, length, map, take, drop}
use Rattle.plain.specs.Memory.{cleaned}
use Rattle.sweep.proofs.clean.Given as goal

abbrev pub invariant-loop-slot : goal.invariant-loop-slot
invariant-loop-slot g l = record {
  sized : length l.slot-items ≡ 16;
  cleaned : l.slot-items ≡ map (cleaned g.F.Format.meaning l.table) (take l.slot-index l.fn.slots.cells) ++ drop l.slot-index l.fn.slots.cells;
}
