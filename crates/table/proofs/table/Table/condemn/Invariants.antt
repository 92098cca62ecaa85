use Rattle.std.proofs.Common.{◌≡◌, ◌++◌, take, drop}
use Rattle.plain.specs.Memory.{opened}
use Rattle.table.proofs.table.Table.condemn.Given as goal

abbrev pub invariant-loop-block : goal.invariant-loop-block
invariant-loop-block l = l.block-items ≡ opened (take l.block-index l.initial.block-items) ++ drop l.block-index l.initial.block-items
