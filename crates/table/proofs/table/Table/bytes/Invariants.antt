use Rattle.std.proofs.Common.{◌≡◌, ◌*◌, ◌^◌, ◌≤◌, take, sum_by}
use Rattle.plain.specs.Blocks.{size_of}
use Rattle.table.proofs.table.Table.bytes.Given as goal

abbrev pub invariant-loop-block : goal.invariant-loop-block
invariant-loop-block l = (l.sum ≡ sum_by size_of (take l.block-index l.block-items)) × (l.sum ≤ l.block-index * 2 ^ 32)
