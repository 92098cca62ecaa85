-- The blocks on record, as the plain memory has them.
use Rattle.std.specs.Prelude.{◌≡◌, ◌%◌, ◌<◌, ◌≤◌, List, length, take}
use Rattle.std.specs.List.{All}
use Rattle.plain.specs.Blocks.{Entry}
use Rattle.plain.specs.Memory.{block_limit}
use Rattle.table.specs.declared.block.Block.TheInside as block
use Rattle.table.specs.declared.table.Table.TheInside as table

-- a block with its bytes, serial and state
abbrev pub entry : block.Inside → Entry
entry b = record { start = b.start; end = b.end; serial = b.serial; state = b.state }

-- the used ones, in the order of the table
abbrev pub recorded : table.Inside → List Entry
recorded t = take t.used t.blocks

-- no block is empty, and each is whole granules
abbrev pub Whole : Entry → Type 0
Whole b = (b.start < b.end) × (b.start % 8 ≡ 0) × (b.end % 8 ≡ 0)

-- at most 64 blocks, and each is whole
abbrev pub Sound : List Entry → Type 0
Sound bs = (length bs ≤ block_limit) × All Whole bs
