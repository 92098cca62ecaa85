use Rattle.std.proofs.Common.{◌≡◌, not, length}
use Rattle.std.proofs.lemmas.List.Filters.{FiltersInPlace}
use Rattle.std.specs.List.{All}
use Rattle.plain.specs.Blocks.{is_condemned}
use Rattle.table.specs.Recorded.{Whole}
use Rattle.table.proofs.table.Table.discard.Given as goal

abbrev pub invariant-loop-place : goal.invariant-loop-place
invariant-loop-place l =
    FiltersInPlace (λ b. not (is_condemned b.state)) l.initial.self-inside.blocks l.self-inside.blocks l.kept l.place
    × (length l.self-inside.blocks ≡ 64)
    × (l.self-inside.used ≡ l.initial.self-inside.used)
    × All Whole l.self-inside.blocks
