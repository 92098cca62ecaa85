use Rattle.std.proofs.Common.{◌≡◌}
use Rattle.stored_bytes.specs.Bytes.{renewed}
use Rattle.plain.specs.Memory.{swept}
use Rattle.sweep.proofs.pass.Given as goal

abbrev pub invariant-loop-i : goal.invariant-loop-i
invariant-loop-i g l =
    (g.S.Store.cells l.store ≡ renewed (swept g.F.Format.meaning l.table (g.S.Store.cells l.initial.store)) (g.S.Store.cells l.initial.store) l.low l.i)
    × (g.S.Store.origin l.store ≡ g.S.Store.origin l.initial.store)
    × (g.S.Store.kept l.store ≡ g.S.Store.kept l.initial.store)
