use Rattle.std.proofs.Common.{◌≡◌, ◌+◌, ◌≤◌, ◌++◌, length, vec_items}
use Rattle.memory.specs.Of.{plain}
use Rattle.text.specs.Lines.{coming}
use Rattle.trace.specs.Run.{replies}
use Rattle.trace.proofs.run.reply_all.Given as goal

abbrev pub invariant-loop-line : goal.invariant-loop-line
invariant-loop-line g l =
    (l.number + length (coming l.line-iterator) ≤ 65539)
    × (vec_items l.out ++ replies g.F.Format.meaning (plain g.S.Store.origin g.S.Store.cells l.memory) l.number (coming l.line-iterator)
    ≡ vec_items l.initial.out ++ replies g.F.Format.meaning (plain g.S.Store.origin g.S.Store.cells l.initial.memory) 2 (coming l.fn.reader))
