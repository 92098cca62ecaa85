use Rattle.std.proofs.Common.{ap, ◌∙◌}
use Rattle.stored_bytes.specs.Bytes.{renewed}
use Rattle.stored_bytes.proofs.Renewed.{none, renewed_clear}
use Rattle.stored_bytes.proofs.store_bytes.clear.Goals as goal

pub returns-clause-after : goal.returns-clause-after
returns-clause-after g c =
    let cells = g.S.Store.cells c.args.store.now in
    let e = c.count.ensures in
    c.blank_granules.ensures.after ∙ ap (renewed none cells 0) e ∙ renewed_clear cells
