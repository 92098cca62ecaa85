use Rattle.std.proofs.Common.{◌∙◌, arith}
use Rattle.stored_bytes.proofs.Renewed.{none, renewed_touched, overlaid_none}
use Rattle.stored_bytes.proofs.store_bytes.blank.Goals as goal

pub returns-then-n-eq0-clause-after : goal.returns-then-n-eq0-clause-after
returns-then-n-eq0-clause-after g c =
    overlaid_none none (g.S.Store.origin c.args.store.now) (g.S.Store.cells c.args.store.now) c.args.x c.args.n (omega arith)

pub returns-clause-after : goal.returns-clause-after
returns-clause-after g c =
    c.blank_granules.ensures.after
    ∙ renewed_touched none (g.S.Store.origin c.args.store.now) (g.S.Store.cells c.args.store.now) c.args.x c.args.n _ _ (omega arith) (omega arith) (omega arith)
