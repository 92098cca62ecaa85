use Rattle.std.proofs.Common.{ℕ, ◌+◌, ◌*◌, ◌^◌, ◌<◌, false, set, ap, ◌∙◌, arith}
use Rattle.store.specs.Cells.{Cell}
use Rattle.copying.proofs.After.{mixed_is}
use Rattle.copying.proofs.transfer.Transfer.copy_part.Goals as goal

pub returns-clause-after : goal.returns-clause-after
returns-clause-after g c =
    let f = g.S.Store.origin c.args.store.now in
    let xs = g.S.Store.cells c.args.store.now in
    let fits : c.granule_at-old.result.0 < 2 ^ 64 = omega arith in
    let word = mixed_is f xs (8 * f + c.args.self.to) (8 * f + c.args.self.from) c.args.self.size c.args.i
    c.granule_at-old.result.0 c.assemble-new.result c.saturating_sub-low.result c.min-high.result c.merge.result
    (omega arith) (omega arith) (omega arith) (omega arith) (omega arith) (ap (λ (v : Cell). v.0) c.granule_at-old.ensures) fits _ (omega arith) c.assemble-new.ensures c.merge.ensures in
    c.set.ensures.after ∙ ap (λ (w : ℕ). set xs c.args.i (w, false)) word
