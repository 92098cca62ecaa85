use Rattle.std.proofs.Common.{false, List, set, refl, ap, ◌∙◌, arith}
use Rattle.store.specs.Cells.{Cell}
use Rattle.stored_bytes.proofs.Renewed.{none, renewed_none, renewed_more}
use Rattle.stored_bytes.proofs.store_bytes.blank_granules.Goals as goal

pub loop-i-init : goal.loop-i-init
loop-i-init g c = (renewed_none none (g.S.Store.cells c.args.store.now) c.args.low, refl, refl)

pub loop-i-preserved : goal.loop-i-preserved
loop-i-preserved g c = (
  c.set.ensures.after
      ∙ ap (λ (x : List Cell). set x c.loop-i.i (0, false)) c.loop-i.invariant.0
      ∙ renewed_more none (g.S.Store.cells c.args.store.now) c.args.low c.loop-i.i (0, false) (omega arith) refl,
  c.set.ensures.fixed ∙ c.loop-i.invariant.1,
  c.set.ensures.held ∙ c.loop-i.invariant.2,
)
