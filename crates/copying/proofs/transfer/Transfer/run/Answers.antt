use Rattle.std.proofs.Common.{◌≡◌, ◌+◌, ◌-◌, ◌*◌, ◌/◌, ◌≤◌, cond, leb, sym, refl, ◌∙◌, arith}
use Rattle.std.proofs.lemmas.Bool.{leb-true, leb-false, le-leb, lt-leb, cond-true, cond-false}
use Rattle.stored_bytes.proofs.Renewed.{renewed_touched}
use Rattle.copying.specs.Copy.{arriving}
use Rattle.copying.proofs.Counts.{counted_none, counted_more, counted_all, carried_nth, nth_here, one_at_most, all_carried}
use Rattle.copying.proofs.Turns.{turn_cells, turn_carries, none_yet, all_done}
use Rattle.copying.proofs.transfer.Transfer.run.Goals as goal
use Rattle.copying.proofs.transfer.Transfer.run.Goals.{then-up, else-up}

pub turns-init : goal.turns-init
turns-init g c = record {
  copied = λ passes computes. let l : c.args.self.to / 8 ≤ c.div_ceil-high.result = omega arith in none_yet _ _ _ _ _ l;
  counted = λ passes computes. counted_none _ _ _ _;
  few = omega arith;
  fixed = refl;
  held = refl;
}

pub turns-preserved : goal.turns-preserved
turns-preserved g c =
    let f = g.S.Store.origin c.args.store.now in
    let h = g.S.Store.origin c.turns.store in
    let xs = g.S.Store.cells c.args.store.now in
    let ys = g.S.Store.cells c.turns.store in
    let zs = g.S.Store.cells c.copy_granule.new.store in
    let s = c.args.self in
    let low = s.to / 8 in
    let high = c.div_ceil-high.result in
    let up = leb s.to s.from in
    let k = c.turns.k in
    let i = c.if-up.i in
    let t = c.copy_granule.result in
    let inv = c.turns.invariant in
    let step = c.copy_granule.ensures in
    let place : i ≡ cond up k (low + (high - 1 - k)) =
    elim c.if-up.branch [
      | then-up w ↦ w.i-is ∙ sym (cond-true up k (low + (high - 1 - k)) (le-leb s.to s.from w.if-up.true))
      | else-up w ↦ w.i-is ∙ sym (cond-false up k (low + (high - 1 - k)) (lt-leb s.to s.from w.if-up.false))
    ] in
    record {
      copied = λ passes computes. turn_cells passes f h xs ys zs s.to s.from s.size low high k i t inv.fixed (omega arith) (omega arith)
          (step.after passes computes) (step.carries passes computes) up (leb-true s.to s.from) (leb-false s.to s.from) place (inv.copied passes computes);
      counted = λ passes computes.
          let is = turn_carries passes f h xs ys zs s.to s.from s.size low high k i t inv.fixed (omega arith) (omega arith)
          (step.after passes computes) (step.carries passes computes) up (leb-true s.to s.from) (leb-false s.to s.from) place (inv.copied passes computes) in
          counted_more (carried_nth passes f xs (8 * f + s.to) (8 * f + s.from) s.size low) low high up k i c.turns.carried c.from-carried.result t (omega arith) (omega arith) place
          (is ∙ nth_here passes f xs (8 * f + s.to) (8 * f + s.from) s.size low i (omega arith)) c.from-carried.ensures (inv.counted passes computes);
      few = omega (arith, one_at_most t);
      fixed = step.fixed ∙ inv.fixed;
      held = step.held ∙ inv.held;
    }

pub returns-clause-after : goal.returns-clause-after
returns-clause-after g c = λ passes computes.
    let f = g.S.Store.origin c.args.store.now in
    let xs = g.S.Store.cells c.args.store.now in
    let s = c.args.self in
    let low = s.to / 8 in
    let high = c.div_ceil-high.result in
    c.turns.invariant.copied passes computes
    ∙ all_done (leb s.to s.from) _ xs low high c.turns.k (omega arith)
    ∙ renewed_touched (arriving passes f xs (8 * f + s.to) (8 * f + s.from) s.size) f xs (8 * f + s.to) s.size low high (omega arith) (omega arith) (omega arith)

pub returns-clause-number : goal.returns-clause-number
returns-clause-number g c = λ passes computes.
    let f = g.S.Store.origin c.args.store.now in
    let xs = g.S.Store.cells c.args.store.now in
    let s = c.args.self in
    let low = s.to / 8 in
    let high = c.div_ceil-high.result in
    counted_all (carried_nth passes f xs (8 * f + s.to) (8 * f + s.from) s.size low) low high (leb s.to s.from) c.turns.k c.turns.carried (omega arith) (c.turns.invariant.counted passes computes)
    ∙ all_carried passes f xs (8 * f + s.to) (8 * f + s.from) s.size low (high - low) (omega arith) (omega arith) (omega arith) (omega arith) (omega arith)
