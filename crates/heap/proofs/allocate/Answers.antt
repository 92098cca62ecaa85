use Rattle.std.proofs.Common.{◌≡◌, ℕ, ◌%◌, ap, ◌∙◌, arith}
use Rattle.heap.proofs.Units.{given_unit, rounded_size, sum_granules}
use Rattle.heap.proofs.allocate.Goals as goal

pub invariant_of-add : goal.invariant_of-add
invariant_of-add g c =
    let u = given_unit g.F.Format.meaning g.met.F.Format.lawful c.args.size c.in_ok-unit.unit c.in_ok-unit.ensures in
    let w = rounded_size c.args.size c.in_ok-unit.unit u in
    let e = c.next_multiple-whole.ensures.is in
    let x = u.granules c.in_ok-start.start c.in_ok-start.ensures.between.1 in
    let y : c.next_multiple-whole.result % 8 ≡ 0 = ap (λ (n : ℕ). n % 8) e ∙ w.granules in
    (omega (arith, w.positive), x, sum_granules c.in_ok-start.start c.next_multiple-whole.result x y)
