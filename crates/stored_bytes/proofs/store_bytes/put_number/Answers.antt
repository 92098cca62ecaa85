use Rattle.std.proofs.Common.{◌≡◌, ℕ, ◌+◌, ◌-◌, ◌*◌, ◌/◌, ◌%◌, ◌^◌, ap, ◌∙◌, arith}
use Rattle.stored_bytes.specs.Bytes.{stored}
use Rattle.stored_bytes.proofs.Stored.{stored_parts}
use Rattle.stored_bytes.proofs.store_bytes.put_number.Goals as goal

pub returns-then-here-width-clause-after : goal.returns-then-here-width-clause-after
returns-then-here-width-clause-after g c =
    let f = g.S.Store.origin c.args.store.now in
    let xs = g.S.Store.cells c.args.store.now in
    let ys = g.S.Store.cells c.put_within.new.store in
    let zs = g.S.Store.cells c.put_within-then-here-width.new.store in
    let x = c.args.x in
    let n = c.args.width in
    let v = c.args.value in
    let h = c.min-here.result in
    let at : 8 * (x / 8) + x % 8 ≡ x = omega arith in
    let next : 8 * (x / 8 + 1) + 0 ≡ x + h = omega arith in
    stored_parts f xs ys zs x n h v (omega arith) (omega arith) (omega arith) (omega arith)
    (c.put_within.ensures.after ∙ ap (λ (a : ℕ). stored f xs a h v) at)
    (c.put_within-then-here-width.ensures.after
    ∙ ap (λ (o : ℕ). stored o ys (8 * (x / 8 + 1) + 0) (n - h) (v / 2 ^ (8 * h))) c.put_within.ensures.fixed
    ∙ ap (λ (a : ℕ). stored f ys a (n - h) (v / 2 ^ (8 * h))) next)
