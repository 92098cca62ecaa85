use Rattle.std.proofs.Common.{sym, ◌≡◌, ◌+◌, ◌*◌, ◌-◌, arith}
use Rattle.stored_bytes.proofs.Renewed.{overlaid_none}
use Rattle.copying.specs.Copy.{arriving}
use Rattle.copying.proofs.Counts.{none_carried}
use Rattle.copying.proofs.copy_bytes.Goals as goal

pub returns-then-size-eq0-clause-after : goal.returns-then-size-eq0-clause-after
returns-then-size-eq0-clause-after g c = λ passes computes.
    let f = g.S.Store.origin c.args.store.now in
    let xs = g.S.Store.cells c.args.store.now in
    overlaid_none (arriving passes f xs c.args.to c.args.from c.args.size) f xs c.args.to c.args.size c.if-size-eq0.true

pub returns-then-size-eq0-clause-number : goal.returns-then-size-eq0-clause-number
returns-then-size-eq0-clause-number g c = λ passes computes. sym (none_carried passes _ _ c.args.to c.args.from c.args.size c.if-size-eq0.true)

pub returns-clause-after : goal.returns-clause-after
returns-clause-after g c = λ passes computes.
    let base = 8 * g.S.Store.origin c.args.store.now in
    let to : base + (c.args.to - 8 * c.first.result) ≡ c.args.to = omega arith in
    let from : base + (c.args.from - 8 * c.first.result) ≡ c.args.from = omega arith in
    let made = c.run.ensures.after passes computes in
    cc

pub returns-clause-number : goal.returns-clause-number
returns-clause-number g c = λ passes computes.
    let base = 8 * g.S.Store.origin c.args.store.now in
    let to : base + (c.args.to - 8 * c.first.result) ≡ c.args.to = omega arith in
    let from : base + (c.args.from - 8 * c.first.result) ≡ c.args.from = omega arith in
    let made = c.run.ensures.number passes computes in
    cc
