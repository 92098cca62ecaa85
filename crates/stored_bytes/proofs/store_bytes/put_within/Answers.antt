use Rattle.std.proofs.Common.{◌≡◌, ℕ, ◌+◌, ◌*◌, ◌^◌, ◌<◌, ◌≤◌, false, ap, ◌∙◌, arith}
use Rattle.stored_bytes.proofs.Renewed.{renewed_none, renewed_one, renewed_touched}
use Rattle.stored_bytes.proofs.Stored.{fresh, written_is}
use Rattle.stored_bytes.proofs.store_bytes.put_within.Goals as goal

pub returns-in_default-clause-after : goal.returns-in_default-clause-after
returns-in_default-clause-after g c =
    let f = g.S.Store.origin c.args.store.now in
    let xs = g.S.Store.cells c.args.store.now in
    let x = 8 * c.args.granule + c.args.start in
    let new = fresh f xs x c.args.width c.args.value in
    let above : f ≤ c.args.granule → ⊥ = λ h. c.in_default.ensures (omega arith) in
    let below : c.args.granule < f = omega (arith, above) in
    renewed_none new xs 0 ∙ renewed_touched new f xs x c.args.width 0 0 (omega arith) (omega arith) (omega arith)

pub returns-clause-after : goal.returns-clause-after
returns-clause-after g c =
    let f = g.S.Store.origin c.args.store.now in
    let xs = g.S.Store.cells c.args.store.now in
    let i = c.in-Some.i in
    let has = c.in-Some.ensures in
    let x = 8 * c.args.granule + c.args.start in
    let n = c.args.width in
    let v = c.args.value in
    let new = fresh f xs x n v in
    let w = c.merge-word.result in
    let fits : c.word_at.result < 2 ^ 64 = omega arith in
    let word : w ≡ (new i).0 =
    written_is f xs x n i c.args.start (c.args.start + n) c.word_at.result v w (omega arith) (omega arith) (omega arith) (omega arith) (omega arith) c.word_at.ensures fits c.merge-word.ensures in
    c.set.ensures.after
    ∙ renewed_one new xs i (w, false) (ap (λ (k : ℕ). (k, false)) word)
    ∙ renewed_touched new f xs x n i (i + 1) (omega arith) (omega arith) (omega arith)
