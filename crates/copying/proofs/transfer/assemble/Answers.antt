use Rattle.std.proofs.Common.{◌≡◌, ℕ, ◌+◌, ◌-◌, ◌*◌, ◌/◌, ◌%◌, ◌^◌, ◌<◌, sym, ap, ◌∙◌, mod-eq_of_lt, arith}
use Rattle.store.specs.Cells.{Cell, cell}
use Rattle.stored_bytes.proofs.Places.{of_two}
use Rattle.copying.proofs.transfer.assemble.Goals as goal

pub returns : goal.returns
returns g c =
    let f = g.S.Store.origin c.args.store.now in
    let xs = g.S.Store.cells c.args.store.now in
    let x = 8 * f + c.args.x in
    let l = c.granule_at-low.result.0 in
    let h = c.granule_at-high.result.0 in
    let fits : l < 2 ^ 64 = omega arith in
    let small : c.slide.result < 256 ^ 8 = omega arith in
    let r : c.args.x % 8 ≡ x % 8 = omega arith in
    let i : c.args.x / 8 ≡ x / 8 - f = omega arith in
    let j : c.args.x / 8 + 1 ≡ x / 8 + 1 - f = omega arith in
    sym (mod-eq_of_lt small)
    ∙ of_two f xs x 8 c.slide.result l h (omega arith)
    (ap (λ (v : Cell). v.0) c.granule_at-low.ensures ∙ ap (λ (k : ℕ). (cell xs k).0) i)
    (λ reach. ap (λ (v : Cell). v.0) c.granule_at-high.ensures ∙ ap (λ (k : ℕ). (cell xs k).0) j)
    fits (c.slide.ensures ∙ ap (λ (k : ℕ). (l + h * 2 ^ 64) / 256 ^ k % 2 ^ 64) r)
