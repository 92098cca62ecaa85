use Rattle.std.proofs.Common.{◌≡◌, ℕ, ◌+◌, ◌-◌, ◌/◌, ◌%◌, ◌^◌, ◌<◌, ap, ◌∙◌, arith}
use Rattle.store.specs.Cells.{cell}
use Rattle.stored_bytes.proofs.Places.{of_two}
use Rattle.stored_bytes.proofs.store_bytes.number_at.Goals as goal
use Rattle.stored_bytes.proofs.store_bytes.number_at.Goals.{then-start-width-gt8, else-start-width-gt8}

pub returns : goal.returns
returns g c =
    let f = g.S.Store.origin c.args.store.now in
    let cells = g.S.Store.cells c.args.store.now in
    let x = c.args.x in
    let i : c.saturating_sub.result ≡ x / 8 - f = omega arith in
    let fits : c.word_at-low.result < 2 ^ 64 = omega arith in
    let next : 8 < x % 8 + c.args.width → c.if-start-width-gt8.high ≡ (cell cells (x / 8 + 1 - f)).0 =
    elim c.if-start-width-gt8.branch [
      | then-start-width-gt8 w ↦ λ h.
          let j : w.saturating_sub-then-start-width-gt8.result ≡ x / 8 + 1 - f = omega arith in
          w.high-is ∙ w.word_at-high.ensures ∙ ap (λ (n : ℕ). (cell cells n).0) j
      | else-start-width-gt8 w ↦ λ h. absurd (omega (arith, w.if-start-width-gt8.false))
    ] in
    c.low_bytes.ensures
    ∙ of_two f cells x c.args.width c.slide.result c.word_at-low.result c.if-start-width-gt8.high (omega arith)
    (c.word_at-low.ensures ∙ ap (λ (n : ℕ). (cell cells n).0) i) next fits c.slide.ensures
