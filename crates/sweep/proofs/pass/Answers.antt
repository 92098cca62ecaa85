use Rattle.std.proofs.Common.{◌≡◌, Bool, false, not, ◌&&◌, List, set, sym, refl, ap, ◌∙◌}
use Rattle.store.specs.Cells.{Cell, cell}
use Rattle.stored_bytes.proofs.Renewed.{renewed_none, renewed_here, renewed_more, renewed_same}
use Rattle.plain.specs.Blocks.{Entry}
use Rattle.plain.specs.Memory.{swept, spared, word_condemned}
use Rattle.capability.specs.Formats.{Meaning}
use Rattle.sweep.proofs.pass.Goals as goal
use Rattle.sweep.proofs.pass.Goals.{then-old, else-old}

pub loop-i-init : goal.loop-i-init
loop-i-init g c = (renewed_none (swept g.F.Format.meaning c.args.table.now (g.S.Store.cells c.args.store.now)) (g.S.Store.cells c.args.store.now) c.args.low, refl, refl)

-- a granule that was untagged stays as it is
untagged : (m : Meaning) (bs : List Entry) (v : Cell) → v.1 ≡ false → ◌≡◌ {A = Cell} (v.0, spared m bs v.0 v.1) v
untagged m bs v e = ap (λ (t : Bool). (v.0, t && not (word_condemned m bs v.0))) e ∙ sym (ap (λ (t : Bool). (v.0, t)) e)

-- a granule whose word and tag were read
read : (m : Meaning) (bs : List Entry) (v w : Cell) (t : Bool) → v ≡ w → t ≡ spared m bs v.0 v.1 → ◌≡◌ {A = Cell} (v.0, t) (w.0, spared m bs w.0 w.1)
read m bs v w t e f = ap (λ (x : Bool). (v.0, x)) f ∙ ap (λ (x : Cell). (x.0, spared m bs x.0 x.1)) e

pub loop-i-preserved : goal.loop-i-preserved
loop-i-preserved g c =
    let m = g.F.Format.meaning in
    let bs = c.args.table.now in
    let cells = g.S.Store.cells c.args.store.now in
    let i = c.loop-i.i in
    let low = c.args.low in
    let got : c.granule_at-word.result ≡ cell cells i =
    c.granule_at-word.ensures ∙ ap (λ (x : List Cell). cell x i) c.loop-i.invariant.0 ∙ renewed_here (swept m bs cells) cells low i in
    elim c.if-old.branch [
      | then-old w ↦ simp w.store-is (
        w.set.ensures.after
            ∙ ap (λ (x : List Cell). set x i (c.granule_at-word.result.0, w.spared-tag.result)) c.loop-i.invariant.0
            ∙ renewed_more (swept m bs cells) cells low i (c.granule_at-word.result.0, w.spared-tag.result) c.loop-i.auto.i
            (read m bs c.granule_at-word.result (cell cells i) w.spared-tag.result got w.spared-tag.ensures),
        w.set.ensures.fixed ∙ c.loop-i.invariant.1,
        w.set.ensures.held ∙ c.loop-i.invariant.2,
      )
      | else-old w ↦ simp w.store-is (
        c.loop-i.invariant.0
            ∙ renewed_same (swept m bs cells) cells low i c.loop-i.auto.i
            (untagged m bs (cell cells i) (ap (λ (x : Cell). x.1) (sym got) ∙ w.if-old.false)),
        c.loop-i.invariant.1,
        c.loop-i.invariant.2,
      )
    ]
