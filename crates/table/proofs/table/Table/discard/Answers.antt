use Rattle.std.proofs.Common.{◌≡◌, ◌<◌, true, false, not, length, get_or, sym, ap, ◌∙◌, arith}
use Rattle.std.proofs.lemmas.List.Elements.{All-get_or, All-set}
use Rattle.std.proofs.lemmas.List.Filters.{FiltersInPlace-more_no, FiltersInPlace-more_set}
use Rattle.std.proofs.lemmas.List.{get_or_default, length-set}
use Rattle.plain.specs.Blocks.{is_condemned}
use Rattle.table.specs.declared.block.Block.{Block}
use Rattle.table.specs.Recorded.{Whole}
use Rattle.table.proofs.Wholes.{sound_first}
use Rattle.table.proofs.table.Table.discard.Goals as goal
use Rattle.table.proofs.table.Table.discard.Goals.{then-not-is_condemned, else-not-is_condemned}

pub loop-place-preserved : goal.loop-place-preserved
loop-place-preserved c =
    let bs = c.loop-place.self-inside.blocks in
    let i = c.loop-place.place in
    let b : Block = get_or bs i c.index-self-place.result in
    let inv = c.loop-place.invariant in
    let lt : i < length bs = omega arith in
    let here : b ≡ get_or bs i b = get_or_default bs i _ b lt in
    elim c.if-not-is_condemned.branch [
      | then-not-is_condemned w ↦
          let d : Block = get_or bs i w.index-self-place-then-not-is_condemned.result in
          let same : d ≡ b = get_or_default bs i _ _ lt in
          let passes : not (is_condemned d.state) ≡ true =
          ap (λ (e : Block). not (is_condemned e.state)) same ∙ ap not (sym c.is_condemned.ensures ∙ w.if-not-is_condemned.true) in
          simp (w.self-inside-is, w.kept-is) (FiltersInPlace-more_set inv.0 lt passes (get_or_default bs i _ d lt), length-set bs c.loop-place.kept d ∙ inv.1, inv.2, All-set Whole bs c.loop-place.kept d (All-get_or Whole bs i _ lt inv.3) inv.3)
      | else-not-is_condemned w ↦
          let fails : not (is_condemned b.state) ≡ false = ap not (sym c.is_condemned.ensures ∙ w.if-not-is_condemned.false) in
          simp (w.self-inside-is, w.kept-is) (FiltersInPlace-more_no inv.0 lt fails here, inv.1, inv.2, inv.3)
    ]

pub invariant_of-self : goal.invariant_of-self
invariant_of-self c = let inv = c.loop-place.invariant in (omega (arith, inv.0.behind, inv.0.within), inv.1, inv.3)

pub returns-clause-sound_after : goal.returns-clause-sound_after
returns-clause-sound_after c = sound_first c.loop-place.kept c.loop-place.self-inside.blocks (omega (arith, c.loop-place.invariant.0.behind, c.loop-place.invariant.0.within)) c.loop-place.invariant.3
