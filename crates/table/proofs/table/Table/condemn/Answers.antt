use Rattle.std.proofs.Common.{◌<◌, ◌++◌, length, get_or, set, drop, ap, ◌∙◌, arith, length-append, length-drop, length-take}
use Rattle.std.proofs.lemmas.List.{get_or_default}
use Rattle.std.proofs.lemmas.List.Edits.{map_over_more}
use Rattle.std.proofs.lemmas.List.Elements.{All-append, All-take, All-drop}
use Rattle.plain.specs.Blocks.{Entry, in_state, opened_state}
use Rattle.table.specs.Recorded.{Whole}
use Rattle.table.proofs.Wholes.{sound_first, opened_whole}
use Rattle.table.proofs.table.Table.condemn.Goals as goal

pub loop-block-preserved : goal.loop-block-preserved
loop-block-preserved c =
    let bs = c.loop-block.block-items in
    let i = c.loop-block.block-index in
    let b : Entry = get_or bs i c.block-item.result in
    let within : i < length bs = omega arith in
    ap (set bs i) c.open.ensures
    ∙ map_over_more (λ (e : Entry). in_state e (opened_state e.state)) _ bs i b (omega arith) c.loop-block.invariant (get_or_default bs i _ b within)

pub invariant_of-self : goal.invariant_of-self
invariant_of-self c =
    let bs = c.self.inside.blocks in
    let n = c.self.inside.used in (
      omega arith,
      omega (arith, length-append c.loop-block.block-items (drop n bs), length-drop n bs, length-take n bs),
      All-append Whole c.loop-block.block-items (drop n bs)
          (opened_whole _ _ _ c.loop-block.invariant (All-take Whole n bs c.self.invariant.2))
          (All-drop Whole n bs c.self.invariant.2),
    )

pub returns-clause-sound_after : goal.returns-clause-sound_after
returns-clause-sound_after c = sound_first c.self.inside.used (c.loop-block.block-items ++ drop c.self.inside.used c.self.inside.blocks) (omega arith) (invariant_of-self c).2
