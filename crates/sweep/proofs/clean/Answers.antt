use Rattle.std.proofs.Common.{◌<◌, Bool, false, length, get_or, set, ap, ◌∙◌, arith, rules}
use Rattle.std.proofs.lemmas.List.{get_or_default}
use Rattle.std.proofs.lemmas.List.Edits.{map_over_more}
use Rattle.plain.specs.Memory.{cleaned}
use Rattle.sweep.proofs.clean.Goals as goal

pub loop-slot-preserved : goal.loop-slot-preserved
loop-slot-preserved g c =
    let i = c.loop-slot.slot-index in
    let now = c.loop-slot.slot-items in
    let v = get_or now i (record { word = 0; tag = false }) in
    let lt : i < length now = omega (arith, c.loop-slot.invariant.sized) in
    let long : i < length c.args.slots.now.cells = omega (arith, c.args.slots.now.sized) in
    record {
      sized = search rules;
      cleaned =
          ap (λ (t : Bool). set now i (record { word = v.word; tag = t })) c.spared-slot.ensures
          ∙ map_over_more (cleaned g.F.Format.meaning c.args.table.now) c.args.slots.now.cells now i v long c.loop-slot.invariant.cleaned (get_or_default now i _ v lt);
    }
