use Rattle.std.proofs.Common.{refl, arith}
use Rattle.std.proofs.lemmas.List.Elements.{All-replicate}
use Rattle.plain.specs.declared.types.State.TheVariants.{Live}
use Rattle.table.specs.Recorded.{Whole}
use Rattle.table.proofs.table.Table.new.Goals as goal

pub invariant_of-result : goal.invariant_of-result
invariant_of-result c = (omega arith, refl, All-replicate Whole 64 (record { start = 0; end = 8; serial = 0; state = Live }) (omega arith, refl, refl))
