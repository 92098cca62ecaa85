use Rattle.std.proofs.Common.{◌∙◌, ap, rules, tests}
use Rattle.std.proofs.lemmas.Iterator.{YieldsList-from_slice}
use Rattle.std.proofs.lemmas.Iterator.Search.{position_from_yields_List}
use Rattle.std.specs.List.{position}
use Rattle.plain.specs.Blocks.{holds}
use Rattle.table.proofs.Places.{position_least}
use Rattle.table.proofs.table.Table.lookup.Goals as goal

pub returns-clause-is : goal.returns-clause-is
returns-clause-is c =
    position_from_yields_List (λ b. holds b c.args.c.base) _ _ _ c.position.ensures.ran (YieldsList-from_slice c.recorded.result.now cc) (λ x b q k. search (rules, tests))
    ∙ ap (position (λ b. holds b c.args.c.base)) c.recorded.ensures.all
    ∙ position_least (λ b. holds b c.args.c.base) c.args.self.now
