use Rattle.plain.proofs.Safe.{always_safe}
use Rattle.plain.proofs.theorems.guarantee_stands.Goals as goal

pub returns : goal.returns
returns c = always_safe
