use Rattle.plain.proofs.Leasts.{least_is}
use Rattle.plain.proofs.theorems.least_stands.Goals as goal

pub returns : goal.returns
returns c = least_is
