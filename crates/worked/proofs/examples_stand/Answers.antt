use Rattle.worked.proofs.Stand.{stand}
use Rattle.worked.proofs.examples_stand.Goals as goal

pub returns : goal.returns
returns c = stand
