use Rattle.std.proofs.Common.{arith}
use Rattle.flat.proofs.Granules.{length_flat}
use Rattle.flat.proofs.FlatStore.count.Goals as goal

pub returns : goal.returns
returns c = omega (arith, length_flat c.args.self.now.«data».now c.args.self.now.tags.now)
