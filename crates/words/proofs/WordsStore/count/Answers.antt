use Rattle.std.proofs.Common.{arith}
use Rattle.words.proofs.Granules.{length_records}
use Rattle.words.proofs.WordsStore.count.Goals as goal

pub returns : goal.returns
returns c = omega (arith, length_records c.args.self.now.granules.now)
