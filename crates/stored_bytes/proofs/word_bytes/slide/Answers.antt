use Rattle.std.proofs.Common.{arith}
use Rattle.stored_bytes.proofs.Made.{slide_is}
use Rattle.stored_bytes.proofs.word_bytes.slide.Goals as goal

pub returns : goal.returns
returns c = slide_is c.args.low c.args.high c.args.r (omega arith) (omega arith)
