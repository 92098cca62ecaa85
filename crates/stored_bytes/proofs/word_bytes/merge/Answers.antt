use Rattle.std.proofs.Common.{arith}
use Rattle.stored_bytes.proofs.Made.{gone_le, merge_is, merge_lt}
use Rattle.stored_bytes.proofs.word_bytes.merge.Goals as goal

pub overflow_sub-result : goal.overflow_sub-result
overflow_sub-result c =
    gone_le c.args.old c.args.new c.args.s c.args.e (omega arith) (omega arith) (omega arith) c.low_bytes-replaced.result c.low_bytes-placed.result c.low_bytes-replaced.ensures c.low_bytes-placed.ensures

pub overflow_add-result : goal.overflow_add-result
overflow_add-result c =
    let h = merge_lt c.args.old c.args.new c.args.s c.args.e (omega arith) (omega arith) (omega arith) c.low_bytes-replaced.result c.low_bytes-placed.result c.low_bytes-replaced.ensures c.low_bytes-placed.ensures in
    omega arith

pub returns : goal.returns
returns c =
    merge_is c.args.old c.args.new c.args.s c.args.e (omega arith) (omega arith) (omega arith) c.low_bytes-replaced.result c.low_bytes-placed.result c.low_bytes-replaced.ensures c.low_bytes-placed.ensures
