use Rattle.std.proofs.Common.{rules}
use Rattle.plain.specs.Memory.{may_carry}
use Rattle.carry.proofs.copy.Goals as goal

pub returns-clause-does : goal.returns-clause-does
returns-clause-does g c =
    let passes = may_carry g.F.Format.meaning c.args.table.now c.in_ok-into.into c.in_ok-source.source in
    let after = c.copy_bytes-carried.ensures.after passes (search rules) in
    let number = c.copy_bytes-carried.ensures.number passes (search rules) in
    search rules
