use Rattle.std.proofs.Common.{length, rules}
use Rattle.memory.proofs.Started.{safe_start}
use Rattle.memory.proofs.memory.Memory.start.Goals as goal

pub returns-clause-safe : goal.returns-clause-safe
returns-clause-safe g c h = safe_start g.F.Format.meaning g.met.F.Format.lawful _ (g.S.Store.origin c.args.store.now) (length (g.S.Store.cells c.args.store.now)) c.args.serial (search rules) h
