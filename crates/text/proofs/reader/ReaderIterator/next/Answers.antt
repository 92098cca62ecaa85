use Rattle.std.proofs.Common.{rules}
use Rattle.std.proofs.lemmas.List.{take_rest}
use Rattle.text.proofs.Splits.{to_come_next, first_length, less_to_come}
use Rattle.text.proofs.reader.ReaderIterator.next.Goals as goal

pub returns-clause-steps : goal.returns-clause-steps
returns-clause-steps c = search (rules, take_rest, to_come_next, first_length)

pub returns-clause-goes : goal.returns-clause-goes
returns-clause-goes c = search (rules, take_rest, less_to_come, to_come_next, first_length)
