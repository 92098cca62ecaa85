use Rattle.std.proofs.Common.{◌≡◌, decimal, rules, ◌∙◌}
use Rattle.std.proofs.lemmas.Fmt.{length-decimal-le}
use Rattle.text.proofs.Columns.{line}
use Rattle.text.proofs.answer.answer_line.Goals as goal

pub write_digits-requires : goal.write_digits-requires
write_digits-requires c = search (rules, length-decimal-le)

pub write_digits-requires-2 : goal.write_digits-requires-2
write_digits-requires-2 c = search (rules, length-decimal-le)

pub write_digits-requires-3 : goal.write_digits-requires-3
write_digits-requires-3 c = search (rules, length-decimal-le)

pub returns : goal.returns
returns c =
    let number : c.from.result ≡ c.args.number = c.from.ensures ∙ c.number.view_is in
    rw (← number, ← c.from-2.ensures)
    (line (decimal c.from.result) (decimal c.from-2.result) (decimal c.args.answer)
    c.write_digits.new.buf c.write_digits-2.new.buf c.write_digits-3.new.buf
    c.write_digits.result c.write_digits-2.result c.write_digits-3.result 10
    (search (rules, length-decimal-le)) (search (rules, length-decimal-le)) (search (rules, length-decimal-le))
    (search rules) (search rules) (search rules)
    (search rules) (search rules) (search rules)
    (search rules) (search rules) (search rules))
