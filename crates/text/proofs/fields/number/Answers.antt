use Rattle.std.proofs.Common.{rules}
use Rattle.text.proofs.Numbers.{all_more, value_step, value_bound, none_at}
use Rattle.text.proofs.fields.number.Goals as goal

pub returns-then-not-is_ascii_digit : goal.returns-then-not-is_ascii_digit
returns-then-not-is_ascii_digit c = search (rules, none_at)

pub overflow_mul-value : goal.overflow_mul-value
overflow_mul-value c = search (rules, value_bound)

pub overflow_add-value : goal.overflow_add-value
overflow_add-value c = search (rules, value_bound)

pub loop-byte-preserved : goal.loop-byte-preserved
loop-byte-preserved c = search (rules, all_more, value_step)
