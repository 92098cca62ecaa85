use Rattle.std.proofs.Common.{◌+◌, Ok, sym, ap, ◌∙◌, arith}
use Rattle.std.specs.Option.{ok_or}
use Rattle.capability.specs.declared.refusal.Refusal.TheVariants.{NotCarried}
use Rattle.compact.specs.Compact.{nine_bits}
use Rattle.compact.specs.Inverse.{carried, fields_sum}
use Rattle.compact.specs.Laws.{word_given, word_refused}
use Rattle.compact.proofs.format.CompactFormat.write.Goals as goal

pub returns-then-not-carried : goal.returns-then-not-carried
returns-then-not-carried c =
    let no = word_refused _ c.args.c c.exponent-e.ensures.value (sym c.if-not-carried.ensures) in
    sym (ap (λ o. ok_or o NotCarried) no)

pub returns : goal.returns
returns c =
    let e = c.exponent-e.result in
    let yes = sym c.if-not-carried.ensures in
    let f = carried e c.args.c yes in
    let sum = fields_sum c.args.c.address (nine_bits e c.args.c.base) (nine_bits e c.args.c.top) e c.args.c.rights
    f.word (omega arith) (omega arith) c.exponent-e.ensures.largest.at_most f.rights in
    let word = word_given _ c.args.c c.exponent-e.ensures.value yes in
    (λ i. Ok (c.put.ensures i + c.put-2.ensures i + c.put-3.ensures i + c.put-4.ensures i + c.put-5.ensures i))
    ∙ ap Ok sum ∙ sym (ap (λ o. ok_or o NotCarried) word)
