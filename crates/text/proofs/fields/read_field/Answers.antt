use Rattle.std.proofs.Common.{◌≡◌, drop, rules, sym, ◌∙◌}
use Rattle.std.proofs.lemmas.List.{take_rest}
use Rattle.text.specs.Fields.{text_of, field_of}
use Rattle.text.proofs.Numbers.{field_blank, field_text, text_zero, text_read}
use Rattle.text.proofs.fields.read_field.Goals as goal

pub returns-in_default : goal.returns-in_default
returns-in_default c = search (rules, field_blank)

pub returns-in-48 : goal.returns-in-48
returns-in-48 c =
    let column = c.args.column.now in
    let i = c.in-Some.start in
    let f : field_of column ≡ text_of (drop i column) = search (rules, field_text) in
    sym (f ∙ text_zero (drop i column) (search (rules, take_rest)) (search (rules, take_rest)))

pub returns-in_default-2 : goal.returns-in_default-2
returns-in_default-2 c =
    let column = c.args.column.now in
    let i = c.in-Some.start in
    let f : field_of column ≡ text_of (drop i column) = search (rules, field_text) in
    text_read (drop i column) _ _ (search (rules, take_rest)) (search (rules, take_rest)) (search (rules, take_rest)) c.map_or.ensures ∙ sym f
