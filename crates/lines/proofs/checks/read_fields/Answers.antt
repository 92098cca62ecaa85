use Rattle.std.proofs.Common.{sym, ap, ◌∙◌}
use Rattle.capability.specs.declared.refusal.Refusal.TheVariants.{NumberTooLarge}
use Rattle.lines.specs.Checks.{check}
use Rattle.lines.proofs.Widths.{bounded}
use Rattle.lines.proofs.checks.read_fields.Goals as goal

pub returns-clause-bounded : goal.returns-clause-bounded
returns-clause-bounded c =
    bounded c.args.limits c.args.line.now c.in_ok-fields.fields
    (sym c.read.ensures ∙ c.in_ok-fields.ensures.ok_part)
    (ap (λ m. check m NumberTooLarge) (sym c.exceeded_in.ensures) ∙ sym c.in_ok-refuse-2.ensures)
