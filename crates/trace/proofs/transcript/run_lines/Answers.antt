use Rattle.std.proofs.Common.{length, ap, arith}
use Rattle.text.proofs.Splits.{length_lines}
use Rattle.trace.proofs.transcript.run_lines.Goals as goal

pub invariant_of-run : goal.invariant_of-run
invariant_of-run c = record {
  few = c.in-Ok.ensures.few;
  short = omega (arith, length_lines c.args.input.now, ap length c.new-reader.ensures.all, ap length c.in-Some.ensures.steps.0);
}
