use Rattle.std.proofs.Common.{◌*◌, ◌^◌, arith}
use Rattle.std.proofs.lemmas.Bool.Decides.{nat_tests}
use Rattle.compact.specs.Powers.{exponent_is, units_exponent}
use Rattle.compact.proofs.exponents.is_exponent.Goals as goal

pub returns-then-base-eq1 : goal.returns-then-base-eq1
returns-then-base-eq1 c =
    let u = units_exponent c.args.base c.args.top c.args.e (omega arith) in
    grind (arith, nat_tests)

pub returns-else-base-eq1 : goal.returns-else-base-eq1
returns-else-base-eq1 c =
    let u = units_exponent c.args.base c.args.top c.args.e (omega arith) in
    grind (arith, nat_tests)

pub returns-else-e-lt-MOST : goal.returns-else-e-lt-MOST
returns-else-e-lt-MOST c =
    let u = units_exponent c.args.base c.args.top c.args.e in
    let most = (exponent_is (c.args.base * 2 ^ c.args.e) (c.args.top * 2 ^ c.args.e)).at_most in
    grind (arith, nat_tests)
