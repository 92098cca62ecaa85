use Rattle.compact.specs.Powers.{fewest_zeros, exponent_is, one_exponent}
use Rattle.compact.proofs.exponents.exponent.Goals as goal

pub returns : goal.returns
returns c =
    let is = fewest_zeros c.args.base c.args.top c.min-2.result (cc) in
    record {
      value = one_exponent _ _ _ _ is (exponent_is c.args.base c.args.top);
      largest = is;
    }
