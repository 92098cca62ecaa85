use Rattle.std.proofs.Common.{◌-◌, sym, ap, ◌∙◌, arith}
use lib.Bits.{bit_and, bit_or}
use mir.Val.{bool_byte}
use Rattle.std.proofs.lemmas.Nat.{one_shl}
use Rattle.flat.specs.Flat.{with_bit}
use Rattle.flat.proofs.Bits.{or_is, and_is}
use Rattle.flat.proofs.buffers.with_bit.Goals as goal

pub returns-then-on : goal.returns-then-on
returns-then-on c =
    ap (λ mask. bit_or c.args.byte mask) (one_shl c.args.k 8 c.requires) ∙ or_is c.args.byte c.args.k
    ∙ ap (λ on. with_bit c.args.byte c.args.k (bool_byte on)) (sym c.if-on.true)

pub returns-else-on : goal.returns-else-on
returns-else-on c =
    ap (λ mask. bit_and c.args.byte (255 - mask)) (one_shl c.args.k 8 c.requires)
    ∙ and_is c.args.byte c.args.k c.requires (omega arith)
    ∙ ap (λ on. with_bit c.args.byte c.args.k (bool_byte on)) (sym c.if-on.false)
