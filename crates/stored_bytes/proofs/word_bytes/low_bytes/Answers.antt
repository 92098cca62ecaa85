use Rattle.std.proofs.Common.{ℕ, ◌-◌, ◌*◌, ◌%◌, ap, ◌∙◌, arith}
use lib.Bits.{bit_and}
use Rattle.std.proofs.lemmas.Nat.{and_mask, one_shl}
use Rattle.stored_bytes.proofs.Weights.{bits_bytes, weight_pos}
use Rattle.stored_bytes.proofs.word_bytes.low_bytes.Goals as goal

pub overflow_sub-result : goal.overflow_sub-result
overflow_sub-result c = omega (arith, weight_pos c.args.n, one_shl (8 * c.args.n) 64 (omega arith), bits_bytes c.args.n)

pub returns-else-n-eq8 : goal.returns-else-n-eq8
returns-else-n-eq8 c =
    ap (λ (m : ℕ). bit_and c.args.word (m - 1)) (one_shl (8 * c.args.n) 64 (omega arith))
    ∙ and_mask c.args.word (8 * c.args.n)
    ∙ ap (λ (m : ℕ). c.args.word % m) (bits_bytes c.args.n)
