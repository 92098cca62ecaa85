-- Bytes by weight. Assumes nothing.
use Rattle.std.proofs.Common.{◌≡◌, ℕ, zero, suc, ◌+◌, ◌*◌, ◌^◌, ◌<◌, ◌≤◌, sym, refl, ap, ◌∙◌, pow-suc, arith, lit<, pow-add}
use native.Mathlib.Nat.{pow-le-pow_right}
use Rattle.stored_bytes.specs.Bytes.{total, number}

-- eight bits are a byte
pub bits_bytes : (j : ℕ) → 2 ^ (8 * j) ≡ 256 ^ j
bits_bytes zero = refl
bits_bytes (suc j) =
    ap (λ (n : ℕ). 2 ^ n) (let e : 8 * suc j ≡ 8 * j + 8 = omega arith in e)
    ∙ pow-add 2 (8 * j) 8 ∙ ap (λ (n : ℕ). n * 256) (bits_bytes j) ∙ sym (pow-suc 256 j)

pub weight_pos : (j : ℕ) → 0 < 256 ^ j
weight_pos j = let z : 0 ≤ j = omega arith in let h : 256 ^ 0 ≤ 256 ^ j = pow-le-pow_right {n = 256} (lit< tt) z in omega arith

total_same : (n : ℕ) (f g : ℕ → ℕ) → ((k : ℕ) → k < n → f k ≡ g k) → total n f ≡ total n g
total_same zero f g h = refl
total_same (suc n) f g h =
    let a = total_same n f g (λ k l. h k (omega arith)) in
    let b = h n (omega arith) in
    cc

-- a number is of its own bytes only
pub number_same : (f g : ℕ → ℕ) (x n : ℕ) → ((k : ℕ) → k < n → f (x + k) ≡ g (x + k)) → number f x n ≡ number g x n
number_same f g x n h = total_same n (λ k. f (x + k) * 256 ^ k) (λ k. g (x + k) * 256 ^ k) (λ k l. ap (λ (b : ℕ). b * 256 ^ k) (h k l))
