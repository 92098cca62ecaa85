-- One bit of a byte set or cleared, for all bits together. Assumes nothing.
use Rattle.std.proofs.Common.{◌≡◌, ℕ, ◌+◌, ◌-◌, ◌*◌, ◌/◌, ◌%◌, ◌^◌, ◌<◌, min, max, ◌≢◌, sym, ap, ◌∙◌, ⊎_elim, mod-eq_of_lt, mul_assoc, mul_comm, add-mul, arith}
use native.Mathlib.Nat.{mul-add-div_right}
use lib.Bits.{bit_and, bit_or, or_block, or_step, or_zero_r, and_block, and_step, and_mask}
use Rattle.std.proofs.lemmas.Nat.{pow_pos, pow-add, shr-shr, div-mul-add, mod-mul-add, div-add-mod', mod_below, div_below}
use Rattle.std.proofs.lemmas.Bool.{cases_lt}
use Rattle.flat.specs.Flat.{bit, with_bit}

-- a number in three parts: above bit k, bit k, and below it
abbrev pub parts : ℕ → ℕ → ℕ → ℕ → ℕ
parts high k x low = (high * 2 + x) * 2 ^ k + low

pub parts_of : (b k : ℕ) → b ≡ parts (b / 2 ^ k / 2) k (bit b k) (b % 2 ^ k)
parts_of b k =
    sym (ap (λ q. q * 2 ^ k + b % 2 ^ k) (div-add-mod' (b / 2 ^ k) 2) ∙ div-add-mod' b (2 ^ k))

-- only bit k is another
pub with_is : (b k v : ℕ) → with_bit b k v ≡ parts (b / 2 ^ k / 2) k v (b % 2 ^ k)
with_is b k v =
    let e = parts_of b k in
    let d = add-mul (b / 2 ^ k / 2 * 2) (bit b k) (2 ^ k) in
    let f = add-mul (b / 2 ^ k / 2 * 2) v (2 ^ k) in
    omega arith

-- the mask 2^k sets bit k
pub or_is : (b k : ℕ) → bit_or b (2 ^ k) ≡ with_bit b k 1
or_is b k =
    let q : ℕ = b / 2 ^ k in
    let r : ℕ = b % 2 ^ k in
    let m : 1 * 2 ^ k + 0 ≡ 2 ^ k = omega arith in
    let top : bit_or q 1 ≡ q / 2 * 2 + 1 =
    or_step q 1 ∙ ap (λ h. h * 2 + max (q % 2) 1) (or_zero_r (q / 2)) ∙ (let o : q / 2 * 2 + max (q % 2) 1 ≡ q / 2 * 2 + 1 = omega arith in o) in
    ap (λ n. bit_or n (2 ^ k)) (sym (div-add-mod' b (2 ^ k))) ∙ ap (λ n. bit_or (q * 2 ^ k + r) n) (sym m)
    ∙ or_block k q 1 r 0 (mod_below b (2 ^ k) (pow_pos k)) (pow_pos k)
    ∙ ap (λ h. h * 2 ^ k + bit_or r 0) top ∙ ap (λ l. (q / 2 * 2 + 1) * 2 ^ k + l) (or_zero_r r)
    ∙ sym (with_is b k 1)

-- the other mask clears it
pub and_is : (b k : ℕ) → k < 8 → b < 256 → bit_and b (255 - 2 ^ k) ≡ with_bit b k 0
and_is b k small byte =
    let m : ℕ = 7 - k in
    let q : ℕ = b / 2 ^ k in
    let r : ℕ = b % 2 ^ k in
    let z = pow_pos k in
    let y = pow_pos m in
    let e : 1 + m + k ≡ 8 = omega arith in
    let p : 256 ≡ 2 * 2 ^ m * 2 ^ k = ap (λ n. 2 ^ n) (sym e) ∙ pow-add 2 (1 + m) k ∙ ap (λ n. n * 2 ^ k) (pow-add 2 1 m) in
    let top : q < 2 * 2 ^ m = div_below b (2 ^ k) (2 * 2 ^ m) z (omega arith) in
    let c : ℕ = (2 ^ m - 1) * 2 in
    let d = add-mul c 2 (2 ^ k) in
    let g : c + 2 ≡ 2 * 2 ^ m = omega arith in
    let s : (c + 2) * 2 ^ k ≡ 256 = ap (λ n. n * 2 ^ k) g ∙ sym p in
    let mask : c * 2 ^ k + (2 ^ k - 1) ≡ 255 - 2 ^ k = omega arith in
    let half : c / 2 ≡ 2 ^ m - 1 = omega arith in
    let even : c % 2 ≡ 0 = omega arith in
    let below : q / 2 < 2 ^ m = omega arith in
    let low : bit_and r (2 ^ k - 1) ≡ r = and_mask r k ∙ mod-eq_of_lt (mod_below b (2 ^ k) z) in
    let high : bit_and q c ≡ q / 2 * 2 + 0 =
    and_step q c ∙ ap (λ n. bit_and (q / 2) n * 2 + min (q % 2) (c % 2)) half ∙ ap (λ n. bit_and (q / 2) (2 ^ m - 1) * 2 + min (q % 2) n) even
    ∙ ap (λ n. n * 2 + min (q % 2) 0) (and_mask (q / 2) m ∙ mod-eq_of_lt below)
    ∙ (let o : q / 2 * 2 + min (q % 2) 0 ≡ q / 2 * 2 + 0 = omega arith in o) in
    ap (λ n. bit_and n (255 - 2 ^ k)) (sym (div-add-mod' b (2 ^ k))) ∙ ap (λ n. bit_and (q * 2 ^ k + r) n) (sym mask)
    ∙ and_block k q c r (2 ^ k - 1) (mod_below b (2 ^ k) z) (omega arith)
    ∙ ap (λ h. h * 2 ^ k + bit_and r (2 ^ k - 1)) high ∙ ap (λ l. (q / 2 * 2 + 0) * 2 ^ k + l) low
    ∙ sym (with_is b k 0)

-- bit k is the one that was written
pub bit_same : (high k x low : ℕ) → x < 2 → low < 2 ^ k → bit (parts high k x low) k ≡ x
bit_same h k x l s t = ap (λ q. q % 2) (div-mul-add (h * 2 + x) (2 ^ k) l t) ∙ mod-mul-add h 2 x s

bit_below : (high k x low j : ℕ) → j < k → bit (parts high k x low) j ≡ low / 2 ^ j % 2
bit_below h k x l j s =
    let m : ℕ = k - j - 1 in
    let e : 1 + m + j ≡ k = omega arith in
    let p : 2 ^ k ≡ 2 * 2 ^ m * 2 ^ j = ap (λ n. 2 ^ n) (sym e) ∙ pow-add 2 (1 + m) j ∙ ap (λ n. n * 2 ^ j) (pow-add 2 1 m) in
    let q : parts h k x l ≡ (h * 2 + x) * (2 * 2 ^ m) * 2 ^ j + l =
    ap (λ n. (h * 2 + x) * n + l) p ∙ ap (λ n. n + l) (sym (mul_assoc (h * 2 + x) (2 * 2 ^ m) (2 ^ j))) in
    let r : parts h k x l / 2 ^ j ≡ (h * 2 + x) * (2 * 2 ^ m) + l / 2 ^ j =
    ap (λ n. n / 2 ^ j) q ∙ mul-add-div_right (pow_pos j) ((h * 2 + x) * (2 * 2 ^ m)) l in
    let u : (h * 2 + x) * (2 * 2 ^ m) ≡ (h * 2 + x) * 2 ^ m * 2 =
    ap (λ n. (h * 2 + x) * n) (mul_comm 2 (2 ^ m)) ∙ sym (mul_assoc (h * 2 + x) (2 ^ m) 2) in
    omega arith

bit_above : (high k x low j : ℕ) → x < 2 → low < 2 ^ k → k < j → bit (parts high k x low) j ≡ high / 2 ^ (j - k - 1) % 2
bit_above h k x l j s t a =
    let m : ℕ = j - k - 1 in
    let e : k + (1 + m) ≡ j = omega arith in
    ap (λ n. n % 2)
    (ap (λ n. parts h k x l / 2 ^ n) (sym e) ∙ sym (shr-shr (parts h k x l) k (1 + m))
    ∙ ap (λ n. n / 2 ^ (1 + m)) (div-mul-add (h * 2 + x) (2 ^ k) l t)
    ∙ sym (shr-shr (h * 2 + x) 1 m)
    ∙ ap (λ n. n / 2 ^ m) (div-mul-add h 2 x s))

-- no other bit depends on bit k
pub bit_other : (high k x y low j : ℕ) → x < 2 → y < 2 → low < 2 ^ k → j ≢ k → bit (parts high k x low) j ≡ bit (parts high k y low) j
bit_other h k x y l j s t u n =
    ⊎_elim (λ b. bit_below h k x l j b ∙ sym (bit_below h k y l j b))
    (λ b. let a : k < j = omega arith in bit_above h k x l j s u a ∙ sym (bit_above h k y l j t u a))
    (cases_lt j k)
