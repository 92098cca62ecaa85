-- The bytes of words that are made of others. Assumes nothing.
use Rattle.std.proofs.Common.{◌≡◌, ℕ, zero, suc, ◌+◌, ◌-◌, ◌*◌, ◌/◌, ◌%◌, ◌^◌, ◌<◌, ◌≤◌, sym, ap, ◌∙◌, ⊎_elim, mul-le-mul_right, mod-eq_of_lt, mul_comm, add-mul, pow-suc, zero-add, add-one, arith, pow-add}
use native.Mathlib.Nat.{div-div-eq-div-mul, add-mul-div_right, div-eq_of_lt, add-mul-mod_self_right}
use lib.Arith.{mod-mul}
use Rattle.std.proofs.lemmas.Nat.{div-add-mod', div-mul-add, mod-mul-add, mod_below, div_below, mul-le}
use Rattle.std.proofs.lemmas.Bool.{cases_lt}
use Rattle.stored_bytes.specs.Bytes.{number, byte_of}
use Rattle.stored_bytes.proofs.Weights.{bits_bytes, weight_pos}

pub byte_high : (w n k : ℕ) → byte_of (w / 256 ^ n) k ≡ byte_of w (n + k)
byte_high w n k = ap (λ (x : ℕ). x % 256) (div-div-eq-div-mul w (256 ^ n) (256 ^ k) ∙ ap (λ (x : ℕ). w / x) (sym (pow-add 256 n k)))

-- the low bytes of a number are those of its remainder
low_byte : (v n : ℕ) → v % 256 ^ suc n % 256 ≡ v % 256
low_byte v n =
    ap (λ (x : ℕ). x % 256) (ap (λ (x : ℕ). v % x) (pow-suc 256 n) ∙ mod-mul v (weight_pos n) (omega arith))
    ∙ mod-mul-add (v / 256 % 256 ^ n) 256 (v % 256) (omega arith)

byte_low' : (w k d : ℕ) → byte_of (w % 256 ^ (suc d + k)) k ≡ byte_of w k
byte_low' w k d =
    let c = 256 ^ k in
    let e : w % 256 ^ (suc d + k) ≡ (w / c % 256 ^ suc d) * c + w % c = ap (λ (x : ℕ). w % x) (pow-add 256 (suc d) k) ∙ mod-mul w (weight_pos (suc d)) (weight_pos k) in
    ap (λ (x : ℕ). x / c % 256) e
    ∙ ap (λ (x : ℕ). x % 256) (div-mul-add (w / c % 256 ^ suc d) c (w % c) (mod_below w c (weight_pos k)))
    ∙ low_byte (w / c) d

byte_low : (w n k : ℕ) → k < n → byte_of (w % 256 ^ n) k ≡ byte_of w k
byte_low w n k h =
    let e : suc (n - k - 1) + k ≡ n = omega arith in
    ap (λ (x : ℕ). byte_of (w % 256 ^ x) k) (sym e) ∙ byte_low' w k (n - k - 1)

pub byte_under : (l h n k : ℕ) → l < 256 ^ n → k < n → byte_of (l + h * 256 ^ n) k ≡ byte_of l k
byte_under l h n k lt hk =
    sym (byte_low (l + h * 256 ^ n) n k hk) ∙ ap (λ (x : ℕ). byte_of x k) (add-mul-mod_self_right l h (256 ^ n) ∙ mod-eq_of_lt lt)

pub byte_over : (l h n k : ℕ) → l < 256 ^ n → n ≤ k → byte_of (l + h * 256 ^ n) k ≡ byte_of h (k - n)
byte_over l h n k lt hk =
    let e : n + (k - n) ≡ k = omega arith in
    ap (byte_of (l + h * 256 ^ n)) (sym e) ∙ sym (byte_high (l + h * 256 ^ n) n (k - n))
    ∙ ap (λ (x : ℕ). byte_of x (k - n)) (add-mul-div_right l h (weight_pos n) ∙ ap (λ (x : ℕ). x + h) (div-eq_of_lt lt) ∙ zero-add h)

-- eight of the bytes of two words
pub slid : (l h r k : ℕ) → k < 8 → byte_of ((l + h * 2 ^ 64) / 256 ^ r % 2 ^ 64) k ≡ byte_of (l + h * 2 ^ 64) (r + k)
slid l h r k hk = byte_low ((l + h * 2 ^ 64) / 256 ^ r) 8 k hk ∙ byte_high (l + h * 2 ^ 64) r k

pub slide_is : (l h r : ℕ) → l < 2 ^ 64 → h < 2 ^ 64 → (l + h * 2 ^ 64 % 2 ^ 128) / 2 ^ (8 * r) % 2 ^ 64 ≡ (l + h * 2 ^ 64) / 256 ^ r % 2 ^ 64
slide_is l h r m n =
    let e : l + h * 2 ^ 64 % 2 ^ 128 ≡ l + h * 2 ^ 64 = omega arith in
    ap (λ (x : ℕ). x / 2 ^ (8 * r) % 2 ^ 64) e ∙ ap (λ (x : ℕ). (l + h * 2 ^ 64) / x % 2 ^ 64) (bits_bytes r)

-- a word is the number that its bytes make
pub low_number : (w : ℕ) (at : ℕ → ℕ) (x n : ℕ) → ((k : ℕ) → k < n → byte_of w k ≡ at (x + k)) → w % 256 ^ n ≡ number at x n
low_number w at x zero h = omega arith
low_number w at x (suc n) h =
    let c = 256 ^ n in
    let i = low_number w at x n (λ k l. h k (omega arith)) in
    let s : w % 256 ^ suc n ≡ (w / c % 256) * c + w % c = ap (λ (y : ℕ). w % y) (pow-suc 256 n ∙ mul_comm c 256) ∙ mod-mul w (omega arith) (weight_pos n) in
    let t : (w / c % 256) * c ≡ at (x + n) * c = ap (λ (y : ℕ). y * c) (h n (omega arith)) in
    omega arith

pub made_of : (w : ℕ) (at : ℕ → ℕ) (x : ℕ) → w < 2 ^ 64 → ((k : ℕ) → k < 8 → byte_of w k ≡ at (x + k)) → w ≡ number at x 8
made_of w at x h e = sym (mod-eq_of_lt h) ∙ low_number w at x 8 e

-- and its bytes are those that make it
number_below : (at : ℕ → ℕ) (x n : ℕ) → ((k : ℕ) → at k < 256) → number at x n < 256 ^ n
number_below at x zero h = omega arith
number_below at x (suc n) h =
    let i = number_below at x n h in
    let b = h (x + n) in
    let m : at (x + n) * 256 ^ n ≤ 255 * 256 ^ n = mul-le (at (x + n)) (256 ^ n) 255 (256 ^ n) (omega arith) (omega arith) in
    let p = pow-suc 256 n in
    omega arith

pub byte_number : (at : ℕ → ℕ) (x n : ℕ) → ((k : ℕ) → at k < 256) → (k : ℕ) → k < n → byte_of (number at x n) k ≡ at (x + k)
byte_number at x zero h k l = absurd (omega arith)
byte_number at x (suc n) h k l = ⊎_elim
    (λ (m : k < n). byte_under (number at x n) (at (x + n)) n k (number_below at x n h) m ∙ byte_number at x n h k m)
    (λ (m : n ≤ k).
    let e : k ≡ n = omega arith in
    let b = h (x + k) in
    let z : k - n ≡ 0 = omega arith in
    byte_over (number at x n) (at (x + n)) n k (number_below at x n h) m
    ∙ ap (λ (j : ℕ). byte_of (at (x + j)) (k - n)) (sym e)
    ∙ ap (byte_of (at (x + k))) z
    ∙ (let q : at (x + k) / 1 % 256 ≡ at (x + k) = omega arith in q))
    (cases_lt k n)

-- a word with its bytes s to e - 1 replaced
module _ (old new s e : ℕ) (se : s < e) (e8 : e ≤ 8) (fits : old < 2 ^ 64) where
  abbrev inner : ℕ
  inner = old % 256 ^ s + new % 256 ^ (e - s) * 256 ^ s

  abbrev merged : ℕ
  merged = inner + old / 256 ^ e * 256 ^ e

  -- so many bytes, each below 256, below a weight
  fills : (v m n t : ℕ) → v < 256 ^ m → m + n ≡ t → v * 256 ^ n + 256 ^ n ≤ 256 ^ t
  fills v m n t lt q =
      let p : 256 ^ m * 256 ^ n ≡ 256 ^ t = sym (pow-add 256 m n) ∙ ap (λ (x : ℕ). 256 ^ x) q in
      let u = mul-le-mul_right (256 ^ n) lt in
      let w = add-mul v 1 (256 ^ n) in
      let y : (v + 1) * 256 ^ n ≡ suc v * 256 ^ n = ap (λ (x : ℕ). x * 256 ^ n) (add-one v) in
      omega arith

  inner_lt : inner < 256 ^ e
  inner_lt =
      let p = mod_below old (256 ^ s) (weight_pos s) in
      let q = fills (new % 256 ^ (e - s)) (e - s) s e (mod_below new (256 ^ (e - s)) (weight_pos (e - s))) (omega arith) in
      omega arith

  pub merged_lt : merged < 2 ^ 64
  merged_lt =
      let d : 8 - e + e ≡ 8 = omega arith in
      let p : 256 ^ (8 - e) * 256 ^ e ≡ 2 ^ 64 = sym (pow-add 256 (8 - e) e) ∙ ap (λ (x : ℕ). 256 ^ x) d in
      let f : old < 256 ^ (8 - e) * 256 ^ e = rw p fits in
      let q = fills (old / 256 ^ e) (8 - e) e 8 (div_below old (256 ^ e) (256 ^ (8 - e)) (weight_pos e) f) d in
      let i = inner_lt in
      omega arith

  pub merged_below : (k : ℕ) → k < s → byte_of merged k ≡ byte_of old k
  merged_below k h =
      byte_under inner (old / 256 ^ e) e k inner_lt (omega arith)
      ∙ byte_under (old % 256 ^ s) (new % 256 ^ (e - s)) s k (mod_below old (256 ^ s) (weight_pos s)) h
      ∙ byte_low old s k h

  pub merged_in : (k : ℕ) → s ≤ k → k < e → byte_of merged k ≡ byte_of new (k - s)
  merged_in k g h =
      byte_under inner (old / 256 ^ e) e k inner_lt h
      ∙ byte_over (old % 256 ^ s) (new % 256 ^ (e - s)) s k (mod_below old (256 ^ s) (weight_pos s)) g
      ∙ byte_low new (e - s) (k - s) (omega arith)

  pub merged_above : (k : ℕ) → e ≤ k → byte_of merged k ≡ byte_of old k
  merged_above k h =
      byte_over inner (old / 256 ^ e) e k inner_lt h ∙ byte_high old e (k - e) ∙ ap (byte_of old) (let q : e + (k - e) ≡ k = omega arith in q)

  -- it is the number of the bytes that it is merged from
  pub merged_is : (w : ℕ) (at : ℕ → ℕ) (y : ℕ) → w ≡ merged → ((k : ℕ) → k < s → byte_of old k ≡ at (y + k))
      → ((k : ℕ) → s ≤ k → k < e → byte_of new (k - s) ≡ at (y + k)) → ((k : ℕ) → e ≤ k → k < 8 → byte_of old k ≡ at (y + k))
      → w ≡ number at y 8
  merged_is w at y q low mid high = q ∙ made_of merged at y merged_lt (λ k h. ⊎_elim
      (λ (lt : k < s). merged_below k lt ∙ low k lt)
      (λ (ge : s ≤ k). ⊎_elim
      (λ (lt : k < e). merged_in k ge lt ∙ mid k ge lt)
      (λ (ge : e ≤ k). merged_above k ge ∙ high k ge h)
      (cases_lt k e))
      (cases_lt k s))

  -- what is taken out of it, and what is put in its place
  module _ (gone placed : ℕ) (ge : gone ≡ old / 2 ^ (8 * s) % 256 ^ (e - s)) (pe : placed ≡ new % 256 ^ (e - s)) where
    old_is : old ≡ old % 256 ^ s + gone * 256 ^ s + old / 256 ^ e * 256 ^ e
    old_is =
        let d : e - s + s ≡ e = omega arith in
        let g : gone ≡ old / 256 ^ s % 256 ^ (e - s) = ge ∙ ap (λ (x : ℕ). old / x % 256 ^ (e - s)) (bits_bytes s) in
        let p : 256 ^ e ≡ 256 ^ (e - s) * 256 ^ s = ap (λ (x : ℕ). 256 ^ x) (sym d) ∙ pow-add 256 (e - s) s in
        let m : old % 256 ^ e ≡ (old / 256 ^ s % 256 ^ (e - s)) * 256 ^ s + old % 256 ^ s = ap (λ (x : ℕ). old % x) p ∙ mod-mul old (weight_pos (e - s)) (weight_pos s) in
        let t : gone * 256 ^ s ≡ (old / 256 ^ s % 256 ^ (e - s)) * 256 ^ s = ap (λ (x : ℕ). x * 256 ^ s) g in
        let a = div-add-mod' old (256 ^ e) in
        omega arith

    placed_is : placed * 256 ^ s ≡ new % 256 ^ (e - s) * 256 ^ s
    placed_is = ap (λ (x : ℕ). x * 256 ^ s) pe

    up : (v : ℕ) → v * 256 ^ s < 2 ^ 64 → v * 2 ^ (8 * s) % 2 ^ 64 ≡ v * 256 ^ s
    up v h = ap (λ (x : ℕ). v * x % 2 ^ 64) (bits_bytes s) ∙ mod-eq_of_lt h

    gone_up : gone * 2 ^ (8 * s) % 2 ^ 64 ≡ gone * 256 ^ s
    gone_up = let o = old_is in up gone (omega arith)

    placed_up : placed * 2 ^ (8 * s) % 2 ^ 64 ≡ placed * 256 ^ s
    placed_up = let l = merged_lt in let q = placed_is in up placed (omega arith)

    pub gone_le : gone * 2 ^ (8 * s) % 2 ^ 64 ≤ old
    gone_le = let o = old_is in let u = gone_up in omega arith

    pub merge_is : old - gone * 2 ^ (8 * s) % 2 ^ 64 + placed * 2 ^ (8 * s) % 2 ^ 64 ≡ merged
    merge_is = let o = old_is in let u = gone_up in let v = placed_up in let q = placed_is in omega arith

    pub merge_lt : old - gone * 2 ^ (8 * s) % 2 ^ 64 + placed * 2 ^ (8 * s) % 2 ^ 64 < 2 ^ 64
    merge_lt = let l = merged_lt in let q = merge_is in omega arith
