-- Where the bytes of a store stand. Assumes nothing.
use Rattle.std.proofs.Common.{◌≡◌, ℕ, ◌+◌, ◌-◌, ◌*◌, ◌/◌, ◌%◌, ◌^◌, ◌<◌, ◌≤◌, List, sym, ap, ◌∙◌, ⊎_elim, arith}
use Rattle.std.proofs.lemmas.Bool.{cases_lt}
use Rattle.store.specs.Cells.{Cell, cell}
use Rattle.stored_bytes.specs.Bytes.{number, byte, byte_of}
use Rattle.stored_bytes.proofs.Made.{made_of, low_number, slid, byte_under, byte_over}

module _ (f : ℕ) (xs : List Cell) where
  -- byte k of granule i, which is x's or the next one
  pub byte_at : (x i k : ℕ) → x / 8 - f ≡ i → x % 8 ≡ k → byte f xs x ≡ byte_of (cell xs i).0 k
  byte_at x i k d m = ap (λ (j : ℕ). byte_of (cell xs j).0 (x % 8)) d ∙ ap (byte_of (cell xs i).0) m

  pub byte_below : (x : ℕ) → byte f xs x < 256
  byte_below x = omega arith

  -- a granule's word, from its bytes
  pub word_is : (x i w : ℕ) → x ≡ 8 * (f + i) → w ≡ (cell xs i).0 → w < 2 ^ 64 → w ≡ number (byte f xs) x 8
  word_is x i w e we fits = made_of w (byte f xs) x fits (λ k h.
      ap (λ (v : ℕ). byte_of v k) we ∙ sym (byte_at (x + k) i k (omega arith) (omega arith)))

  -- the n bytes from x on, out of the words of x's granule and of the next one, which counts only where the bytes reach it
  module _ (x n w l h : ℕ) (n8 : n ≤ 8) (le : l ≡ (cell xs (x / 8 - f)).0) (he : 8 < x % 8 + n → h ≡ (cell xs (x / 8 + 1 - f)).0)
      (fits : l < 2 ^ 64) (we : w ≡ (l + h * 2 ^ 64) / 256 ^ (x % 8) % 2 ^ 64) where
    under : (k : ℕ) → x % 8 + k < 8 → byte_of (l + h * 2 ^ 64) (x % 8 + k) ≡ byte f xs (x + k)
    under k lt =
        byte_under l h 8 (x % 8 + k) fits lt ∙ ap (λ (v : ℕ). byte_of v (x % 8 + k)) le
        ∙ sym (byte_at (x + k) (x / 8 - f) (x % 8 + k) (omega arith) (omega arith))

    over : (k : ℕ) → k < n → 8 ≤ x % 8 + k → byte_of (l + h * 2 ^ 64) (x % 8 + k) ≡ byte f xs (x + k)
    over k m ge =
        byte_over l h 8 (x % 8 + k) fits ge ∙ ap (λ (v : ℕ). byte_of v (x % 8 + k - 8)) (he (omega arith))
        ∙ sym (byte_at (x + k) (x / 8 + 1 - f) (x % 8 + k - 8) (omega arith) (omega arith))

    pub of_two : w % 256 ^ n ≡ number (byte f xs) x n
    of_two = low_number w (byte f xs) x n (λ k m.
        let k8 : k < 8 = omega arith in
        ap (λ (v : ℕ). byte_of v k) we ∙ slid l h (x % 8) k k8 ∙ ⊎_elim (under k) (over k m) (cases_lt (x % 8 + k) 8))
