-- How many granules are carried. Assumes nothing.
use Rattle.std.proofs.Common.{zero-add, ◌≡◌, ℕ, zero, suc, ◌+◌, ◌-◌, ◌*◌, ◌/◌, ◌<◌, ◌≤◌, Bool, true, false, cond, List, length, sym, refl, ap, ◌∙◌, arith}
use mir.Val.{bool_byte}
use Rattle.std.proofs.lemmas.Bool.{false_from_ne_true, cond-false}
use Rattle.store.specs.Cells.{Cell}
use Rattle.copying.specs.Copy.{carried, source, count, carried_count}
use Rattle.copying.proofs.After.{parts}

-- 1 for a test that holds
abbrev pub bit : Bool → ℕ
bit t = cond t 1 0

count_none : (q : ℕ → Bool) (n : ℕ) → ((k : ℕ) → k < n → q k ≡ false) → count q n ≡ 0
count_none q zero h = refl
count_none q (suc n) h =
    let e = count_none q n (λ k l. h k (omega arith)) in
    let z : bit (q n) ≡ 0 = cond-false (q n) 1 0 (h n (omega arith)) in
    omega arith

-- those from m on are counted from there
count_shift : (q : ℕ → Bool) (m n : ℕ) → count q (m + n) ≡ count (λ d. q (m + d)) n + count q m
count_shift q m zero = ap (count q) (let e : m + 0 ≡ m = omega arith in e) ∙ (let e : count q m ≡ 0 + count q m = omega arith in e)
count_shift q m (suc n) =
    let s : m + suc n ≡ suc (m + n) = omega arith in
    let e = count_shift q m n in
    ap (count q) s ∙ (let r : bit (q (m + n)) + count q (m + n) ≡ bit (q (m + n)) + count (λ d. q (m + d)) n + count q m = omega arith in r)

-- where none passes from m on, it counts no more
count_past : (q : ℕ → Bool) (m n : ℕ) → ((k : ℕ) → m ≤ k → q k ≡ false) → count q (m + n) ≡ count q m
count_past q m n h =
    let e = count_shift q m n in
    let z = count_none (λ d. q (m + d)) n (λ k l. h (m + k) (omega arith)) in
    omega arith

-- none passes from m on, and none from n on
count_same : (q : ℕ → Bool) (m n : ℕ) → ((k : ℕ) → m ≤ k → q k ≡ false) → ((k : ℕ) → n ≤ k → q k ≡ false) → count q m ≡ count q n
count_same q m n g h =
    sym (count_past q m n g) ∙ ap (count q) (let e : m + n ≡ n + m = omega arith in e) ∙ count_past q n m h

-- tests that agree count the same
count_tests : (q r : ℕ → Bool) (n : ℕ) → ((k : ℕ) → k < n → q k ≡ r k) → count q n ≡ count r n
count_tests q r zero h = refl
count_tests q r (suc n) h =
    let e = count_tests q r n (λ k l. h k (omega arith)) in
    let b : bit (q n) ≡ bit (r n) = ap bit (h n (omega arith)) in
    omega arith

bit_is : (t : Bool) → bool_byte t ≡ bit t
bit_is true = refl
bit_is false = refl

pub one_at_most : (t : Bool) → bool_byte t ≤ 1
one_at_most true = omega arith
one_at_most false = omega arith

-- c of them are counted before turn k of those from low to high - 1, from the lowest up or from the highest down
abbrev pub Counted : (ℕ → Bool) → Bool → ℕ → ℕ → ℕ → ℕ → Type 0
Counted q true low high k c = c ≡ count q (k - low)
Counted q false low high k c = c + count q (high - k) ≡ count q (high - low)

module _ (q : ℕ → Bool) (low high : ℕ) where
  pub counted_none : (up : Bool) → Counted q up low high low 0
  counted_none true = ap (count q) (let z : 0 ≡ low - low = omega arith in z)
  counted_none false = zero-add _

  -- turn k counts granule i
  pub counted_more : (up : Bool) (k i c r : ℕ) (t : Bool) → low ≤ k → k < high → i ≡ cond up k (low + (high - 1 - k)) → t ≡ q (i - low) → r ≡ bool_byte t
      → Counted q up low high k c → Counted q up low high (k + 1) (c + r)
  counted_more true k i c r t l h e is one n =
      let s : count q (k + 1 - low) ≡ bit (q (i - low)) + count q (k - low) =
      ap (count q) (let m : k + 1 - low ≡ suc (k - low) = omega arith in m) ∙ ap (λ (j : ℕ). bit (q j) + count q (k - low)) (let m : k - low ≡ i - low = omega arith in m) in
      let b : r ≡ bit (q (i - low)) = one ∙ bit_is t ∙ ap bit is in
      omega arith
  counted_more false k i c r t l h e is one n =
      let s : count q (high - k) ≡ bit (q (i - low)) + count q (high - (k + 1)) =
      ap (count q) (let m : high - k ≡ suc (high - (k + 1)) = omega arith in m) ∙ ap (λ (j : ℕ). bit (q j) + count q (high - (k + 1))) (let m : high - (k + 1) ≡ i - low = omega arith in m) in
      let b : r ≡ bit (q (i - low)) = one ∙ bit_is t ∙ ap bit is in
      omega arith

  pub counted_all : (up : Bool) (k c : ℕ) → k ≡ high → Counted q up low high k c → c ≡ count q (high - low)
  counted_all true k c e n = n ∙ ap (λ (j : ℕ). count q (j - low)) e
  counted_all false k c e n = let z : count q (high - k) ≡ 0 = ap (count q) (let m : high - k ≡ 0 = omega arith in m) in omega arith

module _ (passes : ℕ → Bool) (f : ℕ) (xs : List Cell) (a b n : ℕ) where
  pub none_carried : n ≡ 0 → carried_count passes f xs a b n ≡ 0
  none_carried z = count_none _ (length xs) (λ k h. false_from_ne_true _ (λ t. let p = parts passes f xs a b n k t in omega arith))

  -- what goes to the granule d behind granule low is carried
  abbrev pub carried_nth : ℕ → ℕ → Bool
  carried_nth low d = carried passes f xs a b n (source a b (low + d))

  pub nth_here : (low i : ℕ) → low ≤ i → carried passes f xs a b n (source a b i) ≡ carried_nth low (i - low)
  nth_here low i l = ap (λ (k : ℕ). carried passes f xs a b n (source a b k)) (let e : i ≡ low + (i - low) = omega arith in e)

  -- the copy goes through all that are carried
  pub all_carried : (low m : ℕ) → 8 * f ≤ a → 8 * f ≤ b → b + n ≤ 8 * (f + length xs) → f + low ≡ a / 8 → m ≡ (a + n + 7) / 8 - a / 8
      → count (carried_nth low) m ≡ carried_count passes f xs a b n
  all_carried low m fa fb bn lo mo =
      let q = carried passes f xs a b n in
      let j = source a b low in
      let t = count_tests (carried_nth low) (λ d. q (j + d)) m (λ k h. let e : source a b (low + k) ≡ j + k = omega arith in ap q e) in
      let s = count_shift q j m in
      let z = count_none q j (λ k h. false_from_ne_true _ (λ t. let p = parts passes f xs a b n k t in omega arith)) in
      let w = count_same q (j + m) (length xs)
      (λ k h. false_from_ne_true _ (λ t. let p = parts passes f xs a b n k t in omega arith))
      (λ k h. false_from_ne_true _ (λ t. let p = parts passes f xs a b n k t in omega arith)) in
      omega arith
