-- Words in the data: the sum of eight bytes is the word, and a word that is written leaves the other bytes. Assumes nothing.
use Rattle.std.proofs.Common.{◌≡◌, ℕ, zero, suc, ◌+◌, ◌-◌, ◌*◌, ◌/◌, ◌%◌, ◌^◌, ◌<◌, ◌≤◌, cond, eqb, ◌≢◌, List, ◌++◌, map, length, get_or, take, drop, sym, refl, ap, ◌∙◌, ⊎_elim, arith}
use borrow.Rule.Slice.PartMut.{put_mid}
use Rattle.std.specs.List.{range_with_len}
use Rattle.std.proofs.lemmas.List.{length-take-le, length-drop, length-append, get_or_append_left, get_or-append_right, get_or-take, get_or-drop, ext_get_or}
use Rattle.std.proofs.lemmas.List.FromFn.{length-map-range_with_len, get_or-map-range_with_len, fill_by_all}
use Rattle.std.proofs.lemmas.Bool.{cases_lt, eq-eqb, ne_eqb, cond-true, cond-false}
use Rattle.flat.specs.Flat.{total, word_at, with_word}

-- two sums are equal if their parts are
pub total_same : (n : ℕ) (f g : ℕ → ℕ) → ((k : ℕ) → k < n → f k ≡ g k) → total n f ≡ total n g
total_same zero f g h = refl
total_same (suc n) f g h =
    let p : total n f ≡ total n g = total_same n f g (λ k l. h k (omega arith)) in
    let q : f n ≡ g n = h n (omega arith) in
    omega arith

-- the eight bytes of a word, the lowest first
abbrev pub bytes_of : ℕ → List ℕ
bytes_of w = map (λ k. w / 256 ^ k % 256) (range_with_len 0 8)

module _ (bytes : List ℕ) (i w : ℕ) (fits : 8 * i + 8 ≤ length bytes) where
  abbrev after : ℕ → ℕ
  after p = cond (eqb (p / 8) i) (w / 256 ^ (p % 8) % 256) (get_or bytes p 0)

  after_out : (p : ℕ) → p / 8 ≢ i → get_or bytes p 0 ≡ after p
  after_out p n = sym (cond-false _ _ _ (ne_eqb (p / 8) i n))

  after_in : (p : ℕ) → p / 8 ≡ i → w / 256 ^ (p % 8) % 256 ≡ after p
  after_in p e = sym (cond-true _ _ _ (eq-eqb (p / 8) i e))

  -- the word's bytes, copied over those of the granule
  pub copied : (part : List ℕ) → part ≡ bytes_of w → put_mid (8 * i) ((8 * i + 8) - 8 * i) bytes part ≡ with_word bytes i w
  unfolding with_word
  copied part e =
      let n : ℕ = (8 * i + 8) - 8 * i in
      let rest : List ℕ = drop n (drop (8 * i) bytes) in
      let front : length (take (8 * i) bytes) ≡ 8 * i = length-take-le (8 * i) bytes (omega arith) in
      let long : length part ≡ 8 = ap length e in
      let more = length-append part rest in
      let all = length-append (take (8 * i) bytes) (part ++ rest) in
      let left = length-drop n (drop (8 * i) bytes) in
      let back = length-drop (8 * i) bytes in
      fill_by_all after (take (8 * i) bytes ++ (part ++ rest)) (length bytes) 0 (omega arith)
      (λ p l. ⊎_elim
      (λ low. get_or_append_left (take (8 * i) bytes) (part ++ rest) 0 p (omega arith)
      ∙ get_or-take (8 * i) bytes p 0 low ∙ after_out p (omega arith))
      (λ from. get_or-append_right (take (8 * i) bytes) (part ++ rest) (8 * i) p 0 front from
      ∙ ⊎_elim
      (λ below. let d : p - 8 * i ≡ p % 8 = omega arith in
      get_or_append_left part rest 0 (p - 8 * i) (omega arith)
      ∙ ap (λ xs. get_or xs (p - 8 * i) 0) e
      ∙ get_or-map-range_with_len (λ k. w / 256 ^ k % 256) 0 8 (p - 8 * i) (p % 8) 0 (omega arith) (omega arith)
      ∙ after_in p (omega arith))
      (λ past. get_or-append_right part rest 8 (p - 8 * i) 0 long (omega arith)
      ∙ get_or-drop n (drop (8 * i) bytes) (p - 8 * i - 8) 0
      ∙ get_or-drop (8 * i) bytes (n + (p - 8 * i - 8)) 0
      ∙ ap (λ q. get_or bytes q 0) (let q : 8 * i + (n + (p - 8 * i - 8)) ≡ p = omega arith in q)
      ∙ after_out p (omega arith))
      (cases_lt p (8 * i + 8)))
      (cases_lt p (8 * i)))

  pub length_with_word : length (with_word bytes i w) ≡ length bytes
  unfolding with_word
  length_with_word = length-map-range_with_len after 0 (length bytes)

  byte_of : (p : ℕ) → p < length bytes → get_or (with_word bytes i w) p 0 ≡ after p
  unfolding with_word
  byte_of p l = get_or-map-range_with_len after 0 (length bytes) p p 0 l (omega arith)

  -- the granule's word is the one that was written
  pub word_same : w < 2 ^ 64 → word_at (with_word bytes i w) i ≡ w
  word_same s =
      let e : word_at (with_word bytes i w) i ≡ total 8 (λ k. w / 256 ^ k % 256 * 256 ^ k) =
      total_same 8 (λ k. get_or (with_word bytes i w) (8 * i + k) 0 * 256 ^ k) (λ k. w / 256 ^ k % 256 * 256 ^ k)
      (λ k l. ap (λ b. b * 256 ^ k)
      (byte_of (8 * i + k) (omega arith) ∙ sym (after_in (8 * i + k) (omega arith))
      ∙ ap (λ r. w / 256 ^ r % 256) (let r : (8 * i + k) % 8 ≡ k = omega arith in r))) in
      let v : total 8 (λ k. w / 256 ^ k % 256 * 256 ^ k) ≡ w = omega arith in
      e ∙ v

  -- every other granule's word is as it was
  pub word_other : (j : ℕ) → 8 * j + 8 ≤ length bytes → j ≢ i → word_at (with_word bytes i w) j ≡ word_at bytes j
  word_other j f n =
      total_same 8 (λ k. get_or (with_word bytes i w) (8 * j + k) 0 * 256 ^ k) (λ k. get_or bytes (8 * j + k) 0 * 256 ^ k)
      (λ k l. ap (λ b. b * 256 ^ k)
      (byte_of (8 * j + k) (omega arith) ∙ sym (after_out (8 * j + k) (λ q. n (omega arith)))))

  -- the bytes behind granule i are as they were
  pub behind_word : (n : ℕ) → i < n → drop (8 * n) (with_word bytes i w) ≡ drop (8 * n) bytes
  behind_word n b =
      let new : List ℕ = with_word bytes i w in
      let a = length-drop (8 * n) new in
      let o = length-drop (8 * n) bytes in
      let long = length_with_word in
      ext_get_or 0 (drop (8 * n) new) (drop (8 * n) bytes) (omega arith)
      (λ p l. get_or-drop (8 * n) new p 0 ∙ byte_of (8 * n + p) (omega arith)
      ∙ sym (after_out (8 * n + p) (λ q. let z : ⊥ = omega arith in z)) ∙ sym (get_or-drop (8 * n) bytes p 0))
