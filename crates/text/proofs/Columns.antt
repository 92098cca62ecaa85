-- Numbers at the right ends of columns side by side.
use Rattle.std.proofs.Common.{◌≡◌, ℕ, ◌+◌, ◌-◌, ◌≤◌, List, [], ◌∷◌, ◌++◌, length, take, drop, set, replicate, sym, refl, ap, ◌∙◌, append_assoc, arith}
use Rattle.std.proofs.lemmas.List.{take-append-drop, take-append-le, take-replicate, drop_at, length-append, length-replicate, set-append_right}
use Rattle.std.proofs.Math.Seq.{take-append-add}
use Rattle.text.specs.Answers.{right}

length_right : (w : ℕ) (text : List ℕ) → length text ≤ w → length (right w text) ≡ w
length_right w text h = omega (arith, length-append (replicate (w - length text) 32) text, length-replicate {A = ℕ} (w - length text) 32)

-- a text written over the blanks of a column of width w, so that it ends at e, the column's end
pub column : (before after old new text : List ℕ) (from e w : ℕ) → old ≡ before ++ (replicate w 32 ++ after) → e ≡ length before + w →
    length text ≤ w → from + length text ≡ e → drop from new ≡ text ++ drop e old → take from new ≡ take from old →
    new ≡ (before ++ right w text) ++ after
column before after old new text from e w is end short place written kept =
    let n : ℕ = w - length text in
    let blanks : List ℕ = replicate w 32 in
    let f : from ≡ length before + n = omega arith in
    let front : take from old ≡ before ++ replicate n 32 =
    ap (take from) is ∙ ap (λ k. take k (before ++ (blanks ++ after))) f ∙ take-append-add before (blanks ++ after) n
    ∙ ap (λ t. before ++ t) (take-append-le n blanks after (omega (arith, length-replicate {A = ℕ} w 32)) ∙ take-replicate {X = ℕ} n w 32 (omega arith)) in
    let behind : drop e old ≡ after =
    ap (drop e) (is ∙ sym (append_assoc before blanks after))
    ∙ drop_at (before ++ blanks) after e (omega (arith, length-append before blanks, length-replicate {A = ℕ} w 32)) in
    sym (take-append-drop from new) ∙ ap (λ t. t ++ drop from new) (kept ∙ front)
    ∙ ap (λ t. (before ++ replicate n 32) ++ t) (written ∙ ap (λ t. text ++ t) behind) ∙ simp append_assoc

-- three columns and a byte, written one after the other into 31 blanks
pub line : (a b d l m n : List ℕ) (i j k y : ℕ) → length a ≤ 6 → length b ≤ 3 → length d ≤ 21 →
    i + length a ≡ 6 → drop i l ≡ a ++ drop 6 (replicate 31 32) → take i l ≡ take i (replicate 31 32) →
    j + length b ≡ 9 → drop j m ≡ b ++ drop 9 l → take j m ≡ take j l →
    k + length d ≡ 30 → drop k n ≡ d ++ drop 30 m → take k n ≡ take k m →
    set n 30 y ≡ right 6 a ++ (right 3 b ++ (right 21 d ++ (y ∷ [])))
line a b d l m n i j k y la lb ld pa wa ka pb wb kb pd wd kd =
    let xa = right 6 a in
    let xb = right 3 b in
    let xd = right 21 d in
    let ra = length_right 6 a la in
    let rb = length_right 3 b lb in
    let rd = length_right 21 d ld in
    let one : l ≡ xa ++ replicate 25 32 = column [] (replicate 25 32) (replicate 31 32) l a i 6 6 refl refl la pa wa ka in
    let two : m ≡ (xa ++ xb) ++ replicate 22 32 = column xa (replicate 22 32) l m b j 9 3 one (omega arith) lb pb wb kb in
    let three : n ≡ ((xa ++ xb) ++ xd) ++ (32 ∷ []) =
    column (xa ++ xb) (32 ∷ []) m n d k 30 21 two (omega (arith, length-append xa xb)) ld pd wd kd in
    let all : length ((xa ++ xb) ++ xd) ≡ 30 = omega (arith, length-append xa xb, length-append (xa ++ xb) xd) in
    ap (λ t. set t 30 y) three ∙ set-append_right ((xa ++ xb) ++ xd) (32 ∷ []) 30 30 y all (omega arith) ∙ simp append_assoc
