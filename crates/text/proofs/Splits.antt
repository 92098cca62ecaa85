-- How the lines of an input come one after the other.
use Rattle.std.proofs.Common.{◌≡◌, ℕ, zero, suc, ◌+◌, ◌-◌, ◌<◌, ◌≤◌, Bool, true, false, cond, not, eqb, ◌==◌, List, [], ◌∷◌, length, take, drop, Some, rules, refl, ap, ◌∙◌, one-add, arith}
use Rattle.std.proofs.lemmas.List.{drop-drop, length-drop}
use Rattle.std.proofs.lemmas.List.Sums.{prefix_len-le-length}
use Rattle.std.proofs.lemmas.Bool.{cond-false, cond_both, ne_eqb}
use Rattle.std.proofs.lemmas.Bool.Decides.{nat_tests}
use Rattle.std.specs.List.{position}
use Rattle.std.specs.Option.{unwrap_or}
use Rattle.std.specs.Iterator.{MakesProgress, item_count}
use Rattle.std.specs.Borrow.{Bor}
use Rattle.text.specs.declared.reader.Reader.{Reader}
use Rattle.text.specs.Lines.{onto, pieces, lines, to_come, coming, line_length}

-- pieces begin with the first line, and go on behind its end
split_at : (c : ℕ) (cs : List ℕ) (b : Bool) →
    (0 < length cs → pieces cs ≡ take (line_length cs) cs ∷ pieces (drop (suc (line_length cs)) cs)) →
    cond b ([] ∷ pieces cs) (onto c (pieces cs))
    ≡ take (cond (not b) (1 + line_length cs) 0) (c ∷ cs)
    ∷ pieces (drop (suc (cond (not b) (1 + line_length cs) 0)) (c ∷ cs))
split_at c cs true h = refl
split_at c [] false h = refl
split_at c (d ∷ ds) false h = rw (one-add (line_length (d ∷ ds))) (ap (onto c) (h (omega arith)))

pieces_split : (xs : List ℕ) → 0 < length xs →
    pieces xs ≡ take (line_length xs) xs ∷ pieces (drop (suc (line_length xs)) xs)
pieces_split [] h = absurd (omega arith)
pieces_split (c ∷ cs) h = split_at c cs (eqb c 10) (pieces_split cs)

-- an input has a first line
pub lines_split : (xs : List ℕ) →
    lines xs ≡ take (line_length xs) xs ∷ pieces (drop (suc (line_length xs)) xs)
lines_split [] = refl
lines_split (c ∷ cs) = pieces_split (c ∷ cs) (omega arith)

to_come_past : (xs : List ℕ) (p : ℕ) → 0 < p → to_come xs p ≡ pieces (drop p xs)
to_come_past xs p h = cond-false (eqb p 0) (lines xs) (pieces (drop p xs)) (ne_eqb p 0 (λ e. omega arith))

to_come_split : (xs : List ℕ) (p : ℕ) → (0 < p → p < length xs) →
    to_come xs p ≡ take (line_length (drop p xs)) (drop p xs) ∷ pieces (drop (suc (line_length (drop p xs))) (drop p xs))
to_come_split xs zero h = lines_split xs
to_come_split xs (suc p) h =
    to_come_past xs (suc p) (omega arith)
    ∙ pieces_split (drop (suc p) xs) (simp length-drop (omega (arith, h (omega arith))))

-- the next line has the n bytes from the place p on, and the others come from behind its end
pub to_come_next : (xs : List ℕ) (p n : ℕ) → (0 < p → p < length xs) → n ≡ line_length (drop p xs) →
    to_come xs p ≡ take (p + n - p) (drop p xs) ∷ to_come xs (p + n + 1)
to_come_next xs p n h is =
    let a : line_length (drop p xs) ≡ p + n - p = omega arith in
    let b : drop (suc (line_length (drop p xs))) (drop p xs) ≡ drop (p + n + 1) xs =
    drop-drop (suc (line_length (drop p xs))) p xs ∙ ap (λ k. drop k xs) (omega arith) in
    let d : to_come xs (p + n + 1) ≡ pieces (drop (p + n + 1) xs) = to_come_past xs (p + n + 1) (omega arith) in
    to_come_split xs p h ∙ cc (a, b, d)

-- the place of the first byte 10, or else the end, is the length of the first line
pub first_length : (xs : List ℕ) (n : ℕ) → n ≡ unwrap_or (position (λ b. b == 10) xs) (length xs) → n ≡ line_length xs
first_length xs n is =
    let h = prefix_len-le-length (λ b. not (b == 10)) xs in
    is ∙ grind (arith, nat_tests, h)

-- a line that is handed out is one less to come
pub less_to_come : (r t : Reader) (l : Bor (List ℕ)) → coming r ≡ l.now ∷ coming t →
    MakesProgress (λ (s : Reader). Unit {0}) (item_count coming) r (Some l) t
less_to_come r t l is = search (rules, ap (length {A = List ℕ}) is)

length_onto : (c : ℕ) (ls : List (List ℕ)) → length (onto c ls) ≤ length ls + 1
length_onto c [] = omega arith
length_onto c (l ∷ ls) = omega arith

length_pieces : (xs : List ℕ) → length (pieces xs) ≤ length xs
length_pieces [] = omega arith
length_pieces (c ∷ cs) =
    cond_both (eqb c 10) ([] ∷ pieces cs) (onto c (pieces cs)) (λ ls. length ls ≤ length (c ∷ cs))
    (λ e. omega (arith, length_pieces cs)) (λ e. omega (arith, length_pieces cs, length_onto c (pieces cs)))

-- no more lines than bytes, but for the empty input
pub length_lines : (xs : List ℕ) → length (lines xs) ≤ length xs + 1
length_lines [] = omega arith
length_lines (c ∷ cs) = omega (arith, length_pieces (c ∷ cs))
