-- The lines of an input.
use Rattle.std.specs.Prelude.{◌≡◌, ℕ, cond, not, List, [], ◌∷◌, drop, Option, ◌==◌}
use Rattle.std.specs.Borrow.{Bor}
use Rattle.std.specs.Iterator.{YieldsFirstRef}
use Rattle.std.specs.List.{prefix_len}
use Rattle.text.specs.declared.reader.Reader.{Reader}

-- a byte in front of the first line
abbrev pub onto : ℕ → List (List ℕ) → List (List ℕ)
onto c [] = (c ∷ []) ∷ []
onto c (l ∷ ls) = (c ∷ l) ∷ ls

-- the lines of what is left of an input after a line: a line ends at byte 10 or at the end,
-- and where nothing is left there is no further line
abbrev pub pieces : List ℕ → List (List ℕ)
pieces [] = []
pieces (c ∷ cs) = cond (c == 10) ([] ∷ pieces cs) (onto c (pieces cs))

-- the lines of an input: an empty one has one line of length 0
abbrev pub lines : List ℕ → List (List ℕ)
lines [] = [] ∷ []
lines (c ∷ cs) = pieces (c ∷ cs)

-- the lines that are still to come at a place: all of them at place 0
abbrev pub to_come : List ℕ → ℕ → List (List ℕ)
to_come input place = cond (place == 0) (lines input) (pieces (drop place input))

-- the lines that a reader has still to hand out
abbrev pub coming : Reader → List (List ℕ)
coming r = to_come r.input.now r.place

-- the first line that is still to come is handed out, or there is none, and the input stays as it was
abbrev pub HandsOut : Reader → Option (Bor (List ℕ)) → Reader → Type 0
HandsOut before line after = YieldsFirstRef coming before line after × (after.input.now ≡ before.input.now)

-- the length of the first line: the bytes before the first byte 10, or all where there is none
abbrev pub line_length : List ℕ → ℕ
line_length bytes = prefix_len (λ c. not (c == 10)) bytes
