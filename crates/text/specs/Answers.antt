-- The lines that are written.
use Rattle.std.specs.Prelude.{ℕ, ◌-◌, List, [], ◌∷◌, ◌++◌, length, replicate, decimal}

-- a text at the right end of a column of some width, after blanks
abbrev pub right : ℕ → List ℕ → List ℕ
right width text = replicate (width - length text) 32 ++ text

-- an answer line: the line's number in 6 bytes, the refusal or 0 in 3, the answer in 21, and byte 10
abbrev pub answer_line : ℕ → ℕ → ℕ → List ℕ
answer_line number refusal answer =
    right 6 (decimal number) ++ (right 3 (decimal refusal) ++ (right 21 (decimal answer) ++ (10 ∷ [])))

-- a remark, and byte 10
abbrev pub remark_line : List ℕ → List ℕ
remark_line remark = remark ++ (10 ∷ [])
