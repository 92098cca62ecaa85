-- Words with each field at its ends.
use Rattle.std.specs.Prelude.{ℕ, ◌+◌, ◌-◌, ◌/◌, ◌%◌, cond, List, [], ◌∷◌, ◌==◌, bit_or}
use Rattle.capability.specs.Fields.{placed}
use Rattle.capability.specs.declared.field.Field.{Field}

-- the numbers of a field that are tried: 0, the middle, the largest but one and the largest
abbrev pub tried : ℕ → ℕ → ℕ
tried largest which =
    cond (which == 0) 0 (cond (which == 1) (largest / 2 + 1) (cond (which == 2) (largest - 1) largest))

-- such a number in its place in the word
abbrev pub end_of : Field → ℕ → ℕ
end_of f which = placed f (tried f.largest which)

-- the word of a place: its digits by 4, the lowest first, say the number of each field
abbrev pub word_of : List Field → ℕ → ℕ
word_of [] place = 0
word_of (f ∷ fs) place = bit_or (end_of f (place % 4)) (word_of fs (place / 4))
