-- The fields of a word.
use Rattle.std.specs.Prelude.{ℕ, ◌+◌, ◌*◌, ◌/◌, ◌%◌, ◌^◌}
use Rattle.capability.specs.declared.field.Field.{Field}

-- the number in so many bits of a word, from a lowest bit on
abbrev pub field : ℕ → ℕ → ℕ → ℕ
field w low count = w / 2 ^ low % 2 ^ count

-- the number in a field of a word, which is told by its lowest bit and the largest number in it
abbrev pub number_in : Field → ℕ → ℕ
number_in f w = w / 2 ^ (f.low % 64) % (f.largest + 1)

-- a number in its place in the word, as far as the word has room
abbrev pub placed : Field → ℕ → ℕ
placed f n = n * 2 ^ (f.low % 64) % 2 ^ 64
