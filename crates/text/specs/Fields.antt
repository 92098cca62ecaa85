-- The fields of a line.
use Rattle.std.specs.Prelude.{ℕ, ◌+◌, ◌-◌, ◌*◌, ◌^◌, Bool, false, cond, not, ◌&&◌, List, [], ◌∷◌, length, take, drop, Some, None, Option, ◌==◌, nat_eq, nat_lt}
use Rattle.std.specs.List.{prefix_len}
use Rattle.std.specs.Str.{all_ascii_digits}
use Rattle.text.specs.declared.fields.Field.{Field}
use Rattle.text.specs.declared.fields.Field.TheVariants.{Blank, Number, Malformed}
use Rattle.text.specs.declared.fields.Fields.{Fields}

-- how many blanks stand in front
abbrev pub blanks_of : List ℕ → ℕ
blanks_of bytes = prefix_len (λ c. nat_eq c 32) bytes

-- the number that decimal digits write: each digit times the power of ten of its place
abbrev pub value_of : List ℕ → ℕ
value_of [] = 0
value_of (c ∷ cs) = (c - 48) * 10 ^ length cs + value_of cs

-- the same, or None where some byte is no digit
abbrev pub number_of : List ℕ → Option ℕ
number_of bytes = cond (all_ascii_digits bytes) (Some (value_of bytes)) None

-- a zero in front of another byte
abbrev pub leading_zero : List ℕ → Bool
leading_zero [] = false
leading_zero (c ∷ cs) = c == 48 && nat_lt 0 (length cs)

-- what a text without blanks in front holds: nothing, or a number without leading zeros, or neither
abbrev pub text_of : List ℕ → Field
text_of [] = Blank
text_of (c ∷ cs) =
    cond (all_ascii_digits (c ∷ cs) && not (leading_zero (c ∷ cs))) (Number (value_of (c ∷ cs))) Malformed

-- what a field holds: blanks alone, or blanks and then a number, or neither
abbrev pub field_of : List ℕ → Field
field_of bytes = text_of (drop (blanks_of bytes) bytes)

-- the bytes in some columns, which are counted from 1
abbrev pub columns : ℕ → ℕ → List ℕ → List ℕ
columns first last line = take (last + 1 - first) (drop (first - 1) line)

-- the fields of a line; a line that is not 41 bytes long has none
abbrev pub fields_of : List ℕ → Option Fields
fields_of line = cond (length line == 41)
    (Some record {
      code = field_of (columns 1 2 line);
      a = field_of (columns 3 5 line);
      b = field_of (columns 6 8 line);
      p = field_of (columns 9 20 line);
      q = field_of (columns 21 41 line);
    })
    None
