-- The checks of a line's fields.
use Rattle.std.specs.Prelude.{◌≡◌, ℕ, ◌<◌, ◌≤◌, Bool, true, false, cond, not, ◌&&◌, ◌||◌, List, length, is_some, Some, None, Ok, Err, Option, Result, nat_lt}
use Rattle.std.specs.Option.{ok_or}
use Rattle.capability.specs.declared.refusal.Refusal.{Refusal}
use Rattle.capability.specs.declared.refusal.Refusal.TheVariants.{LineLength, FieldForm, NumberTooLarge, NotListed, FieldMissing, FieldUnneeded}
use Rattle.text.specs.Fields.{fields_of}
use Rattle.text.specs.declared.fields.Field.{Field}
use Rattle.text.specs.declared.fields.Field.TheVariants.{Blank, Number, Malformed}
use Rattle.text.specs.declared.fields.Fields.{Fields}
use Rattle.lines.specs.declared.fault.Fault.{Fault}
use Rattle.lines.specs.declared.checks.Limits.{Limits}
use Rattle.lines.specs.declared.checks.Marks.{Marks}

-- goes on with what was found, and ends with the fault else
abbrev pub found : {A B : Type 0} → Result A Fault → (A → Result B Fault) → Result B Fault
found (Ok a) k = k a
found (Err f) k = Err f

-- one field

abbrev pub malformed : Field → Bool
malformed Blank = false
malformed (Number n) = false
malformed Malformed = true

abbrev pub blank : Field → Bool
blank Blank = true
blank (Number n) = false
blank Malformed = false

-- it holds a number above a limit
abbrev pub exceeds : ℕ → Field → Bool
exceeds limit Blank = false
exceeds limit (Number n) = nat_lt limit n
exceeds limit Malformed = false

-- the number in it, or 0
abbrev pub number : Field → ℕ
number Blank = 0
number (Number n) = n
number Malformed = 0

-- some of the five fields

-- the first column of the leftmost of them
abbrev pub leftmost : Marks → Option ℕ
leftmost m =
    cond m.code (Some 1) (cond m.a (Some 3) (cond m.b (Some 6) (cond m.p (Some 9) (cond m.q (Some 21) None))))

-- where there is one, the refusal is answered with the first column of the leftmost
abbrev pub at_column : Refusal → Option ℕ → Result (Unit {0}) Fault
at_column e None = Ok tt
at_column e (Some column) = Err (record { refusal = e; answer = column })

abbrev pub check : Marks → Refusal → Result (Unit {0}) Fault
check m e = at_column e (leftmost m)

-- the fields that are among either
abbrev pub either : Marks → Marks → Marks
either x y = record { code = x.code || y.code; a = x.a || y.a; b = x.b || y.b; p = x.p || y.p; q = x.q || y.q }

-- the fields that are among both
abbrev pub both : Marks → Marks → Marks
both x y = record { code = x.code && y.code; a = x.a && y.a; b = x.b && y.b; p = x.p && y.p; q = x.q && y.q }

-- the other fields
abbrev pub others : Marks → Marks
others x = record { code = not x.code; a = not x.a; b = not x.b; p = not x.p; q = not x.q }

-- the fields that are neither blank nor a number
abbrev pub all_malformed : Fields → Marks
all_malformed f = record {
  code = malformed f.code;
  a = malformed f.a;
  b = malformed f.b;
  p = malformed f.p;
  q = malformed f.q;
}

-- the fields that hold a number above its limit
abbrev pub too_large : Limits → Fields → Marks
too_large limits f = record {
  code = false;
  a = false;
  b = false;
  p = exceeds limits.p f.p;
  q = exceeds limits.q f.q;
}

-- the needed fields that are blank
abbrev pub missing : Marks → Fields → Marks
missing needed f = record {
  code = needed.code && blank f.code;
  a = needed.a && blank f.a;
  b = needed.b && blank f.b;
  p = needed.p && blank f.p;
  q = needed.q && blank f.q;
}

-- the unneeded fields that are filled
abbrev pub surplus : Marks → Fields → Marks
surplus needed f = record {
  code = not needed.code && not (blank f.code);
  a = not needed.a && not (blank f.a);
  b = not needed.b && not (blank f.b);
  p = not needed.p && not (blank f.p);
  q = not needed.q && not (blank f.q);
}

-- what the number in a field stands for, if it is filled and listed
abbrev pub picked : {A : Type 0} → (ℕ → Option A) → Field → Option A
picked listed Blank = None
picked listed (Number n) = listed n
picked listed Malformed = None

-- a field is filled, and what it holds is not listed
abbrev pub unlisted : {A : Type 0} → (ℕ → Option A) → Field → Bool
unlisted listed f = not (blank f) && not (is_some (picked listed f))

-- what a conversion found for the number in a field that begins at some column, or its refusal with that column
abbrev pub at_field : {A : Type 0} → ℕ → Result A Refusal → Result (Option A) Fault
at_field column (Ok a) = Ok (Some a)
at_field column (Err e) = Err (record { refusal = e; answer = column })

-- a blank field names nothing, a number what a conversion may give for it, and any other field is refused
abbrev pub Names : {A : Type 0} → (ℕ → Result A Refusal → Type 0) → ℕ → Field → Result (Option A) Fault → Type 0
Names gives column Blank r = r ≡ Ok None
Names {A} gives column (Number n) r = (t : Result A Refusal) × gives n t × (r ≡ at_field column t)
Names gives column Malformed r = r ≡ Err (record { refusal = NotListed; answer = column })

-- the needed fields are filled, and then no other is
abbrev pub required : Marks → Fields → Result (Unit {0}) Fault
required needed f = found (check (missing needed f) FieldMissing) (λ _. check (surplus needed f) FieldUnneeded)

-- the fields of a line: it is 41 bytes long, or else its length is answered; then no field is malformed, and then no number
-- is above its limit
abbrev pub fields_in : Limits → List ℕ → Result Fields Fault
fields_in limits line =
    found (ok_or (fields_of line) (record { refusal = LineLength; answer = length line })) (λ f.
    found (check (all_malformed f) FieldForm) (λ _.
    found (check (too_large limits f) NumberTooLarge) (λ _.
    Ok f)))

-- what then holds of the numbers: a and b have three digits at most, and the others are within their limits
pub record Bounded (limits : Limits) (f : Fields) : Type 0 where
  pub a : number f.a < 1000
  pub b : number f.b < 1000
  pub p : number f.p ≤ limits.p
  pub q : number f.q ≤ limits.q
