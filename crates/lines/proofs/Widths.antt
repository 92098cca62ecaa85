-- How large the numbers in a line's fields are.
use Rattle.std.proofs.Common.{◌≡◌, ℕ, ◌+◌, ◌<◌, ◌≤◌, Bool, true, false, cond, not, ◌&&◌, eqb, List, [], ◌∷◌, length, drop, Some, None, Ok, refl, arith}
use Rattle.std.specs.Str.{all_ascii_digits}
use Rattle.std.proofs.lemmas.List.{length-take, length-drop}
use Rattle.std.proofs.lemmas.Bool.{and_parts, cond_both, ltb-false}
use Rattle.std.proofs.lemmas.Str.Parse.{digits_value_short}
use Rattle.text.proofs.Numbers.{own}
use Rattle.text.specs.Fields.{value_of, leading_zero, text_of, blanks_of, field_of, columns, fields_of}
use Rattle.text.specs.declared.fields.Field.{Field}
use Rattle.text.specs.declared.fields.Field.TheVariants.{Blank, Number, Malformed}
use Rattle.text.specs.declared.fields.Fields.{Fields}
use Rattle.lines.specs.declared.checks.Limits.{Limits}
use Rattle.capability.specs.declared.refusal.Refusal.{Refusal}
use Rattle.capability.specs.declared.refusal.Refusal.TheVariants.{NumberTooLarge}
use Rattle.lines.specs.Checks.{number, exceeds, check, too_large, Bounded}

-- three digits write a number below 1,000
text_small : (ds : List ℕ) → length ds ≤ 3 → number (text_of ds) < 1000
text_small [] h = omega arith
text_small (c ∷ cs) h =
    cond_both (all_ascii_digits (c ∷ cs) && not (leading_zero (c ∷ cs))) (Number (value_of (c ∷ cs))) Malformed
    (λ f. number f < 1000)
    (λ e. digits_value_short own (c ∷ cs) 3 (and_parts (all_ascii_digits (c ∷ cs)) (not (leading_zero (c ∷ cs))) e).0 h)
    (λ e. omega arith)

columns_small : (line : List ℕ) (first last : ℕ) → last ≤ first + 2 → number (field_of (columns first last line)) < 1000
columns_small line first last h =
    text_small (drop (blanks_of (columns first last line)) (columns first last line))
    (simp (length-drop, length-take) (omega arith))

small : (line : List ℕ) (f : Fields) (long : Bool) →
    cond long
    (Some record {
      code = field_of (columns 1 2 line);
      a = field_of (columns 3 5 line);
      b = field_of (columns 6 8 line);
      p = field_of (columns 9 20 line);
      q = field_of (columns 21 41 line);
    })
    None
    ≡ Some f → (number f.a < 1000) × (number f.b < 1000)
small line f true e =
    let a : field_of (columns 3 5 line) ≡ f.a = cc in
    let b : field_of (columns 6 8 line) ≡ f.b = cc in
    (rw a at (columns_small line 3 5 (omega arith)), rw b at (columns_small line 6 8 (omega arith)))
small line f false e = absurd (let z : ◌≡◌ {A = ℕ} 0 1 = cc in omega arith)

-- a number that does not exceed its limit
within : (limit : ℕ) (field : Field) → exceeds limit field ≡ false → number field ≤ limit
within limit Blank e = omega arith
within limit (Number n) e = ltb-false limit n e
within limit Malformed e = omega arith

unmarked : (p q : Bool) (e : Refusal) → check (record { code = false; a = false; b = false; p = p; q = q }) e ≡ Ok tt →
    (p ≡ false) × (q ≡ false)
unmarked false false e h = (refl, refl)
unmarked false true e h = absurd (let z : ◌≡◌ {A = ℕ} 0 1 = cc in omega arith)
unmarked true q e h = absurd (let z : ◌≡◌ {A = ℕ} 0 1 = cc in omega arith)

pub bounded : (limits : Limits) (line : List ℕ) (f : Fields) → fields_of line ≡ Some f → check (too_large limits f) NumberTooLarge ≡ Ok tt →
    Bounded limits f
bounded limits line f has passed =
    let s = small line f (eqb (length line) 41) has in
    let u = unmarked (exceeds limits.p f.p) (exceeds limits.q f.q) NumberTooLarge passed in
    record { a = s.0; b = s.1; p = within limits.p f.p u.0; q = within limits.q f.q u.1 }
