-- What digits write, and what a text without blanks in front holds.
use Rattle.std.proofs.Common.{◌≡◌, ℕ, ◌+◌, ◌-◌, ◌*◌, ◌^◌, ◌<◌, ◌≤◌, true, false, List, [], ◌∷◌, length, get_or, take, drop, Some, None, Option, MatchOption, refl, ◌∙◌, inl, inr, arith, rules}
use Rattle.std.specs.Int.{IsInRange}
use Rattle.std.specs.Str.{all_ascii_digits}
use Rattle.std.specs.Prelude.{nat_eq}
use Rattle.std.proofs.lemmas.List.{length-take-le, length-drop}
use Rattle.std.proofs.lemmas.List.Sums.{prefix_len_is}
use Rattle.std.proofs.lemmas.Bool.Decides.{nat_tests}
use Rattle.std.proofs.lemmas.Bool.{cases_Bool, cond-false}
use Rattle.std.proofs.lemmas.Str.{digit_value_digit}
use Rattle.std.proofs.lemmas.Int.Digits.{digits_value_more, digits_more}
use Rattle.std.proofs.lemmas.Str.Parse.{IsNumeralModel, numerals_by_weight, tells_all_ascii_digits, digits_value_short, not_in_digits}
use Rattle.text.specs.Fields.{value_of, number_of, text_of, blanks_of, field_of}
use Rattle.text.specs.declared.fields.Field.{Field}
use Rattle.text.specs.declared.fields.Field.TheVariants.{Blank, Number, Malformed}

pub own : IsNumeralModel (λ ds. all_ascii_digits ds ≡ true) value_of
own = numerals_by_weight _ tells_all_ascii_digits value_of (search rules)

pub all_more : (s : List ℕ) (i : ℕ) → i < length s → all_ascii_digits (take i s) ≡ true → 48 ≤ get_or s i 0 → get_or s i 0 ≤ 57 →
    all_ascii_digits (take (i + 1) s) ≡ true
all_more s i h p l u =
    own.from (take (i + 1) s)
    (digits_more 10 s i h (own.to (take i s) p) (omega (arith, digit_value_digit (get_or s i 0) (search rules))))

pub value_step : (s : List ℕ) (i : ℕ) → i < length s → all_ascii_digits (take i s) ≡ true → 48 ≤ get_or s i 0 → get_or s i 0 ≤ 57 →
    value_of (take (i + 1) s) ≡ value_of (take i s) * 10 + (get_or s i 0 - 48)
value_step s i h p l u =
    let a = own.same (take (i + 1) s) (own.to (take (i + 1) s) (all_more s i h p l u)) in
    let b = own.same (take i s) (own.to (take i s) p) in
    let d = digits_value_more 10 s i h in
    omega (arith, a, b, d, digit_value_digit (get_or s i 0) (search rules))

-- twenty digits leave room for one more
pub value_bound : (s : List ℕ) (i : ℕ) → i ≤ 20 → i ≤ length s → all_ascii_digits (take i s) ≡ true → value_of (take i s) < 10 ^ 20
value_bound s i h k p = digits_value_short own (take i s) 20 p (omega (arith, length-take-le i s k))

pub none_at : (s : List ℕ) (i : ℕ) → i < length s → (IsInRange 48 57 (get_or s i 0) → ⊥) → number_of s ≡ None
none_at s i h nd =
    elim (cases_Bool (all_ascii_digits s)) [
      | inl e ↦ absurd (not_in_digits own s (get_or s i 0) e nd i h refl)
      | inr e ↦ cond-false (all_ascii_digits s) (Some (value_of s)) None e
    ]

pub text_blank : (ds : List ℕ) → length ds ≡ 0 → text_of ds ≡ Blank
text_blank [] h = refl
text_blank (c ∷ cs) h = absurd (omega arith)

pub text_zero : (ds : List ℕ) → 1 < length ds → get_or ds 0 0 ≡ 48 → text_of ds ≡ Malformed
text_zero [] h e = absurd (omega arith)
text_zero (c ∷ cs) h e = grind (arith, nat_tests)

-- a number or none, where no zero stands in front of another byte
pub text_read : (ds : List ℕ) (o : Option ℕ) (r : Field) → 0 < length ds → (get_or ds 0 0 ≡ 48 → length ds ≤ 1) → o ≡ number_of ds →
    MatchOption o (r ≡ Malformed) (λ v. r ≡ Number v) → r ≡ text_of ds
text_read [] o r h l is m = absurd (omega arith)
text_read (c ∷ cs) None r h l is m = m ∙ grind (arith, nat_tests, cases_Bool (all_ascii_digits (c ∷ cs)))
text_read (c ∷ cs) (Some v) r h l is m = m ∙ grind (arith, nat_tests, cases_Bool (all_ascii_digits (c ∷ cs)))

-- blanks alone
pub field_blank : (bytes : List ℕ) → ((k : ℕ) → k < length bytes → nat_eq (get_or bytes k 0) 32 ≡ true) → field_of bytes ≡ Blank
field_blank bytes all =
    let found : blanks_of bytes ≡ length bytes =
    prefix_len_is (λ (b : ℕ). nat_eq b 32) bytes (length bytes) 0 (omega arith) all (λ l. absurd (omega arith)) in
    rw found (text_blank (drop (length bytes) bytes) (omega (arith, length-drop (length bytes) bytes)))

-- blanks up to i, and then a text
pub field_text : (bytes : List ℕ) (i : ℕ) → i < length bytes → ((k : ℕ) → k < i → nat_eq (get_or bytes k 0) 32 ≡ true) →
    nat_eq (get_or bytes i 0) 32 ≡ false → field_of bytes ≡ text_of (drop i bytes)
field_text bytes i l before at_i =
    let found : blanks_of bytes ≡ i = prefix_len_is (λ (b : ℕ). nat_eq b 32) bytes i 0 (omega arith) before (λ k. at_i) in
    rw found refl
