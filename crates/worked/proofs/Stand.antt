-- The worked examples hold.
use Rattle.std.proofs.Common.{◌≡◌, ℕ, None, sym, refl, ap, ◌∙◌, arith, rules}
use Rattle.capability.specs.Fields.{field}
use Rattle.compact.specs.Exponents.{greatest, first, exponent_of, unit_exponent_of}
use Rattle.compact.specs.Compact.{compact, nine_bits, word, located, unpacked}
use Rattle.compact.specs.Laws.{word_fields, read_refused}
use Rattle.worked.specs.Worked.{cap_of, Carries, HasFields, Examples, field_e, field_b, field_t, field_address}

-- bounds that are carried have the fields that the rule computes
has_fields : (base top : ℕ) → Carries compact base top base
    → HasFields base top (exponent_of base top) (nine_bits (exponent_of base top) base) (nine_bits (exponent_of base top) top)
has_fields base top h = record { carried = h; fields = λ a r w. word_fields (cap_of base top a r) w }

-- bounds 8 to 16 have the exponent 3, so no word of theirs has another
small_exponent : (w : ℕ) → field_e w ≡ 0 → field_b w ≡ 8 → field_t w ≡ 16 → field_address w ≡ 8 → compact.capability w ≡ None
unfolding exponent_of greatest
small_exponent w e b t a =
    let u : unpacked w ≡ cap_of 8 16 8 (field w 54 6) = λ i. located (a i) (b i) (t i) (e i) (field w 54 6) in
    read_refused w (λ q.
    let three : field_e w ≡ 3 = (word_fields (cap_of 8 16 8 (field w 54 6)) w (ap word (sym u) ∙ q)).0 in omega arith)

pub stand : Examples
unfolding word exponent_of greatest unit_exponent_of first
stand = record {
  eight_at_64 = has_fields 64 72 (λ r h. search rules);
  longest_by_8 = has_fields 0 4088 (λ r h. search rules);
  one_page = has_fields 0 4096 (λ r h. search rules);
  page_at_8 = λ a r. refl;
  longest_by_1 = has_fields 1 512 (λ r h. search rules);
  too_long = λ a r. refl;
  exact_carries = λ a l r h. search rules;
  last_address = λ r h. search rules;
  below_base = λ r. refl;
  past_range = λ r. refl;
  small_exponent = small_exponent;
  unit_4088 = refl;
  unit_4089 = refl;
  rounded_4089 = refl;
}
