-- Tags in the tag buffer: one that is written is read back, and leaves the others. Assumes nothing.
use Rattle.std.proofs.Common.{◌≡◌, ℕ, ◌*◌, ◌/◌, ◌%◌, ◌^◌, ◌<◌, Bool, true, false, eqb, ◌≢◌, List, length, get_or, sym, refl, ap, ◌∙◌, ⊎_elim, arith}
use mir.Val.{bool_byte}
use Rattle.std.proofs.lemmas.List.{get_or-set_same, get_or-set_other}
use Rattle.std.proofs.lemmas.Bool.{cases_eq}
use Rattle.std.proofs.lemmas.Nat.{mod_below, pow_pos}
use Rattle.flat.specs.Flat.{bit, with_bit, tag_bit, tag_at, with_tag}
use Rattle.flat.proofs.Bits.{parts_of, with_is, bit_same, bit_other}

bool_below : (v : Bool) → bool_byte v < 2
bool_below true = omega arith
bool_below false = omega arith

bool_bit : (v : Bool) → eqb (bool_byte v) 1 ≡ v
bool_bit true = refl
bool_bit false = refl

module _ (tags : List ℕ) (i : ℕ) (t : Bool) (fits : i < 8 * length tags) where
  abbrev k : ℕ
  k = i % 8

  abbrev old : ℕ
  old = get_or tags (i / 8) 0

  abbrev new : ℕ
  new = with_bit old k (bool_byte t)

  written : get_or (with_tag tags i t) (i / 8) 0 ≡ new
  written = let l : i / 8 < length tags = omega arith in get_or-set_same tags (i / 8) new 0 l

  pub tag_same : tag_at (with_tag tags i t) i ≡ t
  tag_same =
      ap (λ x. eqb (bit x k) 1) (written ∙ with_is old k (bool_byte t))
      ∙ ap (λ x. eqb x 1) (bit_same (old / 2 ^ k / 2) k (bool_byte t) (old % 2 ^ k) (bool_below t) (mod_below old (2 ^ k) (pow_pos k)))
      ∙ bool_bit t

  pub bit_kept : (j : ℕ) → j ≢ i → tag_bit (with_tag tags i t) j ≡ tag_bit tags j
  bit_kept j ne =
      ⊎_elim
      (λ (e : j / 8 ≡ i / 8).
      let nk : j % 8 ≢ k = λ q. ne (omega arith) in
      let two : bit old k < 2 = omega arith in
      ap (λ n. bit (get_or (with_tag tags i t) n 0) (j % 8)) e
      ∙ ap (λ x. bit x (j % 8)) (written ∙ with_is old k (bool_byte t))
      ∙ bit_other (old / 2 ^ k / 2) k (bool_byte t) (bit old k) (old % 2 ^ k) (j % 8)
      (bool_below t) two (mod_below old (2 ^ k) (pow_pos k)) nk
      ∙ ap (λ x. bit x (j % 8)) (sym (parts_of old k))
      ∙ ap (λ n. bit (get_or tags n 0) (j % 8)) (sym e))
      (λ (n : j / 8 ≢ i / 8). ap (λ x. bit x (j % 8)) (get_or-set_other tags (i / 8) (j / 8) new 0 n))
      (cases_eq (j / 8) (i / 8))

  pub tag_other : (j : ℕ) → j ≢ i → tag_at (with_tag tags i t) j ≡ tag_at tags j
  tag_other j ne = ap (λ x. eqb x 1) (bit_kept j ne)
