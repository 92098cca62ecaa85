-- The words of the compact format: what write gives, and that read and write undo each other.
use Rattle.std.specs.Prelude.{◌≡◌, ℕ, ◌^◌, ◌<◌, ◌≤◌, true, false, is_some, Some, None, Option, ◌≢◌, refl}
use Rattle.std.proofs.Common.{sym, ap, ◌∙◌, ⊎_elim, arith}
use Rattle.std.proofs.lemmas.Option.{cond_some}
use Rattle.std.proofs.lemmas.Bool.{cases_Bool, cond-true, cond-false, eq-eqb, eqb-true, both_ways}
use Rattle.capability.specs.Fields.{field}
use Rattle.capability.specs.Formats.{with_rights}
use Rattle.capability.specs.declared.types.Capability.{Capability}
use Rattle.compact.specs.Exponents.{exponent_of}
use Rattle.compact.specs.Compact.{carries, nine_bits, packed, word_at, word, unpacked, is, capability}
use Rattle.compact.specs.Powers.{exponent_is}
use Rattle.compact.specs.Inverse.{Carried, carried, carries_from, get_low, get_high, get_exponent, unpacked_packed, packed_fits}

-- what write answers, with the exponent in hand
pub word_given : (e : ℕ) (c : Capability) → e ≡ exponent_of c.base c.top → carries e c ≡ true → word c ≡ Some (packed e c)
unfolding word
word_given e c s h = ap (λ n. word_at n c) (sym s) ∙ cond-true _ _ _ h

pub word_refused : (e : ℕ) (c : Capability) → e ≡ exponent_of c.base c.top → carries e c ≡ false → word c ≡ None
unfolding word
word_refused e c s h = ap (λ n. word_at n c) (sym s) ∙ cond-false _ _ _ h

-- a capability that has a word is carried, and the word is packed from it
pub known : (c : Capability) (w : ℕ) → word c ≡ Some w → Carried (exponent_of c.base c.top) c × (packed (exponent_of c.base c.top) c ≡ w)
unfolding word
known c w h =
    let t = cond_some (carries (exponent_of c.base c.top) c) (packed (exponent_of c.base c.top) c) w h in
    (carried (exponent_of c.base c.top) c t.0, t.1)

pub present : (c : Capability) → Carried (exponent_of c.base c.top) c → is_some (word c) ≡ true
present c f = ap is_some (word_given (exponent_of c.base c.top) c refl (carries_from (exponent_of c.base c.top) c f))

pub fits : (c : Capability) (w : ℕ) → word c ≡ Some w → (w < 2 ^ 64) × (c.address < 2 ^ 32) × (c.rights ≤ 63)
fits c w h =
    let k = known c w h in
    let b = packed_fits (exponent_of c.base c.top) c (exponent_is c.base c.top).at_most k.0 in
    (omega arith, k.0.word, k.0.rights)

-- the fields of a capability's word
pub word_fields : (c : Capability) (w : ℕ) → word c ≡ Some w
    → (field w 50 4 ≡ exponent_of c.base c.top)
    × (field w 32 9 ≡ nine_bits (exponent_of c.base c.top) c.base)
    × (field w 41 9 ≡ nine_bits (exponent_of c.base c.top) c.top)
word_fields c w h =
    let e = exponent_of c.base c.top in
    let k = known c w h in
    let le = (exponent_is c.base c.top).at_most in
    let l : nine_bits e c.base < 512 = omega arith in
    let t : nine_bits e c.top < 512 = omega arith in (
      ap (λ n. field n 50 4) (sym k.1) ∙ get_exponent c.address (nine_bits e c.base) (nine_bits e c.top) e c.rights k.0.word l t le k.0.rights,
      ap (λ n. field n 32 9) (sym k.1) ∙ get_low c.address (nine_bits e c.base) (nine_bits e c.top) e c.rights k.0.word l t le k.0.rights,
      ap (λ n. field n 41 9) (sym k.1) ∙ get_high c.address (nine_bits e c.base) (nine_bits e c.top) e c.rights k.0.word l t le k.0.rights,
    )

pub bounds : (c : Capability) (w : ℕ) → word c ≡ Some w → (c.base < c.top) × (c.top ≤ 4294967288)
bounds c w h = let k = known c w h in (k.0.some, k.0.within)

pub any_rights : (c : Capability) (w r : ℕ) → word c ≡ Some w → r ≤ 63 → is_some (word (with_rights c r)) ≡ true
any_rights c w r h l =
    let k = (known c w h).0 in
    present (with_rights c r) (record {
      some = k.some;
      within = k.within;
      short = k.short;
      from = k.from;
      near = k.near;
      word = k.word;
      rights = l;
    })

is_true : (o : Option ℕ) (w : ℕ) → o ≡ Some w → is o w ≡ true
is_true o w h = ap (λ x. is x w) h ∙ eq-eqb w w refl

is_same : (o : Option ℕ) (w : ℕ) → is o w ≡ true → o ≡ Some w
is_same None w h = absurd (both_ways false refl h)
is_same (Some v) w h = ap Some (eqb-true v w h)

-- a word whose fields say a capability that has this word, and any other word
pub read_given : (w : ℕ) → word (unpacked w) ≡ Some w → capability w ≡ Some (unpacked w)
unfolding capability
read_given w h = cond-true _ _ _ (is_true (word (unpacked w)) w h)

pub read_refused : (w : ℕ) → (word (unpacked w) ≢ Some w) → capability w ≡ None
unfolding capability
read_refused w h = ⊎_elim (λ q. absurd (h (is_same (word (unpacked w)) w q))) (λ q. cond-false _ _ _ q)
    (cases_Bool (is (word (unpacked w)) w))

pub read_write : (c : Capability) (w : ℕ) → word c ≡ Some w → capability w ≡ Some c
read_write c w h =
    let k = known c w h in
    let e = exponent_is c.base c.top in
    let u : unpacked w ≡ c = ap unpacked (sym k.1)
    ∙ unpacked_packed (exponent_of c.base c.top) c e.divides_base e.divides_top k.0 e.at_most in
    read_given w (ap word u ∙ h) ∙ ap Some u

pub write_read : (c : Capability) (w : ℕ) → capability w ≡ Some c → word c ≡ Some w
unfolding capability
write_read c w h =
    let t = cond_some (is (word (unpacked w)) w) (unpacked w) c h in
    ap word (sym t.1) ∙ is_same (word (unpacked w)) w t.0
