-- The laws of the exact format.
use Rattle.std.specs.Prelude.{◌≡◌, ℕ, ◌+◌, ◌-◌, ◌*◌, ◌/◌, ◌^◌, ◌<◌, ◌≤◌, true, is_some, Some, nat_lt, refl}
use Rattle.std.proofs.Common.{sym, ap, ◌∙◌, arith, rules}
use Rattle.std.proofs.lemmas.Nat.{shr-shr}
use Rattle.std.proofs.lemmas.Option.{cond_some}
use Rattle.std.proofs.lemmas.Bool.{cond-true, and_parts, and_from, eqb-true, eq-eqb, ltb-true, lt-ltb}
use Rattle.capability.specs.Fields.{field}
use Rattle.capability.specs.Formats.{Lawful, with_rights}
use Rattle.capability.specs.declared.types.Capability.{Capability}
use Rattle.exact.specs.Exact.{exact, carries, packed, unpacked, proper}

-- what a carried capability is known by
record Carried (c : Capability) : Type 0 where
  some : c.base < c.top
  within : c.top ≤ 65536
  near : c.address ≤ 65535
  rights : c.rights ≤ 63

carried : (c : Capability) → carries c ≡ true → Carried c
carried c h = record { some = search rules; within = search rules; near = search rules; rights = search rules }

carries_from : (c : Capability) → Carried c → carries c ≡ true
carries_from c f = search rules

known : (c : Capability) (w : ℕ) → exact.word c ≡ Some w → Carried c × (packed c ≡ w)
known c w h = let t = cond_some (carries c) (packed c) w h in (carried c t.0, t.1)

present : (c : Capability) → Carried c → is_some (exact.word c) ≡ true
present c f = ap is_some (cond-true _ _ _ (carries_from c f))

fits : (c : Capability) (w : ℕ) → exact.word c ≡ Some w → (w < 2 ^ 64) × (c.address < 2 ^ 32) × (c.rights ≤ 63)
fits c w h = let k = known c w h in (omega arith, omega arith, omega arith)

-- four fields side by side, and what is read from them
module _ (b l a r : ℕ) (fb : b < 65536) (fl : l < 65536) (fa : a < 65536) (fr : r < 64) where
  get_base : field (b * 2 ^ 0 + l * 2 ^ 16 + a * 2 ^ 32 + r * 2 ^ 48) 0 16 ≡ b
  get_base = omega arith

  get_last : field (b * 2 ^ 0 + l * 2 ^ 16 + a * 2 ^ 32 + r * 2 ^ 48) 16 16 ≡ l
  get_last = omega arith

  get_address : field (b * 2 ^ 0 + l * 2 ^ 16 + a * 2 ^ 32 + r * 2 ^ 48) 32 16 ≡ a
  get_address = omega arith

  get_rights : field (b * 2 ^ 0 + l * 2 ^ 16 + a * 2 ^ 32 + r * 2 ^ 48) 48 6 ≡ r
  get_rights = omega arith

  unpacked_fields : unpacked (b * 2 ^ 0 + l * 2 ^ 16 + a * 2 ^ 32 + r * 2 ^ 48) ≡ record { base = b; top = l + 1; address = a; rights = r }
  unpacked_fields = λ i. record { base = get_base i; top = get_last i + 1; address = get_address i; rights = get_rights i }

-- a carried capability is read again from its word
unpacked_packed : (c : Capability) → Carried c → unpacked (packed c) ≡ c
unpacked_packed c f =
    let t : c.top - 1 + 1 ≡ c.top = omega arith in
    unpacked_fields c.base (c.top - 1) c.address c.rights (omega arith) (omega arith) (omega arith) (omega arith)
    ∙ (λ i. record { base = c.base; top = t i; address = c.address; rights = c.rights })

proper_packed : (c : Capability) → Carried c → proper (packed c) ≡ true
proper_packed c f =
    let e : packed c / 2 ^ 54 ≡ 0 = omega arith in
    let u = unpacked_packed c f in
    and_from _ _ (eq-eqb _ _ e) ((λ i. nat_lt (u i).base (u i).top) ∙ lt-ltb _ _ f.some)

read_write : (c : Capability) (w : ℕ) → exact.word c ≡ Some w → exact.capability w ≡ Some c
read_write c w h =
    let k = known c w h in
    ap exact.capability (sym k.1) ∙ cond-true _ _ _ (proper_packed c k.0) ∙ ap Some (unpacked_packed c k.0)

-- the word of what a proper word reads as is that word
packed_unpacked : (w : ℕ) → proper w ≡ true → packed (unpacked w) ≡ w
packed_unpacked w h =
    let e : w / 2 ^ 54 ≡ 0 = eqb-true _ _ (and_parts _ _ h).0 in
    let a : w / 2 ^ 16 / 2 ^ 16 ≡ w / 2 ^ 32 = shr-shr w 16 16 in
    let r : w / 2 ^ 32 / 2 ^ 16 ≡ w / 2 ^ 48 = shr-shr w 32 16 in
    let z : w / 2 ^ 48 / 2 ^ 6 ≡ w / 2 ^ 54 = shr-shr w 48 6 in
    let l : w / 2 ^ 0 ≡ w = omega arith in
    omega arith

carries_unpacked : (w : ℕ) → proper w ≡ true → carries (unpacked w) ≡ true
carries_unpacked w h =
    carries_from (unpacked w) (record {
      some = ltb-true _ _ (and_parts _ _ h).1;
      within = omega arith;
      near = omega arith;
      rights = omega arith;
    })

write_read : (c : Capability) (w : ℕ) → exact.capability w ≡ Some c → exact.word c ≡ Some w
write_read c w h =
    let t = cond_some (proper w) (unpacked w) c h in
    ap exact.word (sym t.1) ∙ cond-true _ _ _ (carries_unpacked w t.0) ∙ ap Some (packed_unpacked w t.0)

bounds : (c : Capability) (w : ℕ) → exact.word c ≡ Some w → (c.base < c.top) × (c.top ≤ 65536)
bounds c w h = let k = known c w h in (k.0.some, k.0.within)

any_rights : (c : Capability) (w r : ℕ) → exact.word c ≡ Some w → r ≤ 63 → is_some (exact.word (with_rights c r)) ≡ true
any_rights c w r h l =
    let k = (known c w h).0 in
    present (with_rights c r) (record { some = k.some; within = k.within; near = k.near; rights = l })

pub lawful : Lawful exact
lawful = record {
  span_low = omega arith;
  span_high = omega arith;
  fits = fits;
  read_write = read_write;
  write_read = write_read;
  bounds = bounds;
  any_rights = any_rights;
  units = λ size l h. record {
    exponent = 3;
    low = omega arith;
    high = omega arith;
    power = refl;
    serves = λ k r t s. search rules;
    least = λ e a b _. omega arith;
  };
}
