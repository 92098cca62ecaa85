use Rattle.std.proofs.Common.{◌≡◌, ℕ, ◌/◌, ◌%◌, ◌^◌, Ok, sym, ap, ◌∙◌, refl, arith}
use Rattle.std.proofs.lemmas.Bool.{eqb-true, eq-eqb, both_ways}
use Rattle.compact.proofs.Proper.{Fields, fields, reads}
use Rattle.compact.proofs.format.CompactFormat.read.Goals as goal
use Rattle.compact.proofs.format.CompactFormat.read.Goals.{then-top-e-gt-SPAN-via-then-top-e-gt-SPAN, then-top-e-gt-SPAN-via-else-top-e-gt-SPAN+then-not-is_exponent}

-- the numbers that the code took out of a word are its fields
taken : (w a l h e r : ℕ) → a ≡ w / 2 ^ 0 % 2 ^ 32 → l ≡ w / 2 ^ 32 % 512 → h ≡ w / 2 ^ 41 % 512 → e ≡ w / 2 ^ 50 % 16 → r ≡ w / 2 ^ 54 % 64
    → ◌≡◌ {A = Fields} (record { address = a; low = l; high = h; exponent = e; rights = r }) (fields w)
taken w a l h e r pa pl ph pe pr = λ i. record { address = pa i; low = pl i; high = ph i; exponent = pe i; rights = pr i }

pub returns-then-of-gt0 : goal.returns-then-of-gt0
returns-then-of-gt0 c =
    (reads c.args.word _ (taken _ _ _ _ _ _ c.of-address.ensures c.of-low.ensures c.of-high.ensures c.of-e.ensures refl)).2
    (λ p. grind arith)

pub returns-then-top-e-gt-SPAN : goal.returns-then-top-e-gt-SPAN
returns-then-top-e-gt-SPAN c =
    (reads c.args.word _ (taken _ _ _ _ _ _ c.of-address.ensures c.of-low.ensures c.of-high.ensures c.of-e.ensures refl)).2
    (λ p. elim c.then-top-e-gt-SPAN.branch [
      | then-top-e-gt-SPAN-via-then-top-e-gt-SPAN v ↦ omega arith
      | then-top-e-gt-SPAN-via-else-top-e-gt-SPAN+then-not-is_exponent v ↦ both_ways _ (sym v.if-not-is_exponent.ensures) (eq-eqb _ _ p.exponent)
    ])

pub returns : goal.returns
returns c =
    let is = reads c.args.word _ (taken _ _ _ _ _ _ c.of-address.ensures c.of-low.ensures c.of-high.ensures c.of-e.ensures c.of-2.ensures) in
    let top = ap (λ c. c.top) is.0 in
    ap Ok is.0 ∙ is.1 (record {
      short = omega arith;
      some = c.if-length-eq0.false;
      behind = omega arith;
      within = omega arith;
      exponent = eqb-true _ _ (sym c.if-not-is_exponent.ensures);
    })
