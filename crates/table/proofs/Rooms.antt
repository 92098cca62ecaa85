-- What a search for room may pass over. Assumes nothing.
use Rattle.std.proofs.Common.{◌≡◌, ℕ, zero, suc, ◌+◌, ◌-◌, ◌*◌, ◌/◌, ◌%◌, ◌<◌, ◌≤◌, true, false, ◌&&◌, eqb, leb, ◌⊎◌, List, [], ◌∷◌, length, sym, refl, ap, ◌∙◌, subst, inl, inr, ⊎_elim, add-zero, add-mul, one-mul, arith}
use Rattle.std.proofs.lemmas.Nat.{div-add-mod', mod_below, mod-mul-add, div_below, mul-le}
use Rattle.std.proofs.lemmas.Bool.{cases_lt, cases_order, and_parts, and_from, or_cases, or_left, or_right, or_parts, leb-true, leb-false, le-leb, eqb-true, eq-eqb}
use Rattle.plain.specs.Blocks.{Entry, entry_at, apart, apart_all, free_at}

abbrev pub Apart : ℕ → ℕ → Entry → Type 0
Apart x e b = (e ≤ b.start) ⊎ (b.end ≤ x)

pub apart_of : (x e : ℕ) (b : Entry) → true ≡ apart x e b → Apart x e b
apart_of x e b h = ⊎_elim (λ l. inl (leb-true e b.start l)) (λ l. inr (leb-true b.end x l)) (or_cases (leb e b.start) (leb b.end x) (sym h))

of_apart : (x e : ℕ) (b : Entry) → Apart x e b → apart x e b ≡ true
of_apart x e b h = ⊎_elim (λ l. or_left (leb e b.start) (leb b.end x) (le-leb e b.start l)) (λ l. or_right (leb e b.start) (leb b.end x) (le-leb b.end x l)) h

-- a block that is not apart stands in the way
pub meets : (x e : ℕ) (b : Entry) → false ≡ apart x e b → (b.start < e) × (x < b.end)
meets x e b h = let p = or_parts (leb e b.start) (leb b.end x) (sym h) in (leb-false _ _ p.0, leb-false _ _ p.1)

pub all_apart : (x e : ℕ) (bs : List Entry) → ((k : ℕ) → k < length bs → Apart x e (entry_at bs k)) → apart_all x e bs ≡ true
all_apart x e [] h = refl
all_apart x e (b ∷ bs) h = and_from (apart x e b) (apart_all x e bs) (of_apart x e b (h 0 (omega arith))) (all_apart x e bs (λ k l. h (suc k) (omega arith)))

pub apart_each : (x e : ℕ) (bs : List Entry) → apart_all x e bs ≡ true → (k : ℕ) → k < length bs → Apart x e (entry_at bs k)
apart_each x e [] h k l = absurd (omega arith)
apart_each x e (b ∷ bs) h zero l = apart_of x e b (sym (and_parts (apart x e b) (apart_all x e bs) h).0)
apart_each x e (b ∷ bs) h (suc k) l = apart_each x e bs (and_parts (apart x e b) (apart_all x e bs) h).1 k (omega arith)

pub record Room (bs : List Entry) (low high unit size x : ℕ) : Type 0 where
  pub even : x % unit ≡ 0
  pub above : low ≤ x
  pub under : x + size ≤ high
  pub clear : (k : ℕ) → k < length bs → Apart x (x + size) (entry_at bs k)

pub room_of : (bs : List Entry) (low high unit size x : ℕ) → free_at bs low high unit size x ≡ true → Room bs low high unit size x
room_of bs low high unit size x h =
    let a = and_parts (eqb (x % unit) 0) (leb low x && (leb (x + size) high && apart_all x (x + size) bs)) h in
    let b = and_parts (leb low x) (leb (x + size) high && apart_all x (x + size) bs) a.1 in
    let c = and_parts (leb (x + size) high) (apart_all x (x + size) bs) b.1 in
    record { even = eqb-true _ _ a.0; above = leb-true _ _ b.0; under = leb-true _ _ c.0; clear = apart_each x (x + size) bs c.1 }

pub of_room : (bs : List Entry) (low high unit size x : ℕ) → Room bs low high unit size x → free_at bs low high unit size x ≡ true
of_room bs low high unit size x r =
    and_from (eqb (x % unit) 0) (leb low x && (leb (x + size) high && apart_all x (x + size) bs)) (eq-eqb _ _ r.even)
    (and_from (leb low x) (leb (x + size) high && apart_all x (x + size) bs) (le-leb _ _ r.above)
    (and_from (leb (x + size) high) (apart_all x (x + size) bs) (le-leb _ _ r.under) (all_apart x (x + size) bs r.clear)))

pub multiple_past : (x u : ℕ) → 0 < u → x ≤ (x + (u - 1)) / u * u
multiple_past x u h = omega (arith, div-add-mod' (x + (u - 1)) u, mod_below (x + (u - 1)) u h)

pub multiple_near : (x u : ℕ) → 0 < u → (x + (u - 1)) / u * u < x + u
multiple_near x u h = omega (arith, div-add-mod' (x + (u - 1)) u)

pub multiple_even : (q u : ℕ) → 0 < u → q * u % u ≡ 0
multiple_even q u h = ap (λ n. n % u) (sym (add-zero (q * u))) ∙ mod-mul-add q u 0 h

pub multiple_first : (x u y : ℕ) → 0 < u → y % u ≡ 0 → x ≤ y → (x + (u - 1)) / u * u ≤ y
multiple_first x u y h e l =
    let d = div-add-mod' y u in
    let m : (y / u + 1) * u ≡ y / u * u + u = add-mul (y / u) 1 u ∙ ap (λ n. y / u * u + n) (one-mul u) in
    let b : (x + (u - 1)) / u < y / u + 1 = div_below (x + (u - 1)) u (y / u + 1) h (omega arith) in
    let c = mul-le ((x + (u - 1)) / u) u (y / u) u (omega arith) (omega arith) in
    omega arith

-- past a block that stands in the way, nothing below the next multiple after it has room
pub passed : (bs : List Entry) (low high unit size start next k : ℕ) (b : Entry) → k < length bs → b ≡ entry_at bs k
    → b.start < start + size → ((y : ℕ) → y % unit ≡ 0 → b.end ≤ y → next ≤ y)
    → ((y : ℕ) → y < start → free_at bs low high unit size y ≡ true → ⊥)
    → (y : ℕ) → y < next → free_at bs low high unit size y ≡ true → ⊥
passed bs low high unit size start next k b l is meets first before y h t =
    ⊎_elim (λ (i : y < start). before y i t)
    (λ (i : start ≤ y). let r = room_of bs low high unit size y t in
    ⊎_elim (λ (a : y + size ≤ b.start). absurd (omega arith))
    (λ (a : b.end ≤ y). let f = first y r.even a in absurd (omega arith))
    (subst (Apart y (y + size)) (sym is) (r.clear k l)))
    (cases_lt y start)

-- a scan goes round n places and stands at one: P holds at the last ones that it passed, as many as count says
pub record Round (n : ℕ) (P : ℕ → Type 0) (place count : ℕ) : Type 0 where
  pub inside : (place < n) ⊎ (n ≡ 0)
  pub each : (k : ℕ) → k < n → ((k < place) × (place ≤ k + count)) ⊎ (place + n ≤ k + count) → P k

pub round_none : (n : ℕ) (P : ℕ → Type 0) (place : ℕ) → (place < n) ⊎ (n ≡ 0) → Round n P place 0
round_none n P place h = record { inside = h; each = λ k l b. absurd (omega arith) }

pub round_more : (n : ℕ) (P : ℕ → Type 0) (place count next : ℕ) → ((next < n) × (next ≡ place + 1)) ⊎ ((next ≡ 0) × (n ≡ place + 1))
    → Round n P place count → P place → Round n P next (count + 1)
round_more n P place count next step r here = record {
  inside = inl (omega arith);
  each = λ k l b.
      ⊎_elim (λ (i : k ≡ place). subst P (sym i) here)
      (⊎_elim (λ (i : k < place). r.each k l (inl (i, omega arith))) (λ (i : place < k). r.each k l (inr (omega arith))))
      (cases_order k place);
}

pub round_all : (n : ℕ) (P : ℕ → Type 0) (place count : ℕ) → Round n P place count → n ≤ count → (k : ℕ) → k < n → P k
round_all n P place count r h k l =
    ⊎_elim (λ (i : k < place). r.each k l (inl (i, omega arith))) (λ (i : place ≤ k). r.each k l (inr (omega arith))) (cases_lt k place)
