-- The table of blocks as a list. Assumes nothing.
use Rattle.std.proofs.Common.{◌≡◌, ℕ, zero, suc, ◌<◌, ◌≤◌, Bool, true, false, cond, eqb, ltb, leb, ◌≢◌, ◌⊎◌, List, [], ◌∷◌, ◌++◌, map, length, set, Some, None, filter, Option, sym, refl, ap, ◌∙◌, subst, inl, inr, ⊎_elim, arith}
use Rattle.std.proofs.lemmas.Bool.{both_ways, and_parts, and_from, or_cases, leb-true, ltb-true, le-leb, lt-ltb, eq-eqb, ne_eqb, cond-true, cond-false}
use Rattle.capability.specs.declared.types.Capability.{Capability}
use Rattle.capability.specs.Formats.{Meaning}
use Rattle.plain.specs.declared.types.State.{State}
use Rattle.plain.specs.declared.types.State.TheVariants.{Freed}
use Rattle.plain.specs.Least.{IsLeast}
use Rattle.plain.specs.Blocks.{Entry, Mem, entry_at, holds, lookup, is_condemned, in_state, apart, apart_all}
use Rattle.plain.specs.Memory.{place_condemned, capability_condemned, word_condemned}
use Rattle.plain.proofs.Leasts.{least_is}

pub mem_map : (f : Entry → Entry) (bs : List Entry) (y : Entry) → Mem y (map f bs) → (x : Entry) × Mem x bs × (y ≡ f x)
mem_map f [] y h = absurd h
mem_map f (b ∷ bs) y (inl e) = (b, inl refl, e)
mem_map f (b ∷ bs) y (inr h) = let r = mem_map f bs y h in (r.0, inr r.1, r.2)

pub map_mem : (f : Entry → Entry) (bs : List Entry) (x : Entry) → Mem x bs → Mem (f x) (map f bs)
map_mem f [] x h = absurd h
map_mem f (b ∷ bs) x (inl e) = inl (ap f e)
map_mem f (b ∷ bs) x (inr h) = inr (map_mem f bs x h)

pub mem_kept : (p : Entry → Bool) (bs : List Entry) (y : Entry) → Mem y (filter p bs) → Mem y bs × (p y ≡ true)
mem_kept p [] y h = absurd h
mem_kept p (b ∷ bs) y h = go (p b) refl (mem_kept p bs y) h
  where
    go : (t : Bool) → p b ≡ t → (Mem y (filter p bs) → Mem y bs × (p y ≡ true)) → Mem y (cond t (b ∷ filter p bs) (filter p bs)) → Mem y (b ∷ bs) × (p y ≡ true)
    go true e rec (inl q) = (inl q, ap p q ∙ e)
    go true e rec (inr k) = let r = rec k in (inr r.0, r.1)
    go false e rec k = let r = rec k in (inr r.0, r.1)

pub kept_mem : (p : Entry → Bool) (bs : List Entry) (y : Entry) → Mem y bs → p y ≡ true → Mem y (filter p bs)
kept_mem p [] y h t = absurd h
kept_mem p (b ∷ bs) y h t = go (p b) refl (λ k. kept_mem p bs y k t) h
  where
    go : (v : Bool) → p b ≡ v → (Mem y bs → Mem y (filter p bs)) → Mem y (b ∷ bs) → Mem y (cond v (b ∷ filter p bs) (filter p bs))
    go true e rec (inl q) = inl q
    go true e rec (inr k) = inr (rec k)
    go false e rec (inl q) = absurd (both_ways (p b) e (ap p (sym q) ∙ t))
    go false e rec (inr k) = rec k

pub mem_push : (bs : List Entry) (v y : Entry) → Mem y (bs ++ v ∷ []) → Mem y bs ⊎ (y ≡ v)
mem_push [] v y (inl e) = inr e
mem_push [] v y (inr h) = absurd h
mem_push (b ∷ bs) v y (inl e) = inl (inl e)
mem_push (b ∷ bs) v y (inr h) = ⊎_elim (λ k. inl (inr k)) inr (mem_push bs v y h)

pub push_mem : (bs : List Entry) (v y : Entry) → Mem y bs ⊎ (y ≡ v) → Mem y (bs ++ v ∷ [])
push_mem [] v y (inl h) = absurd h
push_mem [] v y (inr e) = inl e
push_mem (b ∷ bs) v y (inl (inl e)) = inl e
push_mem (b ∷ bs) v y (inl (inr h)) = inr (push_mem bs v y (inl h))
push_mem (b ∷ bs) v y (inr e) = inr (push_mem bs v y (inr e))

pub index_mem : (bs : List Entry) (i : ℕ) → i < length bs → Mem (entry_at bs i) bs
index_mem [] i l = absurd (omega arith)
index_mem (b ∷ bs) zero l = inl refl
index_mem (b ∷ bs) (suc i) l = inr (index_mem bs i (omega arith))

mem_index : (bs : List Entry) (b : Entry) → Mem b bs → (i : ℕ) × (i < length bs) × (entry_at bs i ≡ b)
mem_index [] b h = absurd h
mem_index (x ∷ xs) b (inl e) = (0, omega arith, sym e)
mem_index (x ∷ xs) b (inr h) = let r = mem_index xs b h in (suc r.0, omega (arith, r.1), r.2)

-- TIDY: blocks have no byte in common, and serials of their own

abbrev pub Spans : Entry → ℕ → Type 0
Spans b x = (b.start ≤ x) × (x < b.end)

abbrev pub Apart : Entry → Entry → Type 0
Apart b c = (b.serial ≢ c.serial) × ((x : ℕ) → Spans b x → Spans c x → ⊥)

abbrev pub Tidy : List Entry → Type 0
Tidy [] = Unit {0}
Tidy (b ∷ bs) = ((c : Entry) → Mem c bs → Apart b c) × Tidy bs

-- blocks that are not apart are the same
one_of : (bs : List Entry) → Tidy bs → (b c : Entry) → Mem b bs → Mem c bs → (Apart b c → ⊥) → (Apart c b → ⊥) → b ≡ c
one_of [] t b c hb hc n k = absurd hb
one_of (x ∷ xs) t b c (inl p) (inl q) n k = p ∙ sym q
one_of (x ∷ xs) t b c (inl p) (inr q) n k = absurd (n (subst (λ (y : Entry). Apart y c) (sym p) (t.0 c q)))
one_of (x ∷ xs) t b c (inr p) (inl q) n k = absurd (k (subst (λ (y : Entry). Apart y b) (sym q) (t.0 b p)))
one_of (x ∷ xs) t b c (inr p) (inr q) n k = one_of xs t.1 b c p q n k

pub same_serial : (bs : List Entry) → Tidy bs → (b c : Entry) → Mem b bs → Mem c bs → b.serial ≡ c.serial → b ≡ c
same_serial bs t b c hb hc e = one_of bs t b c hb hc (λ a. a.0 e) (λ a. a.0 (sym e))

pub same_byte : (bs : List Entry) → Tidy bs → (b c : Entry) → Mem b bs → Mem c bs → (x : ℕ) → Spans b x → Spans c x → b ≡ c
same_byte bs t b c hb hc x p q = one_of bs t b c hb hc (λ a. a.1 x p q) (λ a. a.1 x q p)

-- each block in a new state
abbrev pub restated : (Entry → State) → Entry → Entry
restated g b = in_state b (g b)

pub tidy_map : (g : Entry → State) (bs : List Entry) → Tidy bs → Tidy (map (restated g) bs)
tidy_map g [] t = tt
tidy_map g (b ∷ bs) t = (
  λ c h. let r = mem_map (restated g) bs c h in subst (Apart b) (sym r.2) (t.0 r.0 r.1),
  tidy_map g bs t.1,
)

pub tidy_kept : (p : Entry → Bool) (bs : List Entry) → Tidy bs → Tidy (filter p bs)
tidy_kept p [] t = tt
tidy_kept p (b ∷ bs) t = go (p b) (tidy_kept p bs t.1)
  where
    go : (v : Bool) → Tidy (filter p bs) → Tidy (cond v (b ∷ filter p bs) (filter p bs))
    go true rest = (λ c h. t.0 c (mem_kept p bs c h).0, rest)
    go false rest = rest

pub tidy_push : (bs : List Entry) (v : Entry) → Tidy bs → ((b : Entry) → Mem b bs → Apart b v) → Tidy (bs ++ v ∷ [])
tidy_push [] v t a = (λ c h. absurd h, tt)
tidy_push (b ∷ bs) v t a = (
  λ c h. ⊎_elim (λ k. t.0 c k) (λ (e : c ≡ v). subst (Apart b) (sym e) (a b (inl refl))) (mem_push bs v c h),
  tidy_push bs v t.1 (λ c h. a c (inr h)),
)

-- FREE: the block at a place turns freed, which is to say the block with its serial does

abbrev pub freeing : ℕ → Entry → State
freeing n b = cond (eqb b.serial n) Freed b.state

others_kept : (n : ℕ) (b : Entry) → b.serial ≢ n → restated (freeing n) b ≡ b
others_kept n b ne = ap (in_state b) (cond-false (eqb b.serial n) Freed b.state (ne_eqb _ _ ne))

all_kept : (n : ℕ) (bs : List Entry) → ((b : Entry) → Mem b bs → b.serial ≢ n) → map (restated (freeing n)) bs ≡ bs
all_kept n [] ne = refl
all_kept n (b ∷ bs) ne = let e = others_kept n b (ne b (inl refl)) in let r = all_kept n bs (λ c h. ne c (inr h)) in cc

pub freed_by_serial : (bs : List Entry) (i : ℕ) → Tidy bs → i < length bs
    → set bs i (in_state (entry_at bs i) Freed) ≡ map (restated (freeing (entry_at bs i).serial)) bs
freed_by_serial [] i t l = refl
freed_by_serial (b ∷ bs) zero t l =
    let e : restated (freeing b.serial) b ≡ in_state b Freed = ap (in_state b) (cond-true (eqb b.serial b.serial) Freed b.state (eq-eqb _ _ refl)) in
    let r = all_kept b.serial bs (λ c h q. (t.0 c h).0 (sym q)) in
    cc
freed_by_serial (b ∷ bs) (suc i) t l =
    let k : i < length bs = omega arith in
    let e = others_kept (entry_at bs i).serial b (t.0 (entry_at bs i) (index_mem bs i k)).0 in
    let r = freed_by_serial bs i t.1 k in
    cc

-- LOOKUP

pub looked_up : (bs : List Entry) (c : Capability) (i : ℕ) → lookup bs c ≡ Some i → i < length bs
looked_up bs c i e = (subst (λ (o : Option ℕ). IsLeast (length bs) (λ j. holds (entry_at bs j) c.base) o) e (least_is (length bs) (λ j. holds (entry_at bs j) c.base))).0

holds_true : (b : Entry) (x : ℕ) → Spans b x → holds b x ≡ true
holds_true b x h = and_from _ _ (le-leb _ _ h.0) (lt-ltb _ _ h.1)

holds_so : (b : Entry) (x : ℕ) → holds b x ≡ true → Spans b x
holds_so b x e = let p = and_parts (leb b.start x) (ltb x b.end) e in (leb-true _ _ p.0, ltb-true _ _ p.1)

-- the block that holds a capability's base is the one that is looked up
pub owner_spared : (m : Meaning) (bs : List Entry) → Tidy bs → (b : Entry) → Mem b bs → (w : ℕ) (c : Capability) → m.capability w ≡ Some c → Spans b c.base
    → word_condemned m bs w ≡ false → is_condemned b.state ≡ false
owner_spared m bs t b hb w c reads spans spared =
    go (lookup bs c) (least_is (length bs) (λ i. holds (entry_at bs i) c.base)) (sym (ap (capability_condemned bs) reads) ∙ spared)
  where
    go : (o : Option ℕ) → IsLeast (length bs) (λ i. holds (entry_at bs i) c.base) o → place_condemned bs o ≡ false → is_condemned b.state ≡ false
    go (Some i) l n =
        let e = same_byte bs t b (entry_at bs i) hb (index_mem bs i l.0) c.base spans (holds_so (entry_at bs i) c.base l.1) in
        ap (λ (x : Entry). is_condemned x.state) e ∙ n
    go None l n =
        let r = mem_index bs b hb in
        absurd (l r.0 r.1 (ap (λ (x : Entry). holds x c.base) r.2 ∙ holds_true b c.base spans))

-- ROOM

pub room_apart : (x e : ℕ) (bs : List Entry) (b : Entry) → apart_all x e bs ≡ true → Mem b bs → (e ≤ b.start) ⊎ (b.end ≤ x)
room_apart x e [] b c h = absurd h
room_apart x e (y ∷ ys) b c (inl q) =
    let p = and_parts (apart x e y) (apart_all x e ys) c in
    subst (λ (z : Entry). (e ≤ z.start) ⊎ (z.end ≤ x)) (sym q) (⊎_elim (λ r. inl (leb-true _ _ r)) (λ r. inr (leb-true _ _ r)) (or_cases _ _ p.0))
room_apart x e (y ∷ ys) b c (inr h) = room_apart x e ys b (and_parts (apart x e y) (apart_all x e ys) c).1 h
