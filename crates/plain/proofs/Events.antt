-- What has happened, one call later. Assumes nothing.
use Rattle.std.proofs.Common.{◌≡◌, ℕ, true, false, List, [], ◌∷◌, Some, Ok, Err, Result, ap, ◌∙◌, inl, inr, arith}
use Rattle.std.proofs.lemmas.Bool.{true≢false, false≢true}
use Rattle.capability.specs.declared.refusal.Refusal.{Refusal}
use Rattle.capability.specs.declared.types.Capability.{Capability}
use Rattle.capability.specs.Formats.{Meaning}
use Rattle.plain.specs.declared.types.Call.{Call}
use Rattle.plain.specs.declared.types.Call.TheVariants.{Allocate, Free, Move, Narrow, Restrict, Load, Store, Fetch, Put, Copy, Open, Advance, Close, Whose, Tally}
use Rattle.plain.specs.declared.types.State.{State}
use Rattle.plain.specs.declared.types.State.TheVariants as state
use Rattle.plain.specs.Blocks.{is_live, is_condemned, opened_state}
use Rattle.plain.specs.Memory.{Plain}
use Rattle.plain.specs.Step.{step}
use Rattle.plain.specs.Guarantee.{Place, Gift, from_block, from_place, nothing, gives, gift, follow, After, after, Accepts, descent, Allocates, Frees, Opens, Closes, Freed, OpenedAfter, ClosedAfter}

-- the calls that blocks come and go by, and all others
abbrev pub code : Call → ℕ
code (Allocate a size) = 0
code (Free a) = 1
code Open = 2
code Close = 3
code (Move a b x) = 4
code (Narrow a b x n) = 4
code (Restrict a b mask) = 4
code (Load a n) = 4
code (Store a n v) = 4
code (Fetch a b) = 4
code (Put a b) = 4
code (Copy a b n) = 4
code (Advance n) = 4
code (Whose a) = 4
code Tally = 4

pub same_answer : (r : Result ℕ Refusal) (a b : ℕ) → r ≡ Ok a → r ≡ Ok b → a ≡ b
same_answer r a b p q = cc

-- what happened and not just now happened before
pub earlier : (P : List Call → Type 0) (E : List Call → Call → Type 0) (c : Call) (h : List Call) → After P E (c ∷ h) → (E h c → ⊥) → After P E h
earlier P E c h (inl e) none = absurd (none e.0)
earlier P E c h (inr t) none = t

module _ (m : Meaning) (s : Plain) where
  opened_freed : (n : ℕ) (h : List Call) → OpenedAfter m s n h → Freed m s n h
  opened_freed n [] d = absurd d
  opened_freed n (c ∷ h) (inl d) = inr d.1
  opened_freed n (c ∷ h) (inr d) = inr (opened_freed n h d)

  pub closed_freed : (n : ℕ) (h : List Call) → ClosedAfter m s n h → Freed m s n h
  closed_freed n [] d = absurd d
  closed_freed n (c ∷ h) (inl d) = inr (opened_freed n h d.1)
  closed_freed n (c ∷ h) (inr d) = inr (closed_freed n h d)

  module _ (h : List Call) (c : Call) where
    pub not_allocates : (code c ≡ 0 → ⊥) → (n : ℕ) (k : Capability) → Allocates m s n k h c → ⊥
    not_allocates ne n k a = ne (ap code a.is)

    pub not_frees : (code c ≡ 1 → ⊥) → (n : ℕ) → Frees m s n h c → ⊥
    not_frees ne n a = ne (ap code a.is)

    pub not_opens : (code c ≡ 2 → ⊥) → Opens m s h c → ⊥
    not_opens ne a = ne (ap code a.is)

    pub not_closes : (code c ≡ 3 → ⊥) → Closes m s h c → ⊥
    not_closes ne a = ne (ap code a.is)

    -- a call by which no block comes or goes
    pub record Quiet : Type 0 where
      pub allocates : (n : ℕ) (k : Capability) → Allocates m s n k h c → ⊥
      pub frees : (n : ℕ) → Frees m s n h c → ⊥
      pub opens : Opens m s h c → ⊥
      pub closes : Closes m s h c → ⊥

    pub quiet_refused : (e : Refusal) → (step m (after m s h) c).answer ≡ Err e → Quiet
    quiet_refused e q = record {
      allocates = λ n k a. let t = a.accepted in cc;
      frees = λ n a. let t = a.accepted in cc;
      opens = λ a. let t = a.accepted in cc;
      closes = λ a. let t = a.accepted in cc;
    }

    pub quiet_code : code c ≡ 4 → Quiet
    quiet_code e = record {
      allocates = not_allocates (λ z. omega arith);
      frees = not_frees (λ z. omega arith);
      opens = not_opens (λ z. omega arith);
      closes = not_closes (λ z. omega arith);
    }

    -- descent, one call later
    given_by : (p : Place) (n : ℕ) (g : Gift) → Accepts m s h c n → gives m (after m s h) c n p ≡ g → descent m s (c ∷ h) p ≡ follow g (descent m s h) p
    given_by p n g acc e =
        ap (λ (r : Result ℕ Refusal). follow (gift m (after m s h) r c p) (descent m s h) p) acc ∙ ap (λ (x : Gift). follow x (descent m s h) p) e

    pub kept : (p : Place) (n : ℕ) → Accepts m s h c n → gives m (after m s h) c n p ≡ nothing → descent m s (c ∷ h) p ≡ descent m s h p
    kept p n acc e = given_by p n nothing acc e

    pub taken : (p q : Place) (n : ℕ) → Accepts m s h c n → gives m (after m s h) c n p ≡ from_place q → descent m s (c ∷ h) p ≡ descent m s h q
    taken p q n acc e = given_by p n (from_place q) acc e

    pub begun : (p : Place) (n : ℕ) → Accepts m s h c n → gives m (after m s h) c n p ≡ from_block n → descent m s (c ∷ h) p ≡ Some n
    begun p n acc e = given_by p n (from_block n) acc e

    pub kept_refused : (p : Place) (e : Refusal) → (step m (after m s h) c).answer ≡ Err e → descent m s (c ∷ h) p ≡ descent m s h p
    kept_refused p e q = ap (λ (r : Result ℕ Refusal). follow (gift m (after m s h) r c p) (descent m s h) p) q

  -- a block's state, and what has happened to it
  abbrev pub Status : List Call → State → ℕ → Type 0
  Status h state.Live n = Freed m s n h → ⊥
  Status h state.Freed n = Freed m s n h × (OpenedAfter m s n h → ⊥)
  Status h state.Condemned n = OpenedAfter m s n h

  pub status_kept : (h : List Call) (c : Call) (st : State) (n : ℕ) → (Frees m s n h c → ⊥) → (Opens m s h c → ⊥) → Status h st n → Status (c ∷ h) st n
  status_kept h c state.Live n f o t = λ r. t (earlier _ _ c h r f)
  status_kept h c state.Freed n f o t = (inr t.0, λ d. t.1 (earlier _ _ c h d o))
  status_kept h c state.Condemned n f o t = inr t

  -- a block that is not condemned
  pub unopened : (h : List Call) (st : State) (n : ℕ) → Status h st n → is_condemned st ≡ false → OpenedAfter m s n h → ⊥
  unopened h state.Live n t e d = t (opened_freed n h d)
  unopened h state.Freed n t e d = t.1 d
  unopened h state.Condemned n t e d = true≢false e

  -- a condemned block
  pub opened_since : (h : List Call) (st : State) (n : ℕ) → Status h st n → is_condemned st ≡ true → OpenedAfter m s n h
  opened_since h state.Live n t e = absurd (false≢true e)
  opened_since h state.Freed n t e = absurd (false≢true e)
  opened_since h state.Condemned n t e = t

  -- a live block is freed
  pub status_freed : (h : List Call) (c : Call) (st : State) (n : ℕ) → Frees m s n h c → (Opens m s h c → ⊥) → is_live st ≡ true → Status h st n → Status (c ∷ h) state.Freed n
  status_freed h c state.Live n f o e t = (inl (f, tt), λ d. t (opened_freed n h (earlier _ _ c h d o)))
  status_freed h c state.Freed n f o e t = absurd (false≢true e)
  status_freed h c state.Condemned n f o e t = absurd (false≢true e)

  -- a sweep opens
  pub status_opened : (h : List Call) (c : Call) (st : State) (n : ℕ) → (Frees m s n h c → ⊥) → Opens m s h c → Status h st n → Status (c ∷ h) (opened_state st) n
  status_opened h c state.Live n f o t = λ r. t (earlier _ _ c h r f)
  status_opened h c state.Freed n f o t = inl (o, t.0)
  status_opened h c state.Condemned n f o t = inr t
