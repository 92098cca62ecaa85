-- The place of the first block that passes a test. Assumes nothing.
use Rattle.std.proofs.Common.{◌≡◌, ℕ, suc, ◌+◌, ◌<◌, Bool, List, [], ◌∷◌, length, refl, ap, ◌∙◌, zero-add, arith}
use Rattle.std.proofs.lemmas.Iterator.Adapters.{position_from-zero}
use Rattle.std.specs.List.{position, position_from}
use Rattle.plain.specs.Blocks.{Entry, entry_at}
use Rattle.plain.specs.Least.{least, first_of}

steps : (p : Entry → Bool) (test : ℕ → Bool) (i : ℕ) (bs : List Entry) → ((k : ℕ) → k < length bs → test (i + k) ≡ p (entry_at bs k))
    → position_from p i bs ≡ first_of (length bs) i test
steps p test i [] h = refl
steps p test i (b ∷ bs) h =
    let here : test i ≡ p b = ap test (let e : i ≡ i + 0 = omega arith in e) ∙ h 0 (omega arith) in
    let more : position_from p (i + 1) bs ≡ first_of (length bs) (suc i) test =
    ap (λ (n : ℕ). position_from p n bs) (let e : i + 1 ≡ suc i = omega arith in e)
    ∙ steps p test (suc i) bs (λ k l. ap test (let e : suc i + k ≡ i + suc k = omega arith in e) ∙ h (suc k) (omega arith)) in
    cc

-- it is the least place whose block passes
pub position_least : (p : Entry → Bool) (bs : List Entry) → position p bs ≡ least (length bs) (λ i. p (entry_at bs i))
unfolding least
position_least p bs = position_from-zero p bs ∙ steps p (λ i. p (entry_at bs i)) 0 bs (λ k l. ap (λ (i : ℕ). p (entry_at bs i)) (zero-add k))
