-- What an answer of a store says. Assumes nothing.
use Rattle.std.proofs.Common.{◌≡◌, ℕ, ◌≤◌, Bool, true, false, cond, List, length, Ok, Err, refl}
use Rattle.std.proofs.lemmas.Bool.{ltb-false}
use Rattle.capability.specs.declared.refusal.Refusal.{Refusal}
use Rattle.store.specs.Cells.{Cell, within}

refused : {A : Type 0} (b : Bool) (v : A) (e x : Refusal) → Err x ≡ cond b (Ok v) (Err e) → b ≡ false
refused true v e x p = cc
refused false v e x p = refl

-- a granule that it lacks
pub within_err : {A : Type 0} (cells : List Cell) (i : ℕ) (v : A) (e : Refusal) → Err e ≡ within cells i v → length cells ≤ i
within_err cells i v e p = ltb-false _ _ (refused _ v _ e p)
