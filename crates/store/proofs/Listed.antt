-- Lists of cells that a function says. Assumes nothing.
use Rattle.std.proofs.Common.{◌≡◌, ℕ, ◌<◌, false, ◌≢◌, List, length, get_or, set, sym, ◌∙◌, ⊎_elim, arith}
use Rattle.std.proofs.lemmas.List.{length-set, get_or-set_same, get_or-set_other, ext_get_or}
use Rattle.std.proofs.lemmas.List.FromFn.{get_or-map-range_with_len}
use Rattle.std.proofs.lemmas.Bool.{cases_eq}
use Rattle.store.specs.Cells.{Cell, listed}
pub use Rattle.store.specs.Cells.{length_listed}

pub get_d_listed : (n : ℕ) (f : ℕ → Cell) (i : ℕ) (d : Cell) → i < n → get_or (listed n f) i d ≡ f i
unfolding listed
get_d_listed n f i d h = get_or-map-range_with_len f 0 n i i d h (omega arith)

pub same_listed : (n : ℕ) (xs : List Cell) (f : ℕ → Cell) → length xs ≡ n
    → ((k : ℕ) → k < n → get_or xs k (0, false) ≡ f k) → xs ≡ listed n f
same_listed n xs f e h =
    ext_get_or (0, false) xs (listed n f) (e ∙ sym (length_listed n f))
    (λ k l. let m : k < n = omega arith in h k m ∙ sym (get_d_listed n f k (0, false) m))

pub set_listed : (n : ℕ) (f g : ℕ → Cell) (i : ℕ) (v : Cell) → g i ≡ v → ((k : ℕ) → k < n → k ≢ i → g k ≡ f k)
    → listed n g ≡ set (listed n f) i v
set_listed n f g i v e h =
    sym (same_listed n (set (listed n f) i v) g (length-set (listed n f) i v ∙ length_listed n f)
    (λ k l. ⊎_elim
    (λ q. let m : i < length (listed n f) = omega (arith, length_listed n f) in
    let P : ℕ → Type 0 = λ j. get_or (set (listed n f) i v) j (0, false) ≡ g j in
    mathlib.Core.Path.subst P (sym q) (get_or-set_same (listed n f) i v (0, false) m ∙ sym e))
    (λ q. get_or-set_other (listed n f) i k v (0, false) q ∙ get_d_listed n f k (0, false) l ∙ sym (h k l q))
    (cases_eq k i)))
