use Rattle.std.proofs.Common.{◌≡◌, ℕ, ◌+◌, ◌*◌, ◌≤◌, Bool}
use Rattle.stored_bytes.specs.Bytes.{renewed}
use Rattle.copying.specs.Copy.{Computes, arriving}
use Rattle.copying.proofs.Counts.{Counted, carried_nth}
use Rattle.copying.proofs.Turns.{first_copied, last_copied}
use Rattle.copying.proofs.transfer.Transfer.run.Given as goal

abbrev pub invariant-turns : goal.invariant-turns
invariant-turns g l =
    let f = g.S.Store.origin l.initial.store in
    let xs = g.S.Store.cells l.initial.store in
    let a = 8 * f + l.self.to in
    let b = 8 * f + l.self.from in
    record {
      copied : (passes : ℕ → Bool) → Computes (goal.T-post g l.test) passes
          → g.S.Store.cells l.store ≡ renewed (arriving passes f xs a b l.self.size) xs (first_copied l.up l.low l.high l.k) (last_copied l.up l.low l.high l.k);
      counted : (passes : ℕ → Bool) → Computes (goal.T-post g l.test) passes → Counted (carried_nth passes f xs a b l.self.size l.low) l.up l.low l.high l.k l.carried;
      few : l.carried + l.low ≤ l.k;
      fixed : g.S.Store.origin l.store ≡ f;
      held : g.S.Store.kept l.store ≡ g.S.Store.kept l.initial.store;
    }
