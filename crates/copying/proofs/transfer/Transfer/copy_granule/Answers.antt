use Rattle.std.proofs.Common.{rules, ◌≡◌, ℕ, ◌+◌, ◌-◌, ◌*◌, ◌/◌, Bool, true, false, ◌&&◌, set, sym, refl, ap, ◌∙◌, arith}
use Rattle.std.proofs.lemmas.Bool.{false_from_ne_true}
use Rattle.copying.specs.Copy.{source, carried}
use Rattle.copying.proofs.After.{parts, plain, whole_is, whole_arrives}
use Rattle.copying.proofs.transfer.Transfer.copy_granule.Goals as goal
use Rattle.copying.proofs.transfer.Transfer.copy_granule.Goals.{else-tag-via-then-tag+else-test, else-tag-via-else-tag, else-self-start-via-then-self-start+else-start-end, else-self-start-via-else-self-start}

pub returns-then-test-clause-after : goal.returns-then-test-clause-after
returns-then-test-clause-after g c = λ passes computes.
    let s = c.args.self in
    let f = g.S.Store.origin c.args.store.now in
    let xs = g.S.Store.cells c.args.store.now in
    let i = c.args.i in
    let v = c.granule_at-word.result in
    let goes : true ≡ (v.1 && passes v.0) = search rules in
    c.set.ensures.after ∙ ap (set xs i) (whole_arrives passes f xs (8 * f + s.to) (8 * f + s.from) s.size i ((8 * i - s.to + s.from) / 8)
    (omega arith) (omega arith) (omega arith) v true c.granule_at-word.ensures (omega arith) goes)

pub returns-else-tag-clause-after : goal.returns-else-tag-clause-after
returns-else-tag-clause-after g c = λ passes computes.
    let s = c.args.self in
    let f = g.S.Store.origin c.args.store.now in
    let xs = g.S.Store.cells c.args.store.now in
    let i = c.args.i in
    let v = c.granule_at-word.result in
    let goes : false ≡ (v.1 && passes v.0) = elim c.else-tag.branch [
      | else-tag-via-then-tag+else-test w ↦ search rules
      | else-tag-via-else-tag w ↦ search rules
    ] in
    c.set-then-self.ensures.after ∙ ap (set xs i) (whole_arrives passes f xs (8 * f + s.to) (8 * f + s.from) s.size i ((8 * i - s.to + s.from) / 8)
    (omega arith) (omega arith) (omega arith) v false c.granule_at-word.ensures (omega arith) goes)

pub returns-else-self-clause-after : goal.returns-else-self-clause-after
returns-else-self-clause-after g c = λ passes computes.
    let s = c.args.self in
    let f = g.S.Store.origin c.args.store.now in
    let xs = g.S.Store.cells c.args.store.now in
    let i = c.args.i in
    let a = 8 * f + s.to in
    let b = 8 * f + s.from in
    let none : carried passes f xs a b s.size (source a b i) ≡ false = false_from_ne_true _ (λ t.
    let q = parts passes f xs a b s.size (source a b i) t in c.if-self.false (omega arith)) in
    let word = whole_is f xs a b s.size i c.assemble-new.result _ (omega arith) (omega arith) (omega arith) c.assemble-new.ensures in
    c.set-else-self.ensures.after ∙ ap (set xs i) (plain passes f xs a b s.size i _ none word)

pub returns-else-self-start : goal.returns-else-self-start
returns-else-self-start g c =
    let s = c.args.self in
    let f = g.S.Store.origin c.args.store.now in
    let xs = g.S.Store.cells c.args.store.now in
    let i = c.args.i in
    let a = 8 * f + s.to in
    let b = 8 * f + s.from in
    let none : (passes : ℕ → Bool) → carried passes f xs a b s.size (source a b i) ≡ false = λ passes. false_from_ne_true _ (λ t.
    let q = parts passes f xs a b s.size (source a b i) t in
    elim c.else-self-start.branch [
      | else-self-start-via-then-self-start+else-start-end w ↦ omega (arith, w.if-start-end.false)
      | else-self-start-via-else-self-start w ↦ omega (arith, w.if-self-start.false)
    ]) in
    record {
      after = λ passes computes. c.copy_part.ensures.after ∙ ap (set xs i) (plain passes f xs a b s.size i _ (none passes) refl);
      carries = λ passes computes. sym (none passes);
      fixed = c.copy_part.ensures.fixed;
      held = c.copy_part.ensures.held;
    }
