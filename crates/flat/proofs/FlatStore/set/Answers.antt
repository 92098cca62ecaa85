use Rattle.std.proofs.Common.{◌≡◌, ℕ, ◌<◌, List, length, refl, ap, ◌∙◌, arith}
use Rattle.std.proofs.lemmas.Bool.{cond_below, cond_above}
use Rattle.flat.specs.Flat.{flat_cells, flat_kept, with_word, with_tag}
use Rattle.flat.proofs.Granules.{has, lacks, flat_set, flat_kept_lem}
use Rattle.flat.proofs.FlatStore.set.Goals as goal

pub put_word-requires : goal.put_word-requires
put_word-requires c =
    let h = has _ _ _ c.in_ok-k.ensures.there.1 in
    record { in_data = omega arith; in_store = omega arith }

pub put_tag-requires : goal.put_tag-requires
put_tag-requires c = let h = has _ _ _ c.in_ok-k.ensures.there.1 in omega arith

pub returns : goal.returns
returns c =
    let bytes : List ℕ = c.args.self.now.«data».now in
    let tags : List ℕ = c.args.self.now.tags.now in
    let i = c.args.i in
    let p = c.in_ok-k.ensures.there in
    let at : i < length (flat_cells bytes tags) = omega (arith, p.0, p.1) in
    let h = has bytes tags i at in
    let word : c.put_word.new.«data» ≡ with_word bytes i c.args.word = c.put_word.ensures ∙ ap (λ j. with_word bytes j c.args.word) p.0 in
    let tag : c.put_tag.new.tags ≡ with_tag tags i c.args.tag = c.put_tag.ensures ∙ ap (λ j. with_tag tags j c.args.tag) p.0 in
    record {
      outcome = cond_below _ _ _ _ at;
      after = ap (λ d. flat_cells d c.put_tag.new.tags) word
          ∙ ap (λ t. flat_cells (with_word bytes i c.args.word) t) tag
          ∙ flat_set bytes tags i c.args.word c.args.tag h (omega arith);
      fixed = refl;
      held = ap (λ d. flat_kept c.args.self.now.«data».ghost_name c.args.self.now.tags.ghost_name d c.put_tag.new.tags) word
          ∙ ap (λ t. flat_kept c.args.self.now.«data».ghost_name c.args.self.now.tags.ghost_name (with_word bytes i c.args.word) t) tag
          ∙ flat_kept_lem _ _ bytes tags i c.args.word c.args.tag h;
      bytes = word ∙ cond_below _ _ _ _ h;
      bits = tag ∙ cond_below _ _ _ _ h;
    }

pub returns-in_err-k-clause-bytes : goal.returns-in_err-k-clause-bytes
returns-in_err-k-clause-bytes c = cond_above _ _ _ _ _ (lacks _ _ _ _ _ c.in_err-k.ensures.is) refl

pub returns-in_err-k-clause-bits : goal.returns-in_err-k-clause-bits
returns-in_err-k-clause-bits c = cond_above _ _ _ _ _ (lacks _ _ _ _ _ c.in_err-k.ensures.is) refl
