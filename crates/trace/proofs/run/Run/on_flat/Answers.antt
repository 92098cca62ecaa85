use Rattle.std.proofs.Common.{◌∙◌}
use Rattle.text.specs.Lines.{coming}
use Rattle.trace.proofs.Sessions.{flat_count, counted}
use Rattle.trace.proofs.run.Run.on_flat.Goals as goal

pub returns : goal.returns
returns g c =
    counted c.over.result g.F.Format.meaning c.args.self.heading.first _ _ _ _ (coming c.args.self.reader)
    (flat_count c.as_mut_slice.result.now c.as_mut_slice-2.result.now c.args.self.heading.granules c.args.self.few
    (c.as_mut_slice.ensures.len ∙ c.in_ok-data.ensures.len)
    (c.as_mut_slice-2.ensures.len ∙ c.in_ok-tags.ensures.len ∙ c.div_ceil.ensures))
    c.over.ensures
