use Rattle.std.proofs.Common.{◌∙◌, div-one}
use Rattle.flat.proofs.Words.{copied}
use Rattle.flat.proofs.buffers.put_word.Goals as goal

pub returns : goal.returns
returns c =
    copied c.args.«data».now c.args.i c.args.word c.requires.in_data c.copy_from_slice.new.self
    (c.copy_from_slice.ensures.after ∙ c.to_le_bytes.ensures ∙ simp div-one)
