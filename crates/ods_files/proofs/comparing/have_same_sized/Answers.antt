use Rattle.std.proofs.Common.{length, sym, ap, ◌∙◌}
use Rattle.ods_files.proofs.FirstBytes.{sized}
use Rattle.ods_files.proofs.comparing.have_same_sized.Goals as goal

pub returns-then-size-other_size : goal.returns-then-size-other_size
returns-then-size-other_size c = λ same.
    c.if-size-other_size.true (
    sym (sized c.args.image.now c.args.lbns.now c.args.size c.len.ensures.image.blocks c.requires.size) ∙ ap (λ l. length l) same
    ∙ sized c.args.other.now c.args.others.now c.args.other_size c.len-2.ensures.image.blocks c.requires.others
    )
