use Rattle.ods_paths.proofs.FileTexts.{whole_before, none_behind}
use Rattle.ods_paths.proofs.numbers.cut_first.Goals as goal

pub returns-in-None : goal.returns-in-None
returns-in-None c = (whole_before c.args.byte c.args.text.now c.in-None.ensures.place, none_behind c.args.byte c.args.text.now c.in-None.ensures.place)
