use Rattle.std.proofs.Common.{ap, option_map}
use Rattle.ods_paths.proofs.StepTexts.{first_text, only_text}
use Rattle.ods_paths.proofs.steps.split_text.Goals as goal

pub returns-in-Some-cut_at : goal.returns-in-Some-cut_at
returns-in-Some-cut_at c =
    let cut = c.in-Some-cut_at.ensures.place in
    first_text c.args.steps.now.separator _ _ c.in-Some.text.now c.in-Some-cut_at.front.now c.in-Some-cut_at.back.now (ap (option_map (λ text. text.now)) c.in-Some.is) cut.0 cut.1 cut.2

pub returns-in-None : goal.returns-in-None
returns-in-None c = only_text c.args.steps.now.separator _ _ c.in-Some.text.now (ap (option_map (λ text. text.now)) c.in-Some.is) c.in-None.ensures.place
