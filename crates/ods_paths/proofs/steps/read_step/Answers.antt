use Rattle.ods_paths.proofs.Choices.{says_numbers, says_no_group, says_no_member}
use Rattle.ods_paths.proofs.steps.read_step.Goals as goal

pub returns-in_default : goal.returns-in_default
returns-in_default c = says_no_group c.args.text.now c.cut_first.result.0.now c.cut_first.ensures.0 c.in_default.ensures

pub returns-in_default-read_choice : goal.returns-in_default-read_choice
returns-in_default-read_choice c = says_no_member c.args.text.now c.cut_first.result.0.now c.cut_first.result.1.now c.in-Some.group c.cut_first.ensures.0 c.cut_first.ensures.1 c.in-Some.ensures c.in_default-read_choice.ensures

pub returns : goal.returns
returns c =
    says_numbers c.args.text.now c.cut_first.result.0.now c.cut_first.result.1.now c.in-Some.group c.in-Some-read_choice.member c.cut_first.ensures.0 c.cut_first.ensures.1 c.in-Some.ensures c.in-Some-read_choice.ensures
