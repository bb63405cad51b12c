use Rattle.std.proofs.Common.{arith, ◌∙◌, ◌++◌, ap}
use Rattle.ods_base.specs.Name.{name_text, part_text}
use Rattle.ods_base.proofs.NameTexts.{text_of_parts}
use Rattle.ods_base.proofs.print.print_words.Goals as goal

pub returns : goal.returns
unfolding name_text
returns c =
    text_of_parts _ _ _ _ _ _ _ _ _ c.new-text.ensures
    (c.push_part.ensures ∙ ap (λ cs. c.new-text.result.bytes ++ part_text cs) c.name_codes.ensures) (c.push.ensures.ascii (omega arith))
    (c.push_part-2.ensures ∙ ap (λ cs. c.push.new.self.bytes ++ part_text cs) c.codes_of.ensures) (c.push-2.ensures.ascii (omega arith))
    (c.push_str.ensures.bytes ∙ ap (λ v. c.push-2.new.self.bytes ++ v) c.format.ensures.text)
