use Rattle.std.proofs.Common.{sym, ap, ◌∙◌}
use Rattle.ods_base.specs.Names.{lines_of}
use Rattle.ods_request.specs.Catalogue.{File, names_of}
use Rattle.ods_request.specs.Steps.{answer_of}
use Rattle.ods_request.specs.declared.answers.Answer.TheVariants as answer
use Rattle.ods_request.proofs.FaultTable.{fault_list}
use Rattle.ods_plain.proofs.Changes.{is_there}
use Rattle.ods_plain.proofs.catalogue.Catalogue.list.Goals as goal

pub there-requires : goal.there-requires
there-requires c = is_there _ _ (sym (fault_list c.args.self.now c.requires.who c.args.dir) ∙ c.requires.allowed)

pub returns : goal.returns
unfolding answer_of
returns c = ap answer.Names (c.new.ensures ∙ c.in_ok-lines.ensures ∙ ap (λ (f : File). lines_of (names_of f.body)) c.there.ensures)
