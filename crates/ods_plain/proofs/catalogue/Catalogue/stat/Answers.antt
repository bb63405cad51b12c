use Rattle.std.proofs.Common.{sym, ap, ◌∙◌}
use Rattle.ods_request.specs.Steps.{answer_of, kind_of}
use Rattle.ods_request.specs.declared.answers.Answer.TheVariants as answer
use Rattle.ods_request.proofs.FaultTable.{fault_stat}
use Rattle.ods_plain.proofs.Changes.{if_ok, is_there}
use Rattle.ods_plain.proofs.catalogue.Catalogue.stat.Goals as goal

pub there-requires : goal.there-requires
there-requires c = is_there _ _ (sym (fault_stat c.args.self.now c.requires.who c.args.file) ∙ c.requires.allowed)

pub returns : goal.returns
unfolding answer_of
returns c =
    let file_is = c.there.ensures in
    if_ok c.stat.result _ _ (λ stat e. ap answer.Info (e ∙ (λ i. record {
      file = c.args.file;
      ident = (file_is i).ident;
      owner = (file_is i).owner;
      protection = (file_is i).protection;
      user_char = (file_is i).user_char;
      system_char = (file_is i).system_char;
      kind = kind_of (file_is i).body;
    }))) c.stat.ensures
