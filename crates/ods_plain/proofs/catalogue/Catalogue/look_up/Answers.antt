use Rattle.std.proofs.Common.{sym, ap, ◌∙◌}
use Rattle.ods_request.specs.Catalogue.{File}
use Rattle.ods_request.specs.Steps.{answer_of}
use Rattle.ods_request.specs.declared.answers.Answer.TheVariants as answer
use Rattle.ods_request.proofs.FaultTable.{fault_look_up}
use Rattle.ods_plain.proofs.Changes.{found_in, is_there}
use Rattle.ods_plain.proofs.catalogue.Catalogue.look_up.Goals as goal

pub there-requires : goal.there-requires
there-requires c = is_there _ _ (sym (fault_look_up c.args.self.now c.requires.who c.args.dir c.args.name.now c.args.pick) ∙ c.requires.allowed)

pub returns : goal.returns
unfolding answer_of
returns c =
    let found = found_in c.args.self.now c.args.dir c.args.name.now c.args.pick _ _ _ (ap (λ (f : File). f.body) c.there.ensures) c.find.ensures.version c.find.ensures.file in
    λ i. answer.Found (found.0 i) (found.1 i)
