use Rattle.std.proofs.Common.{◌-◌, [], sym, ap, ◌∙◌, unwrap_or}
use Rattle.std.specs.Prelude.{slice_index_or}
use Rattle.std.specs.FinMap as map
use Rattle.ods_request.specs.Catalogue.{File, blocks_of}
use Rattle.ods_request.specs.Faults.{lacks_block}
use Rattle.ods_request.specs.Steps.{answer_of, no_file}
use Rattle.ods_request.specs.declared.answers.Answer.TheVariants as answer
use Rattle.ods_request.proofs.FaultTable.{passed, fault_read}
use Rattle.ods_plain.proofs.Changes.{is_there}
use Rattle.ods_plain.proofs.catalogue.Catalogue.read.Goals as goal

pub there-requires : goal.there-requires
there-requires c = is_there _ _ (sym (fault_read c.args.self.now c.requires.who c.args.file c.args.vbn) ∙ c.requires.allowed)

pub block-requires : goal.block-requires
block-requires c =
    let there = passed (map.get c.args.self.now.files c.args.file) _ (sym (fault_read c.args.self.now c.requires.who c.args.file c.args.vbn) ∙ c.requires.allowed) in
    ap (λ f. lacks_block f c.args.vbn) (c.there.ensures ∙ ap (λ o. unwrap_or o no_file) there.there) ∙ there.none.1.1.1.0

pub returns : goal.returns
unfolding answer_of
returns c = ap answer.Bytes (c.block.ensures ∙ ap (λ (f : File). slice_index_or (blocks_of f.body) (c.args.vbn - 1) []) c.there.ensures)
