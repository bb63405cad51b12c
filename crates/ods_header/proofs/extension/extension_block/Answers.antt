use Rattle.std.proofs.Common.{◌≡◌, ◌+◌, ◌*◌, List, length, sym, ap, subst, refl, ◌∙◌}
use Rattle.std.specs.List.{All}
use Rattle.ods_header.specs.declared.header.Run.{Run}
use Rattle.ods_header.specs.Header.{IsRun, header_of}
use Rattle.ods_header.specs.Extension.{extension_of}
use Rattle.ods_header.specs.Writing.{AreZeros}
use Rattle.ods_header.proofs.Made.{made_from}
use Rattle.ods_header.proofs.extension.extension_block.Goals as goal

fields : (c : goal.After-write_header) → header_of c.write_header.result ≡ extension_of c.args.first.now c.args.file c.args.segment c.args.next c.args.runs.now
fields c =
    let P : List Run → Type 0 = λ rs. All IsRun rs in
    c.write_header.ensures.read_back (record { ident_offset = refl; map_offset = refl; most_words = refl; runs = subst P (sym c.copy_runs-pointers.ensures) c.requires.runs })
    ∙ ap (λ rs. extension_of c.args.first.now c.args.file c.args.segment c.args.next rs) c.copy_runs-pointers.ensures

pub returns-clause-fields : goal.returns-clause-fields
returns-clause-fields c = fields c

pub returns-clause-made : goal.returns-clause-made
returns-clause-made c =
    let zeros : AreZeros c.write_header.result (102 + 4 * length c.args.runs.now) 510 =
    subst (λ rs. AreZeros c.write_header.result (102 + 4 * length rs) 510) c.copy_runs-pointers.ensures c.write_header.ensures.rest in
    λ f e. made_from f c.write_header.result c.args.first.now c.args.file c.args.segment c.args.next c.args.runs.now e (fields c) c.write_header.ensures.valid zeros
