use Rattle.std.proofs.Common.{ap, Ok, arith, [], ◌∷◌, inr}
use Rattle.std.proofs.lemmas.Slice.Eq.{text_from_reads}
use Rattle.ods_base.specs.declared.name.Pick.TheVariants.{Highest, Lowest}
use Rattle.ods_base.proofs.NameVersions.{same_pick}
use Rattle.ods_base.proofs.parse.parse_version.Goals as goal

pub returns-in-59-clause-only : goal.returns-in-59-clause-only
returns-in-59-clause-only c =
    let spells = text_from_reads c.args.text.now (59 ∷ 45 ∷ 49 ∷ []) (omega arith) (omega arith, (omega arith, (omega arith, tt))) in
    λ pick h. ap Ok (same_pick c.args.text.now Lowest pick spells h)

pub returns-in-empty-2-clause-only : goal.returns-in-empty-2-clause-only
returns-in-empty-2-clause-only c =
    let spells = text_from_reads c.args.text.now (59 ∷ 48 ∷ []) (omega arith) (omega arith, (omega arith, tt)) in
    λ pick h. ap Ok (same_pick c.args.text.now Highest pick (inr spells) h)
