use Rattle.std.proofs.Common.{sym, ◌∙◌, []}
use Rattle.std.proofs.lemmas.Bool.{eqb-true}
use Rattle.ods_paths.specs.Views.{said}
use Rattle.ods_paths.proofs.PathTexts.{in_brackets, not_closed, closed_at_once}
use Rattle.ods_paths.proofs.PartTexts.{in_directory, in_files}
use Rattle.ods_paths.proofs.FolderTexts.{some_length}
use Rattle.ods_paths.proofs.paths.parse_bracketed.Goals as goal

pub returns-in_default : goal.returns-in_default
returns-in_default c = not_closed c.args.rest.now c.in_default.ensures.place

pub returns-then-is_empty : goal.returns-then-is_empty
returns-then-is_empty c = closed_at_once c.args.rest.now c.in-Some.dir.now c.in-Some.ensures.place.1 (eqb-true _ _ (sym c.is_empty.ensures ∙ c.if-is_empty.true))

pub returns-then-names_directory : goal.returns-then-names_directory
returns-then-names_directory c =
    in_brackets said c.args.rest.now c.in-Some.dir.now c.in-Some.last.now c.in-Some.last.now [] c.within.result c.in-Some.ensures.place.0 c.in-Some.ensures.place.1 c.in-Some.ensures.place.2
    (in_directory c.in-Some.last.now c.names_directory.result c.names_directory.ensures c.if-names_directory.true) (some_length _ c.in-Some.dir.now c.is_empty.ensures c.if-is_empty.false) c.within.ensures

pub returns : goal.returns
returns c =
    in_brackets said c.args.rest.now c.in-Some.dir.now c.in-Some.last.now [] c.in-Some.last.now c.within-2.result c.in-Some.ensures.place.0 c.in-Some.ensures.place.1 c.in-Some.ensures.place.2
    (in_files c.in-Some.last.now c.names_directory.result c.names_directory.ensures c.if-names_directory.false) (some_length _ c.in-Some.dir.now c.is_empty.ensures c.if-is_empty.false) c.within-2.ensures
