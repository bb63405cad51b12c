use Rattle.std.proofs.Common.{◌∙◌, arith}
use Rattle.ods_paths.specs.Paths.{begins_version}
use Rattle.ods_text.proofs.Firsts.{first_is, back_is}
use Rattle.ods_paths.proofs.VersionTexts.{none_said, some_said, bad_said}
use Rattle.ods_paths.proofs.files.read_versions.Goals as goal

pub returns-then-place-text : goal.returns-then-place-text
returns-then-place-text c = none_said c.args.text.now (first_is begins_version c.args.text.now c.place_of_version-place.result c.place_of_version-place.ensures ∙ c.if-place-text.true)

pub returns-in-Some : goal.returns-in-Some
returns-in-Some c = some_said c.args.text.now _ c.in-Some.versions
    (omega (arith, first_is begins_version c.args.text.now c.place_of_version-place.result c.place_of_version-place.ensures, c.place_of_version-place.ensures.within))
    (back_is begins_version c.args.text.now c.place_of_version-place.result c.place_of_version-place.ensures) c.in-Some.ensures

pub returns-in-None : goal.returns-in-None
returns-in-None c = bad_said c.args.text.now _
    (omega (arith, first_is begins_version c.args.text.now c.place_of_version-place.result c.place_of_version-place.ensures, c.place_of_version-place.ensures.within))
    (back_is begins_version c.args.text.now c.place_of_version-place.result c.place_of_version-place.ensures) c.in-None.ensures
