use Rattle.std.proofs.Common.{rules, ◌≡◌, ◌+◌, ◌<◌, ◌++◌, [], ◌∷◌, refl, sym, ap, ◌∙◌, subst, take, length, map, List, Some, arith}
use Rattle.std.specs.Prelude.{slice_get}
use Rattle.std.proofs.lemmas.List.{take_more, length-take-le}
use Rattle.std.proofs.lemmas.Option.{get_or_from_slice_get, slice_get_read}
use Rattle.ods_paths.specs.Views.{said_files}
use Rattle.ods_shell.specs.declared.folders.Directory.{Directory}
use Rattle.ods_walk.specs.declared.tables.Line.{Line}
use Rattle.ods_shell.specs.Found.{AreFound, placed}
use Rattle.ods_shell.specs.Ways.{AreMet}
use Rattle.ods_shell.proofs.FoundMore.{found_more}
use Rattle.ods_shell.proofs.finding.find_open.Goals as goal

pub loop-place-preserved : goal.loop-place-preserved
loop-place-preserved c =
    let all = c.in_ok-found.found.items in
    let at = c.loop-place.place in
    let d : Directory = c.index.result.now in
    let within : at < length all = search rules in
    let here : slice_get all at ≡ Some d = slice_get_read all (length all) at d refl within c.index.ensures in
    let took : take (at + 1) all ≡ take at all ++ d ∷ [] = take_more all at d within ∙ ap (λ y. take at all ++ y ∷ []) (get_or_from_slice_get all at d d here) in
    let long : at ≡ length (take at all) = sym (length-take-le at all (omega arith)) in
    let size : at ≡ 0 + length (take at all) = omega arith in
    let added : c.add_lines.new.lines.items ≡ c.loop-place.lines.items ++ map (placed at) c.in_ok-entries.entries.items = c.in_ok-add_lines.ensures ∙ ap (λ e. c.loop-place.lines.items ++ map (placed at) e) c.deref.ensures.value in
    let more = found_more c.args.disk.now.image.now c.args.disk.now.layout.now (said_files c.args.files.now) c.args.unsaid 0 at (take at all) d c.loop-place.lines.items c.in_ok-entries.entries.items size c.loop-place.invariant c.in_ok-entries.ensures in
    subst (λ ds. AreFound c.args.disk.now.image.now c.args.disk.now.layout.now (said_files c.args.files.now) c.args.unsaid 0 ds c.add_lines.new.lines.items) (sym took)
    (subst (λ (ls : List Line). AreFound c.args.disk.now.image.now c.args.disk.now.layout.now (said_files c.args.files.now) c.args.unsaid 0 (take at all ++ d ∷ []) ls) (sym added) more)

pub returns-clause-met : goal.returns-clause-met
returns-clause-met c = subst (λ (ds : List Directory). AreMet c.args.closed.now ds c.directories.new.closed.met.items) c.new.ensures.items c.in_ok-found.ensures.met
