use Rattle.std.proofs.Common.{◌≡◌, inr, refl, sym, ap, subst, List, [], length, Some, vec_len, arith}
use Rattle.std.proofs.lemmas.Bool.{eqb-true}
use Rattle.std.proofs.lemmas.List.{nil_from_length}
use Rattle.ods_paths.specs.Views.{files as said_files}
use Rattle.ods_walk.specs.declared.tables.Line.{Line}
use Rattle.ods_shell.specs.declared.folders.Directory.{Directory}
use Rattle.ods_shell.specs.declared.found.Found.{Found}
use Rattle.ods_shell.specs.Named.{AreLines, AreWithin}
use Rattle.ods_shell.proofs.Named.{all_within, no_lines, not_empty}
use Rattle.ods_shell.proofs.found.find_names.Goals as goal
use Rattle.ods_shell.proofs.found.find_names.Goals.{In-Ok-files_of, else-is_empty-via-then-is_empty+else-is_empty-2, else-is_empty-via-else-is_empty}

-- what the lines name
those : (c : In-Ok-files_of) → AreLines c.args.disk.now.image.now c.args.disk.now.layout.now c.in-Ok.found.directories.items c.in-Ok.found.lines.items c.in-Ok-files_of.all.items
those c =
    let I = c.args.disk.now.image.now in
    let L = c.args.disk.now.layout.now in
    let directories = c.in-Ok.found.directories.items in
    let lines = c.in-Ok.found.lines.items in
    let all = c.in-Ok-files_of.all.items in
    let are : AreWithin directories lines → AreLines I L directories lines all =
    subst (λ (ds : List Directory). AreWithin ds lines → AreLines I L ds lines all) c.deref.ensures.value
    (subst (λ (ls : List Line). AreWithin c.deref.result.now ls → AreLines I L c.deref.result.now ls all) c.deref-2.ensures.value c.in-Ok-files_of.ensures) in
    are (all_within I L (Some (said_files c.args.files)) c.in-Some.versions directories lines c.in-Ok.ensures.lines)

pub returns-in-Ok-files_of-clause-named : goal.returns-in-Ok-files_of-clause-named
returns-in-Ok-files_of-clause-named c = λ shut counts. (
  c.in-Some.versions,
  sym c.in-Some.ensures,
  (c.in-Ok.found.directories.items, c.in-Ok.ensures.directories shut counts, (c.in-Ok.found.lines.items, c.in-Ok.ensures.lines, those (goal.at.returns-in-Ok-files_of-clause-named c).In-Ok-files_of)),
)

pub returns-in-Ok-files_of-clause-some : goal.returns-in-Ok-files_of-clause-some
returns-in-Ok-files_of-clause-some c = λ none none_closed.
    let here = (goal.at.returns-in-Ok-files_of-clause-some c).In-Ok-files_of in
    let empty : c.in-Ok.found.lines.items ≡ [] =
    no_lines c.args.disk.now.image.now c.args.disk.now.layout.now c.in-Ok.found.directories.items c.in-Ok.found.lines.items
    (subst (λ (all : List Found). AreLines c.args.disk.now.image.now c.args.disk.now.layout.now c.in-Ok.found.directories.items c.in-Ok.found.lines.items all) none (those here)) in
    let no_line = ap length empty in
    let no_closed = ap length none_closed in
    let lines : vec_len c.in-Ok.found.lines ≡ 0 = omega (arith, no_line, c.in-Ok.found.lines.ok.0) in
    let closed : vec_len c.in-Ok.found.closed ≡ 0 = omega (arith, no_closed, c.in-Ok.found.closed.ok.0) in
    elim c.else-is_empty.branch [
      | else-is_empty-via-then-is_empty+else-is_empty-2 w ↦ not_empty w.is_empty-then-is_empty.result (vec_len c.in-Ok.found.closed) w.is_empty-then-is_empty.ensures w.if-is_empty-2.false closed
      | else-is_empty-via-else-is_empty w ↦ not_empty c.is_empty.result (vec_len c.in-Ok.found.lines) c.is_empty.ensures w.if-is_empty.false lines
    ]

pub returns-then-is_empty-2-clause-err : goal.returns-then-is_empty-2-clause-err
returns-then-is_empty-2-clause-err c =
    let directories = c.in-Ok.found.directories.items in
    let lines = c.in-Ok.found.lines.items in
    let no_line : vec_len c.in-Ok.found.lines ≡ 0 = eqb-true (vec_len c.in-Ok.found.lines) 0 (sym c.if-is_empty.ensures) in
    let no_closed : vec_len c.in-Ok.found.closed ≡ 0 = eqb-true (vec_len c.in-Ok.found.closed) 0 (sym c.if-is_empty-2.ensures) in
    let empty : lines ≡ [] = nil_from_length lines (omega (arith, no_line, c.in-Ok.found.lines.ok.0)) in
    let none_closed : c.in-Ok.found.closed.items ≡ [] = nil_from_length c.in-Ok.found.closed.items (omega (arith, no_closed, c.in-Ok.found.closed.ok.0)) in
    let are : AreLines c.args.disk.now.image.now c.args.disk.now.layout.now directories lines [] =
    subst (λ (ls : List Line). AreLines c.args.disk.now.image.now c.args.disk.now.layout.now directories ls []) (sym empty) (refl {A = List Found} {a = []}) in
    (c.in-Some.versions, sym c.in-Some.ensures, (directories, c.in-Ok.ensures.directories [] (inr (none_closed, refl)), (lines, c.in-Ok.ensures.lines, are)))
