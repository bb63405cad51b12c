use Rattle.std.proofs.Common.{rules, refl}
use Rattle.std.proofs.lemmas.Result.{err_from_is_err_and}
use Rattle.ods_upkeep.proofs.TreeNaming.{names_all, names_lost, names_on, names_wrong}
use Rattle.ods_upkeep.proofs.WaysMade.{cut_shorter, reached, reaches_on}
use Rattle.ods_upkeep.proofs.tree_names.folder_names.Goals as goal

pub returns-in_err-name-clause-err : goal.returns-in_err-name-clause-err
returns-in_err-name-clause-err c =
    let p = err_from_is_err_and c.from_residual.result c.from_residual.ensures.1 in
    rw (p.1, p.2)
    (names_wrong c.args.path.now c.loop-folder.rest.now c.in-Some.folder.now c.in-Some.behind.now c.loop-folder.names.items _ c.loop-folder.invariant.so c.in-Some.ensures.cut c.in_err-name.ensures)

pub returns-in_err-push-clause-err : goal.returns-in_err-push-clause-err
returns-in_err-push-clause-err c =
    let p = err_from_is_err_and c.from_residual-in_err-push.result c.from_residual-in_err-push.ensures.1 in
    rw (p.1, p.2)
    (names_lost c.args.path.now c.loop-folder.rest.now c.in-Some.folder.now c.in-Some.behind.now c.loop-folder.names.items _ c.loop-folder.invariant.so c.in-Some.ensures.cut refl)

pub loop-folder-smaller : goal.loop-folder-smaller
loop-folder-smaller c = cut_shorter 47 c.loop-folder.rest.now c.in-Some.folder.now c.in-Some.behind.now c.in-Some.ensures.cut

pub loop-folder-preserved : goal.loop-folder-preserved
loop-folder-preserved c = record {
  text = search rules;
  so = names_on c.args.path.now c.loop-folder.rest.now c.in-Some.folder.now c.in-Some.behind.now c.loop-folder.names.items c.push.new.self.items c.in_ok-name.name c.loop-folder.invariant.so c.in-Some.ensures.cut
      c.in_ok-name.ensures c.in_ok-push.ensures.items;
  reaches = reaches_on c.args.path.now c.loop-folder.rest.now c.in-Some.folder.now c.in-Some.behind.now c.loop-folder.invariant.reaches c.in-Some.ensures.cut;
}

pub returns-clause-ok : goal.returns-clause-ok
returns-clause-ok c =
    let path = c.args.path.now in
    let rest = c.loop-folder.rest.now in
    let r = reached path rest c.loop-folder.invariant.reaches c.in_default.ensures.cut in (
      r.0,
      rest,
      r.1,
      names_all path rest c.loop-folder.names.items c.loop-folder.invariant.so c.in_default.ensures.cut r.0 rest r.1,
    )

pub returns-clause-all : goal.returns-clause-all
returns-clause-all c = names_all c.args.path.now c.loop-folder.rest.now c.loop-folder.names.items c.loop-folder.invariant.so c.in_default.ensures.cut
