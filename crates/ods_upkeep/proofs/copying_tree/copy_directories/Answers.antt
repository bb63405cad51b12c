use Rattle.std.proofs.lemmas.Result.{err_from_is_err_and}
use Rattle.ods_upkeep.proofs.CopiedTrees.{along_all, along_next, along_none, tree_stops_here, tree_stops_on}
use Rattle.ods_upkeep.proofs.copying_tree.copy_directories.Goals as goal

pub loop-directory-init : goal.loop-directory-init
loop-directory-init c = record {
  copies = along_none c.args.other.now.image.now c.args.other.now.layout.now c.args.how.now c.args.stamp c.args.path.now c.args.dir c.args.depth c.args.directories.now c.args.filing.now c.args.due.now.items;
  stops = λ new failure stop. stop;
}

pub loop-directory-preserved : goal.loop-directory-preserved
loop-directory-preserved c =
    let I = c.args.other.now.image.now in
    let L = c.args.other.now.layout.now in
    let so_far = c.loop-directory.invariant in
    let one = c.in_ok-copy_directory.ensures.done in
    let item = c.directory-item in
    record {
      copies = along_next I L c.args.how.now c.args.stamp c.args.path.now c.args.dir c.args.depth c.args.directories.now c.loop-directory.directory-index item.result c.args.filing.now c.loop-directory.filing c.copy_directory.new.filing
          c.args.due.now.items c.loop-directory.due.items c.copy_directory.new.due.items c.loop-directory-test.true item.is so_far.copies one;
      stops = λ new failure stop. so_far.stops new failure
          (tree_stops_on I L c.args.how.now c.args.stamp c.args.path.now c.args.dir c.args.depth c.args.directories.now c.loop-directory.directory-index item.result one.0 c.loop-directory.filing c.copy_directory.new.filing new failure
          c.loop-directory-test.true item.is one.2 stop);
    }

pub returns-clause-done : goal.returns-clause-done
returns-clause-done c =
    along_all c.args.other.now.image.now c.args.other.now.layout.now c.args.how.now c.args.stamp c.args.path.now c.args.dir c.args.depth c.args.directories.now c.loop-directory.directory-index c.args.filing.now c.loop-directory.filing
    c.args.due.now.items c.loop-directory.due.items c.loop-directory-test.false c.loop-directory.invariant.copies

pub returns-in_err-copy_directory-clause-refused : goal.returns-in_err-copy_directory-clause-refused
returns-in_err-copy_directory-clause-refused c =
    let I = c.args.other.now.image.now in
    let L = c.args.other.now.layout.now in
    let item = c.directory-item in
    let p = err_from_is_err_and c.from_residual.result c.from_residual.ensures.1 in
    rw (p.1, p.2)
    (c.loop-directory.invariant.stops c.copy_directory.new.filing _
    (tree_stops_here I L c.args.how.now c.args.stamp c.args.path.now c.args.dir c.args.depth c.args.directories.now _ c.loop-directory.directory-index item.result c.loop-directory.filing c.copy_directory.new.filing
    c.loop-directory-test.true item.is c.in_err-copy_directory.ensures.refused))
