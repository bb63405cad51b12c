use Rattle.std.proofs.Common.{sym, subst, List}
use Rattle.ods_paths.specs.Views.{folder as said_folder}
use Rattle.ods_shell.specs.declared.folders.Directory.{Directory}
use Rattle.ods_shell.specs.Ways.{AreAllBelow, AreMet, CountAsClosed}
use Rattle.std.proofs.lemmas.Result.{on_ok_weaker}
use Rattle.ods_shell.proofs.BelowClosed.{counts_before, met_then, same_now}
use Rattle.ods_shell.proofs.BelowOpen.{both_ok, meant_alone, meant_below}
use Rattle.ods_shell.proofs.folders.directories.Goals as goal

pub returns-then-folder-clause-found : goal.returns-then-folder-clause-found
returns-then-folder-clause-found c =
    let I = c.args.disk.now.image.now in
    let L = c.args.disk.now.layout.now in
    let closed = c.args.closed.now.numbers.now in
    let mid = c.find_starts.new.closed in
    let new = c.with_all_below.new.closed in
    let starts = c.in_ok-starts.starts.items in
    let same = same_now mid.numbers c.args.closed.now.numbers c.in_ok-starts.ensures.same in
    both_ok c.with_all_below.result _ _ _
    (λ found all met shut counts.
    let more : AreMet closed mid.met.items new.met.items = subst (λ n. AreMet n mid.met.items new.met.items) same met in
    let below : AreAllBelow I L shut starts found.items =
    subst (λ (ds : List Directory). AreAllBelow I L shut ds found.items) c.deref.ensures.value (all shut (subst (λ n. CountAsClosed n new.met.items shut) (sym same) counts)) in
    meant_below I L shut (said_folder c.args.folder.now) starts found.items c.if-folder.true (c.in_ok-starts.ensures.found shut (counts_before closed shut mid.met.items new.met.items more counts)) below)
    c.with_all_below.ensures.found c.with_all_below.ensures.met

pub returns-then-folder-clause-met : goal.returns-then-folder-clause-met
returns-then-folder-clause-met c =
    let closed = c.args.closed.now.numbers.now in
    let mid = c.find_starts.new.closed in
    let new = c.with_all_below.new.closed in
    on_ok_weaker c.with_all_below.result
    (λ met. met_then closed c.args.closed.now.met.items mid.met.items new.met.items c.in_ok-starts.ensures.met
    (subst (λ n. AreMet n mid.met.items new.met.items) (same_now mid.numbers c.args.closed.now.numbers c.in_ok-starts.ensures.same) met))
    c.with_all_below.ensures.met

pub returns-clause-found : goal.returns-clause-found
returns-clause-found c =
    let I = c.args.disk.now.image.now in
    let L = c.args.disk.now.layout.now in
    let closed = c.args.closed.now.numbers.now in
    let mid = c.find_starts.new.closed in
    let new = c.open_ones.new.closed in
    let starts = c.in_ok-starts.starts.items in
    let same = same_now mid.numbers c.args.closed.now.numbers c.in_ok-starts.ensures.same in
    both_ok c.open_ones.result _ _ _
    (λ found all met shut counts.
    let more : AreMet closed mid.met.items new.met.items = subst (λ n. AreMet n mid.met.items new.met.items) same met in
    meant_alone I L shut (said_folder c.args.folder.now) starts found.items c.if-folder.false (c.in_ok-starts.ensures.found shut (counts_before closed shut mid.met.items new.met.items more counts))
    (all shut (subst (λ n. CountAsClosed n new.met.items shut) (sym same) counts)))
    c.open_ones.ensures.found c.open_ones.ensures.met

pub returns-clause-met : goal.returns-clause-met
returns-clause-met c =
    let closed = c.args.closed.now.numbers.now in
    let mid = c.find_starts.new.closed in
    let new = c.open_ones.new.closed in
    on_ok_weaker c.open_ones.result
    (λ met. met_then closed c.args.closed.now.met.items mid.met.items new.met.items c.in_ok-starts.ensures.met
    (subst (λ n. AreMet n mid.met.items new.met.items) (same_now mid.numbers c.args.closed.now.numbers c.in_ok-starts.ensures.same) met))
    c.open_ones.ensures.met
