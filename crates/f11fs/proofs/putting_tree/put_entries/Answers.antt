use Rattle.std.proofs.Common.{is_some, refl, subst, sym}
use Rattle.std.proofs.lemmas.List.{drop_all}
use Rattle.f11fs.specs.TreePut.{AreEntriesPut, IsEntryPut}
use Rattle.f11fs.proofs.TreeLists.{entries_on}
use Rattle.f11fs.proofs.putting_tree.put_entries.Goals as goal

pub loop-entry-init : goal.loop-entry-init
loop-entry-init g c = λ new rest. rest

pub loop-entry-preserved : goal.loop-entry-preserved
loop-entry-preserved g c =
    entries_on (g.R.Host.gives c.args.rt.now) c.args.folder.now (is_some c.args.zone.now) c.args.how.now c.args.dir c.args.entries.now c.loop-entry.entry-index c.entry-item.result c.loop-entry.filing c.put_entry.new.filing (λ new. AreEntriesPut (g.R.Host.gives c.args.rt.now) c.args.folder.now (is_some c.args.zone.now) c.args.how.now c.args.dir c.args.entries.now c.args.filing.now new)
    c.loop-entry-test.true c.loop-entry.invariant (subst (λ e. IsEntryPut (g.R.Host.gives c.args.rt.now) c.args.folder.now (is_some c.args.zone.now) c.args.how.now c.args.dir e c.loop-entry.filing c.put_entry.new.filing) c.entry-item.is c.in_ok-put_entry.ensures.done)

pub returns-clause-done : goal.returns-clause-done
returns-clause-done g c =
    c.loop-entry.invariant c.loop-entry.filing
    (subst (λ l. AreEntriesPut (g.R.Host.gives c.args.rt.now) c.args.folder.now (is_some c.args.zone.now) c.args.how.now c.args.dir l c.loop-entry.filing c.loop-entry.filing) (sym (drop_all c.loop-entry.entry-index _ c.loop-entry-test.false)) refl)
