use Rattle.std.proofs.Common.{◌∙◌, is_some}
use Rattle.f11fs.proofs.TreeLists.{tree_put}
use Rattle.f11fs.proofs.putting_tree.put_tree.Goals as goal

pub returns-clause-done : goal.returns-clause-done
returns-clause-done g c =
    tree_put (g.R.Host.gives c.args.rt.now) (is_some c.args.words.now.stamp) (is_some c.read_where-zone.result) c.args.how c.args.words.now.paths.items c.as_slice.result.now c.args.stamp c.in_ok-folder.folder.now c.in_ok-folder.to.now c.in-Ok.listed.items c.in_ok-kept.kept.items c.as_slice-entries.result.now c.tree_form-form.result
    c.args.filing.now c.make_ready.new.filing c.tree_root.new.filing c.put_entries.new.filing c.in-Ok-tree_root.dir c.put_entries.result c.in-Ok.ensures.given c.in_ok-kept.ensures.kept c.in_ok-kept.ensures.whole c.as_slice-entries.ensures.value c.in_ok-folder.ensures.ok c.as_slice.ensures.value
    c.make_ready.ensures c.in-Ok-tree_root.ensures.root c.tree_form-form.ensures (c.read_where-zone.ensures ∙ c.takes_times.ensures) c.put_entries.ensures.done
