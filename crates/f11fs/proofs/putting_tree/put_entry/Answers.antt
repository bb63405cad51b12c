use Rattle.std.proofs.Common.{is_some}
use Rattle.f11fs.proofs.TreeLists.{file_put}
use Rattle.f11fs.proofs.putting_tree.put_entry.Goals as goal

pub returns-in-File-clause-done : goal.returns-in-File-clause-done
returns-in-File-clause-done g c =
    file_put (g.R.Host.gives c.args.rt.now) c.args.folder.now (is_some c.args.zone.now) c.args.how.now c.args.dir c.args.entry.now c.as_str-in-File.result.now c.args.filing.now c.put_file.new.filing c.put_file.result c.in-File.is c.as_str-in-File.ensures.value c.put_file.ensures.done
