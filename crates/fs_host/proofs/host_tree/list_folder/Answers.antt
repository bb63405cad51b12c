use Rattle.fs_host.proofs.ListedTrees.{folder_listed, folder_unread, name_listed, none_listed}
use Rattle.fs_host.proofs.host_tree.list_folder.Goals as goal

pub loop-name-init : goal.loop-name-init
loop-name-init g c = none_listed c.args.folder.now c.add-2.new.listed.items c.new-below.result.items c.new-below.ensures.items

pub loop-name-preserved : goal.loop-name-preserved
loop-name-preserved g c = name_listed c.args.folder.now c.add-2.new.listed.items c.loop-name.listed.items c.list_name.new.listed.items c.loop-name.below.items c.list_name.new.below.items c.loop-name.invariant c.in_ok-list_name.ensures

pub returns : goal.returns
returns g c = folder_listed c.put_on_top.result c.args.own c.args.folder.now c.in_ok-add.ensures.0 c.args.listed.now.items c.add-2.new.listed.items c.loop-name.listed.items c.loop-name.below.items c.args.pile.now.items c.put_on_top.new.pile.items c.in_ok-add.ensures.1 c.in_ok-add.ensures.2 c.loop-name.invariant c.put_on_top.ensures

pub returns-in-Err : goal.returns-in-Err
returns-in-Err g c = folder_unread c.add.result c.args.own c.args.folder.now c.in-Err.fault c.args.listed.now.items c.add.new.listed.items c.args.pile.now.items c.in-Err.ensures.err c.add.ensures
