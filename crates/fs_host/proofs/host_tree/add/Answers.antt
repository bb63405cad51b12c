use Rattle.std.proofs.Common.{refl}
use Rattle.fs_host.proofs.ListedTrees.{entry_pushed}
use Rattle.fs_host.proofs.host_tree.add.Goals as goal

pub returns : goal.returns
returns c =
    entry_pushed c.push.result c.args.path.now c.args.own c.args.kind record {
      path = c.in_ok-path.path;
      own = c.args.own;
      kind = c.args.kind;
    } c.args.listed.now.items c.push.new.list.items c.in_ok-path.ensures.ok refl refl c.push.ensures
