use Rattle.std.proofs.Common.{◌≡◌, List, ap, length, subst, sym}
use Rattle.ods_shell.specs.declared.folders.Directory.{Directory}
use Rattle.fs_reads.specs.TreesGot.{IsDepthOf}
use Rattle.fs_reads.proofs.TreeFiles.{depth_one, no_depth}
use Rattle.fs_reads.proofs.getting_tree.depth_of.Goals as goal

pub returns-in-empty-2-clause-ok : goal.returns-in-empty-2-clause-ok
returns-in-empty-2-clause-ok c =
    let starts = c.in_ok-starts.starts in
    (starts.directories.items, (starts.closed.items, c.in_ok-starts.ensures.directories, subst (λ (ds : List Directory). IsDepthOf ds 0) c.as_slice.ensures.value (no_depth c.as_slice.result.now c.in-empty.len_below)))

pub returns-in-len1-clause-ok : goal.returns-in-len1-clause-ok
returns-in-len1-clause-ok c =
    let starts = c.in_ok-starts.starts in (
      starts.directories.items,
      (
        starts.closed.items,
        c.in_ok-starts.ensures.directories,
        subst (λ (ds : List Directory). IsDepthOf ds c.len.result) c.as_slice.ensures.value (depth_one c.as_slice.result.now c.one-item.result _ c.len.result c.in-len1.len_at_least c.in-len1.len_below c.one-item.is c.len.ensures),
      ),
    )
