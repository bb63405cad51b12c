use Rattle.std.proofs.Common.{drop}
use Rattle.ods_space.specs.Chain.{headers_of, named_by, numbers_of}
use Rattle.ods_space.specs.Draft.{applied}
use Rattle.ods_change.proofs.extend_file.grow_file.Given as goal

-- the headers that the file has behind its first, and its blocks
abbrev pub ghost-extend_from : goal.ghost-extend_from
ghost-extend_from a =
    (drop 1 (numbers_of (headers_of (applied a.disk.now.image.now a.draft) a.disk.now.layout.now a.number)), named_by (headers_of (applied a.disk.now.image.now a.draft) a.disk.now.layout.now a.number))
