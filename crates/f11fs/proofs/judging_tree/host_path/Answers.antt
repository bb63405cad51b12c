use Rattle.std.specs.Prelude.{string_bytes}
use Rattle.f11fs.proofs.TreesKept.{path_of_folder, path_within}
use Rattle.f11fs.proofs.judging_tree.host_path.Goals as goal

pub returns-then-is_empty : goal.returns-then-is_empty
returns-then-is_empty c = path_of_folder c.from_str.result string_bytes c.args.folder.now c.args.path.now c.is_empty.result c.is_empty.ensures c.if-is_empty.true c.from_str.ensures.ok

pub returns : goal.returns
returns c = path_within c.format.result string_bytes c.args.folder.now c.trim_end_matches-front.result.now c.args.path.now c.is_empty.result c.is_empty.ensures c.if-is_empty.false c.trim_end_matches-front.ensures.matches c.format.ensures.ok
