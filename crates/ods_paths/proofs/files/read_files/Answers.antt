use Rattle.ods_paths.specs.Patterns.{IsPattern}
use Rattle.ods_paths.proofs.FileTexts.{name_is, kind_is, fails, along, not_dotted, the_files}
use Rattle.ods_paths.proofs.files.read_files.Goals as goal

pub returns-then-not-is_pattern : goal.returns-then-not-is_pattern
returns-then-not-is_pattern c = along (IsPattern 9) _ _ (name_is c.args.text.now _ _ c.before_version-full.ensures c.split_name.ensures.0) (fails c.is_pattern.ensures c.if-not-is_pattern.true)

pub returns-then-not-is_pattern-2 : goal.returns-then-not-is_pattern-2
returns-then-not-is_pattern-2 c = along (IsPattern 3) _ _ (kind_is c.args.text.now _ _ c.before_version-full.ensures c.split_name.ensures.1) (fails c.is_pattern-2.ensures c.if-not-is_pattern-2.true)

pub returns-then-not-is_dotted : goal.returns-then-not-is_dotted
returns-then-not-is_dotted c = not_dotted c.args.text.now _ c.before_version-full.ensures (fails c.is_dotted.ensures c.if-not-is_dotted.true)

pub returns : goal.returns
returns c = the_files c.args.text.now _ _ _ c.in-Some.versions c.before_version-full.ensures c.split_name.ensures.0 c.split_name.ensures.1 (c.is_pattern.ensures.0 c.if-not-is_pattern.false) (c.is_pattern-2.ensures.0 c.if-not-is_pattern-2.false) (c.is_dotted.ensures.0 c.if-not-is_dotted.false) c.in-Some.ensures.0
