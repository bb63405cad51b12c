use Rattle.fs_reads.proofs.Patterns.{kind_is_wild, name_is_wild}
use Rattle.fs_reads.proofs.tar_folders.is_pattern.Goals as goal

pub returns-then-has_wildcard : goal.returns-then-has_wildcard
returns-then-has_wildcard c = name_is_wild c.args.files.now c.in-Some.files c.has_wildcard.result c.in-Some.is c.has_wildcard.ensures c.if-has_wildcard.true

pub returns-else-has_wildcard : goal.returns-else-has_wildcard
returns-else-has_wildcard c =
    kind_is_wild c.args.files.now c.in-Some.files c.has_wildcard.result c.has_wildcard-else-has_wildcard.result c.in-Some.is c.has_wildcard.ensures c.if-has_wildcard.false c.has_wildcard-else-has_wildcard.ensures
