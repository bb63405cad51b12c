use Rattle.std.proofs.Common.{[]}
use Rattle.ods_change.proofs.create_file.new_file.Given as goal

-- a new file has no header behind its first, and no block
abbrev pub ghost-extend_from : goal.ghost-extend_from
ghost-extend_from a = ([], [])
