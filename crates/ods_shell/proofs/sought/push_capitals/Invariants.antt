use Rattle.std.proofs.Common.{◌≡◌, ◌++◌, take}
use Rattle.ods_paths.specs.Patterns.{capitals}
use Rattle.ods_shell.proofs.sought.push_capitals.Given as goal

abbrev pub invariant-loop-character : goal.invariant-loop-character
invariant-loop-character l = l.text.items ≡ l.initial.text.items ++ capitals (take l.character-index l.part)
