-- The files up to this number that are not noted have their texts.
use Rattle.std.proofs.Common.{◌≤◌}
use Rattle.std.specs.String.{string_bytes}
use Rattle.ods_space.specs.Layout.{last_number}
use Rattle.ods_shell.specs.Named.{id_of}
use Rattle.ods_shell.specs.There.{IsUnnoted, unreached_text}
use Rattle.ods_shell.proofs.Unreached.{AreTexts}
use Rattle.ods_shell.proofs.find.unnamed_lines.Given as goal

abbrev pub invariant-loop-before : goal.invariant-loop-before
invariant-loop-before l =
    AreTexts (IsUnnoted l.disk.image.now l.disk.layout.now l.is_named) (λ n. unreached_text l.json l.image (id_of l.disk.image.now l.disk.layout.now n)) l.before (string_bytes l.text)
    × (l.before ≤ last_number l.disk.layout.now)
