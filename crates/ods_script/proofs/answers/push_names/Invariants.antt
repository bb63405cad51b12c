use Rattle.std.proofs.Common.{◌≡◌, ◌++◌, take}
use Rattle.std.specs.List.{flat_map}
use Rattle.std.specs.String.{string_bytes}
use Rattle.ods_script.specs.Texts.{listed_text}
use Rattle.ods_script.proofs.answers.push_names.Given as goal

abbrev pub invariant-loop-listed : goal.invariant-loop-listed
invariant-loop-listed l = string_bytes l.text ≡ string_bytes l.initial.text ++ flat_map listed_text (take l.listed-index l.names)
