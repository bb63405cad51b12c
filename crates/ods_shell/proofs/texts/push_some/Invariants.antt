use Rattle.std.proofs.Common.{◌≡◌, ◌+◌, ◌++◌, map, take, length}
use Rattle.ods_shell.specs.Texts.{shown_byte}
use Rattle.ods_shell.proofs.texts.push_some.Given as goal

abbrev pub invariant-loop-byte : goal.invariant-loop-byte
invariant-loop-byte l = (l.text.bytes ≡ l.initial.text.bytes ++ map shown_byte (take l.byte-index l.bytes)) × (length l.text.bytes ≡ length l.initial.text.bytes + l.byte-index)
