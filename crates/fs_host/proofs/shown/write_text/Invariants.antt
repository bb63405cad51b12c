-- The letters so far are written.
use Rattle.std.proofs.Common.{◌≡◌}
use Rattle.std.specs.Fmt.{HasWritten, IsPlainFormatter}
use Rattle.std.specs.List.{flat_map}
use Rattle.fs_host.specs.Texts.{shown_letter}
use Rattle.fs_host.proofs.shown.write_text.Given as goal

abbrev pub invariant-loop-letter : goal.invariant-loop-letter
invariant-loop-letter g l =
    IsPlainFormatter l.initial.f → HasWritten g.W.Write.write_str_gives l.initial.f (flat_map shown_letter l.yielded) l.f
