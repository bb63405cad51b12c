-- The lines so far, without headings or with them, and the blocks of the files that they name.
use Rattle.std.proofs.Common.{◌≡◌, false, true, [], take}
use Rattle.std.specs.String.{string_bytes}
use Rattle.ods_shell.specs.Listed.{AreListed, AreListedUnder}
use Rattle.ods_shell.proofs.ls.ls_lines.Given as goal

abbrev pub invariant-loop-line : goal.invariant-loop-line
invariant-loop-line l =
    (l.columns.headings ≡ false → AreListed l.disk.image.now l.disk.layout.now l.columns (take l.line-index l.line-items) (string_bytes l.text) l.blocks)
    × (l.columns.headings ≡ true → AreListedUnder l.disk.image.now l.disk.layout.now l.columns l.found.directories.items [] 0 (take l.line-index l.line-items) (string_bytes l.text) l.headed l.blocks)
