use Rattle.std.proofs.Common.{◌≡◌, take}
use Rattle.ods_base.specs.Names.{highest_of, lowest_of}
use Rattle.ods_plain.specs.Lines.{versions_in}
use Rattle.ods_plain.proofs.names.ends.Given as goal

-- the lowest and the highest version in the lines so far
abbrev pub invariant-loop-line : goal.invariant-loop-line
invariant-loop-line l = record {
  lowest : l.lowest ≡ lowest_of (versions_in (take l.line-index l.lines) l.name);
  highest : l.highest ≡ highest_of (versions_in (take l.line-index l.lines) l.name);
}
