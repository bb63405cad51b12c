-- The values that the words of the command line may request.
use Rattle.std.specs.Prelude.{ℕ, ◌≤◌}
use Rattle.ods_cli.specs.declared.runs.Run.{Run}
use Rattle.ods_cli.specs.declared.runs.Run.TheVariants.{SampleHeader, ImageHeader, Input, Scripts}

-- the headers that a run can print: 1 to 16
abbrev pub IsHeaderNumber : ℕ → Type 0
IsHeaderNumber n = (1 ≤ n) × (n ≤ 16)

-- the limits that a run can have: 1 to 65,536 accepted requests
abbrev pub IsLimit : ℕ → Type 0
IsLimit n = (1 ≤ n) × (n ≤ 65536)

-- a run that prints a header has a number that can be printed
abbrev pub AsksForOne : Run → Type 0
AsksForOne (SampleHeader number) = IsHeaderNumber number
AsksForOne (ImageHeader path number) = IsHeaderNumber number
AsksForOne Input = Unit {0}
AsksForOne Scripts = Unit {0}
