-- The parts of a volume, and what it keeps in addition to what contracts see: reserved memory for its list.
use Rattle.std.specs.Prelude.{◌≡◌, ℕ, ◌≤◌, List, Option, MatchOption}
use Rattle.ods_base.specs.declared.listed.Listed.{Listed}
use Rattle.ods_request.specs.declared.answers.Answer.{Answer}
use Rattle.ods_request.specs.declared.answers.Answer.TheVariants.{Names}
use Rattle.ods_request.specs.Lines.{HasLines}
use Rattle.ods_state.specs.Version.{State, IsLawful}
use Rattle.ods_volume.specs.declared.volume.Volume.TheInside.{Inside}

-- what contracts see of a volume with these fields
abbrev pub state_of : Inside → State
state_of v = record { mounted = v.mounted; entries = v.entries.items; image = v.sound.image; layout = v.sound.layout; limit = v.limit }

-- a volume is lawful, its limit is 1 to 65,536, and its list has memory for as many entries as the limit
pub record IsKept (v : State) (room : ℕ) : Type 0 where
  pub lawful : IsLawful v
  pub low : 1 ≤ v.limit
  pub high : v.limit ≤ 65536
  pub reserved : v.limit ≤ room

-- the lines of an answer, if it has lines
abbrev pub AreLinesOf : Answer → Option (List Listed) → Type 0
AreLinesOf a lines = MatchOption lines (¬ HasLines a) (λ l. a ≡ Names l)
