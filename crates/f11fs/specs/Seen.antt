-- Which commands print as they go on, and which only read a volume.
use Rattle.std.specs.Prelude.{Bool, true, false}
use Rattle.fs_words.specs.declared.actions.Action.{Action}
use Rattle.fs_words.specs.declared.actions.Action.TheVariants as action

-- the names that the command prints are its progress
abbrev pub prints_names : Action → Bool
prints_names (action.Rescue text scan partial) = true
prints_names (action.Ls long ids below) = false
prints_names (action.Find lost deleted long) = false
prints_names action.Stat = false
prints_names (action.Cat wanted) = false
prints_names (action.Get wanted target below deleted partial dated) = false
prints_names (action.Tar text) = false
prints_names action.Df = false
prints_names action.Info = false
prints_names (action.Du top) = false
prints_names (action.Check all) = false
prints_names (action.Cmp all) = false
prints_names (action.Change change) = false
prints_names (action.Repair kinds into) = false
prints_names (action.Init blocks files label order) = false
prints_names (action.Convert order alone) = false
prints_names (action.Commands file keep_going) = false

-- the command reads a volume and leaves it unchanged
abbrev pub only_reads : Action → Bool
only_reads (action.Ls long ids below) = true
only_reads (action.Find lost deleted long) = true
only_reads action.Stat = true
only_reads (action.Cat wanted) = true
only_reads (action.Get wanted target below deleted partial dated) = true
only_reads (action.Tar text) = true
only_reads action.Df = true
only_reads (action.Du top) = true
only_reads (action.Cmp all) = true
only_reads action.Info = false
only_reads (action.Check all) = false
only_reads (action.Rescue text scan partial) = false
only_reads (action.Change change) = false
only_reads (action.Repair kinds into) = false
only_reads (action.Init blocks files label order) = false
only_reads (action.Convert order alone) = false
only_reads (action.Commands file keep_going) = false
