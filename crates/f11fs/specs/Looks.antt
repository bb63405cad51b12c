-- Files of commands that only look at a volume.
use Rattle.std.specs.Prelude.{◌≡◌, ◌||◌, ℕ, Bool, true, false, List}
use Rattle.std.specs.Option.{option_or}
use Rattle.std.specs.Borrow.{Bor}
use Rattle.fs_words.specs.declared.actions.Action.{Action}
use Rattle.fs_words.specs.declared.actions.Action.TheVariants as action
use Rattle.fs_words.specs.declared.words.Words.{Words}
use Rattle.f11fs.specs.Changed.{IsCommandOf}

-- the command requires a mounted volume: it changes it, or counts its free blocks
abbrev pub is_for_mounted : Action → Bool
is_for_mounted (action.Change change) = true
is_for_mounted action.Df = true
is_for_mounted (action.Ls long ids below) = false
is_for_mounted (action.Find lost deleted long) = false
is_for_mounted action.Stat = false
is_for_mounted (action.Cat wanted) = false
is_for_mounted (action.Get wanted target below deleted partial dated) = false
is_for_mounted (action.Tar text) = false
is_for_mounted action.Info = false
is_for_mounted (action.Du top) = false
is_for_mounted (action.Check all) = false
is_for_mounted (action.Rescue text scan partial) = false
is_for_mounted (action.Cmp all) = false
is_for_mounted (action.Repair kinds into) = false
is_for_mounted (action.Init blocks files label order) = false
is_for_mounted (action.Convert order alone) = false
is_for_mounted (action.Commands file keep_going) = false

abbrev pub IsForMounted : Action → Type 0
IsForMounted asked = is_for_mounted asked ≡ true

-- the words of this line request such a command
abbrev pub WantsMounted : Bor (List ℕ) → List ℕ → Type 0
WantsMounted image line = (own : Words) × IsCommandOf image line own × IsForMounted own.action

-- The words of a line. If they name no user, the user of the run applies. Force, JSON and quiet apply if either requests them; `-n` is taken from the
-- run.
pub record IsAsOuter (own outer joined : Words) : Type 0 where
  pub action : joined.action ≡ own.action
  pub paths : joined.paths ≡ own.paths
  pub image : joined.image ≡ own.image
  pub stamp : joined.stamp ≡ own.stamp
  pub user : joined.user ≡ option_or own.user outer.user
  pub force : joined.force ≡ (own.force || outer.force)
  pub json : joined.json ≡ (own.json || outer.json)
  pub quiet : joined.quiet ≡ (own.quiet || outer.quiet)
  pub tells : joined.saving.only_tells ≡ outer.saving.only_tells
