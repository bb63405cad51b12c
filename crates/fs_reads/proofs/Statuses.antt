-- The statuses of paths.
use Rattle.std.proofs.Common.{◌≡◌, inr, sym, subst, Bool, true, false, List, [], ◌∷◌, Option, Some, None, ap}
use Rattle.ods_base.specs.declared.file_id.Uic.{Uic}
use Rattle.ods_shell.specs.Found.{HasPathStatus}
use Rattle.ods_shell.specs.declared.folders.Directory.{Directory as Met}
use Rattle.ods_shell.specs.declared.path_fault.PathFault.{PathFault}
use Rattle.ods_shell.specs.declared.path_fault.PathFault.TheVariants as fault
use Rattle.ods_shell.specs.declared.status.Status.{Status}
use Rattle.ods_shell.specs.declared.status.Status.TheVariants as status
use Rattle.fs_reads.specs.Denied.{IsClosedStatus}
use Rattle.fs_reads.specs.Ends.{EndsCompare, may_name}
use Rattle.fs_reads.specs.Readable.{end_of}

-- the status of closed directories and of a path may come of names
pub closed_may : (user : Option Uic) (met : List Met) (s : Status) → IsClosedStatus user met s → may_name s ≡ true
closed_may None met s e = ap may_name e
closed_may (Some who) [] s e = ap may_name e
closed_may (Some who) (first ∷ others) s e = ap may_name e

pub path_may : (why : PathFault) (s : Status) → HasPathStatus why s → may_name s ≡ true
path_may (fault.Bad bad) s e = ap may_name e
path_may fault.NoName s e = ap may_name e
path_may fault.NoVersion s e = ap may_name e
path_may fault.IsId s e = ap may_name e
path_may fault.Nothing s e = ap may_name e
path_may fault.NoSuchFile s e = ap may_name e
path_may fault.NoMemory s e = ap may_name e

-- a path that names nothing is not done
pub path_fault : (why : PathFault) (s : Status) → HasPathStatus why s → s ≡ status.Done → ⊥
path_fault (fault.Bad bad) s e d = cc
path_fault fault.NoName s e d = cc
path_fault fault.NoVersion s e d = cc
path_fault fault.IsId s e d = cc
path_fault fault.Nothing s e d = cc
path_fault fault.NoSuchFile s e d = cc
path_fault fault.NoMemory s e d = cc

-- a comparison with an image that may be refused ends as one
pub ends_compare : (sound : Bool) (done s : Status) → s ≡ end_of sound done → EndsCompare done → EndsCompare s
ends_compare true done s e ends = subst EndsCompare (sym e) ends
ends_compare false done s e ends = inr (inr (inr e))
