-- The contract view of files that are being put.
use Rattle.std.specs.Prelude.{ℕ, Bool, List, Option, Some, None, is_some}
use Rattle.ods_base.specs.declared.file_id.Uic.{Uic}
use Rattle.ods_upkeep.specs.declared.asked.Placing.{Placing}
use Rattle.ods_upkeep.specs.declared.asked.PutForm.{PutForm}
use Rattle.ods_upkeep.specs.declared.target.Target.{Target}
use Rattle.ods_upkeep.specs.Versions.{Noted}

-- the known facts before a file is put
pub record InPut : Type 0 where
  -- the target
  pub target : Target
  -- its date and time of creation
  pub stamp : List ℕ
  -- the form of its bytes, and the attributes of the model file
  pub form : PutForm
  pub like : Option (List ℕ)
  -- whether a file keeps the form of the version before it
  pub keeps : Bool
  -- where its blocks are allocated, if the file that it replaces does not determine it
  pub placing : Option Placing
  -- its owner, if it differs from the requesting user
  pub owner : Option Uic
  -- how often entries name each file, if files are replaced
  pub names : Option (List ℕ)
  -- the highest versions of the target's names, if several files are put and none is replaced
  pub highest : Option Noted

-- the same, with another date and time of creation
abbrev pub at_time : InPut → List ℕ → InPut
at_time p stamp = record p { stamp = stamp }

-- files are replaced
abbrev pub replaces : InPut → Bool
replaces p = is_some p.names

-- the version that is replaced, if files are replaced and a version is given
abbrev pub replaced_version : Option (List ℕ) → Option ℕ → Option ℕ
replaced_version None said = None
replaced_version (Some names) said = said
