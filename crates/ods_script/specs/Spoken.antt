-- Commands as their lines spell them: a value for each, and no address in memory.
use Rattle.std.specs.Prelude.{ℕ, List, Option}
use Rattle.ods_base.specs.Name.{RadName}
use Rattle.ods_base.specs.declared.file_id.Uic.{Uic}
use Rattle.ods_base.specs.declared.name.Pick.{Pick}
use Rattle.ods_ask.specs.declared.script.Id.{Id}
use Rattle.ods_ask.specs.declared.script.Look.{Look}

-- a command; the block of a WRITE is its 512 bytes
pub data Spoken : Type 0 where
  User : Uic → Spoken
  Create : RadName → ℕ → ℕ → Spoken
  Extend : Id → ℕ → Spoken
  Truncate : Id → ℕ → Spoken
  Delete : Id → Spoken
  Enter : Id → RadName → Option ℕ → Id → Spoken
  LookUp : Id → RadName → Pick → Spoken
  Remove : Id → RadName → Pick → Spoken
  Read : Id → ℕ → Spoken
  Write : Id → ℕ → List ℕ → Spoken
  ListOf : Id → Spoken
  Stat : Id → Spoken
  SetUser : Id → List ℕ → Spoken
  View : Look → Spoken
