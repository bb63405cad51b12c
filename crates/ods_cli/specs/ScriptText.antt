-- The result of reading a script.
use Rattle.std.specs.Prelude.{◌≡◌, ℕ, ◌<◌, ◌≤◌, ◌^◌, List, length, Option, Result, IfOk, slice_index_or}
use Rattle.std.specs.declared.vec.Vec.{Vec}
use Rattle.std.specs.declared.alloc.Global.{Global}
use Rattle.std.specs.declared.alloc.AllocError.{AllocError}
use Rattle.std.specs.Io.KnownBytes.{IsAtEnd}
use Rattle.ods_ask.specs.declared.script.Command.{Command}
use Rattle.ods_ask.specs.declared.script.Script.{Script}
use Rattle.ods_share.specs.Scripts.{CanBeRun}
use Rattle.ods_script.specs.Numbered.{AreCommandsOf}
use Rattle.ods_cli.specs.declared.script_text.ScriptFault.{ScriptFault}
use Rattle.ods_cli.specs.declared.script_text.ScriptFault.TheVariants as fault

-- the text is all bytes that a reader had, with `rest` left, and they are at most 2^20
pub record IsTextOf (bytes : List ℕ) (rest : Option (List ℕ)) (text : List ℕ) : Type 0 where
  pub all : text ≡ bytes
  pub few : length bytes ≤ 2 ^ 20
  pub at_end : IsAtEnd rest

-- these are the commands of all bytes that a reader had, and the bytes are at most 2^20
pub record IsScriptOf (bytes : List ℕ) (rest : Option (List ℕ)) (commands : List Command) : Type 0 where
  pub few : length bytes ≤ 2 ^ 20
  pub at_end : IsAtEnd rest
  pub commands_are : AreCommandsOf bytes commands

-- script k has the commands of text k
abbrev pub AreScriptsOf : List (Vec ℕ Global) → List Script → Type 0
AreScriptsOf texts scripts =
    (k : ℕ) (t : Vec ℕ Global) (s : Script) → k < length texts → AreCommandsOf (slice_index_or texts k t).items (slice_index_or scripts k s).commands.items

-- result k, if it is a script, has the commands of text k, which can be obeyed
abbrev pub EachParsed : List (Vec ℕ Global) → List (Result Script AllocError) → Type 0
EachParsed texts rs =
    (k : ℕ) (t : Vec ℕ Global) (r : Result Script AllocError) → k < length texts
    → IfOk (slice_index_or rs k r) (λ s. AreCommandsOf (slice_index_or texts k t).items s.commands.items × CanBeRun s.commands.items)

-- why there is no script from a reader of these bytes: a device may fail, and memory run out, at any moment
abbrev pub IsScriptFault : List ℕ → ScriptFault → Type 0
IsScriptFault bytes fault.Read = length bytes ≤ 2 ^ 20
IsScriptFault bytes fault.TooLarge = 2 ^ 20 < length bytes
IsScriptFault bytes fault.NoMemory = Unit {0}
