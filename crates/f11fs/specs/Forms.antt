-- The form of files and the location of their blocks, as the words of a command specify.
use Rattle.std.specs.Prelude.{ℕ, Bool, List, Option, Some, None, if◌then◌else◌}
use Rattle.std.specs.Option.{option_map}
use Rattle.fs_words.specs.declared.actions.PutWords.{PutWords}
use Rattle.ods_upkeep.specs.declared.asked.Placing.{Placing}
use Rattle.ods_upkeep.specs.declared.asked.Placing.TheVariants.{Anywhere, InOnePiece}
use Rattle.ods_upkeep.specs.declared.asked.PutForm.{PutForm}
use Rattle.ods_upkeep.specs.declared.asked.PutForm.TheVariants as form

-- four bytes specify the form, otherwise an option does
abbrev pub form_or : PutWords → Option (List ℕ) → PutForm
form_or how (Some four) = form.Said four
form_or how None = if how.text then form.Text else if how.binary then form.Binary else form.ByContents

-- the given four bytes take precedence
abbrev pub form_said : PutWords → PutForm
form_said how = form_or how how.form

-- where the blocks of new files are allocated: consecutively, or anywhere
abbrev pub placing_for : Bool → Placing
placing_for contiguous = if contiguous then InOnePiece else Anywhere

-- and if it is specified
abbrev pub placing_said : PutWords → Option Placing
placing_said how = option_map placing_for how.contiguous
