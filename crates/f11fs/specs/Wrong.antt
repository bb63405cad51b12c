-- The exit status of words that request nothing.
use Rattle.std.specs.Prelude.{◌≡◌, ◌⊎◌}
use Rattle.fs_words.specs.declared.line.LineFault.{LineFault}
use Rattle.fs_words.specs.declared.line.LineFault.TheVariants as line
use Rattle.ods_shell.specs.declared.status.Status.{Status}
use Rattle.ods_shell.specs.declared.status.Status.TheVariants as status
use Rattle.ods_words.specs.declared.fault.WordsFault.{WordsFault}
use Rattle.ods_words.specs.declared.fault.WordsFault.TheVariants as words

-- of a line without words: a quote is not closed, or out of memory
abbrev pub said_of_line : LineFault → Status
said_of_line line.Open = status.Words
said_of_line line.NoMemory = status.Host

-- Of words: help is printed, or the host does not accept it; they are wrong; or out of memory.
abbrev pub IsSaidOf : WordsFault → Status → Type 0
IsSaidOf (words.Help text) s = (s ≡ status.Done) ⊎ (s ≡ status.Host)
IsSaidOf (words.Wrong text) s = s ≡ status.Words
IsSaidOf words.NoMemory s = s ≡ status.Host
