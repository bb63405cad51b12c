-- Which options serve which commands.
use Rattle.std.specs.Prelude.{ℕ, Bool, true, false, List, [], ◌∷◌, codes}
use Rattle.fs_words.specs.declared.options.Choice.{Choice}
use Rattle.fs_words.specs.declared.options.Choice.TheVariants as option
use Rattle.fs_words.specs.declared.verbs.Verb.{Verb}
use Rattle.fs_words.specs.declared.verbs.Verb.TheVariants as verb

-- the commands that change a volume
abbrev pub verb_changes : Verb → Bool
verb_changes verb.Put = true
verb_changes verb.Cp = true
verb_changes verb.Mv = true
verb_changes verb.Rm = true
verb_changes verb.Purge = true
verb_changes verb.Mkdir = true
verb_changes verb.Rmdir = true
verb_changes verb.Truncate = true
verb_changes verb.Append = true
verb_changes verb.Chmod = true
verb_changes verb.Chown = true
verb_changes verb.Label = true
verb_changes verb.Untar = true
verb_changes verb.Repair = true
verb_changes v = false

-- a file of commands may hold any command that changes a volume
abbrev pub is_run : Verb → Bool
is_run verb.File = true
is_run v = verb_changes v

-- the commands that write files of the host
abbrev pub writes_files : Verb → Bool
writes_files verb.Get = true
writes_files v = is_run v

-- the commands that write anything of the host but their output
abbrev pub writes : Verb → Bool
writes verb.Rescue = true
writes verb.Init = true
writes v = writes_files v

-- the commands that give a new file its time
abbrev pub stamps : Verb → Bool
stamps verb.Put = true
stamps verb.Cp = true
stamps verb.Mkdir = true
stamps verb.Untar = true
stamps verb.Repair = true
stamps verb.Init = true
stamps verb.File = true
stamps v = false

-- the commands that print lines, possibly only the lines of a plan
abbrev pub prints_lines : Verb → Bool
prints_lines verb.Cat = false
prints_lines verb.Tar = false
prints_lines verb.Repair = false
prints_lines verb.Convert = false
prints_lines v = true

-- the commands that check rights, or create something for a user
abbrev pub asks_rights : Verb → Bool
asks_rights verb.Df = false
asks_rights verb.Info = false
asks_rights verb.Du = false
asks_rights verb.Check = false
asks_rights verb.Rescue = false
asks_rights verb.Label = false
asks_rights verb.Repair = false
asks_rights verb.Convert = false
asks_rights v = true

-- the commands that read an existing volume
abbrev pub reads_volume : Verb → Bool
reads_volume verb.Init = false
reads_volume v = true

abbrev pub is_file_of_commands : Verb → Bool
is_file_of_commands verb.File = true
is_file_of_commands v = false

-- Whether an option may have an effect for a command.
abbrev pub option_serves : Choice → Verb → Bool
option_serves option.Out v = writes_files v
option_serves option.Backup v = is_run v
option_serves option.BreakLinks v = is_run v
option_serves option.OnlyTells v = writes v
option_serves option.Force v = writes_files v
option_serves option.Json v = prints_lines v
option_serves option.Stamp v = stamps v
option_serves option.User v = asks_rights v
option_serves option.Quiet v = reads_volume v
option_serves option.KeepGoing v = is_file_of_commands v
option_serves option.Blocks v = reads_volume v
option_serves option.Order v = true

-- the spelling of an option
abbrev pub option_text : Choice → List ℕ
option_text option.Out = codes "-o"
option_text option.Backup = codes "--backup"
option_text option.BreakLinks = codes "--break-links"
option_text option.OnlyTells = codes "-n"
option_text option.Force = codes "--force"
option_text option.Json = codes "--json"
option_text option.Stamp = codes "--stamp"
option_text option.User = codes "-u"
option_text option.Quiet = codes "-q"
option_text option.KeepGoing = codes "--keep-going"
option_text option.Blocks = codes "--blocks"
option_text option.Order = codes "--order"

-- an option that has a value
abbrev pub has_value : Choice → Bool
has_value option.Out = true
has_value option.Stamp = true
has_value option.User = true
has_value option.Blocks = true
has_value option.Order = true
has_value c = false

-- the commands that print JSON only with -n
abbrev pub prints_plans : Verb → Bool
prints_plans verb.Init = true
prints_plans verb.Get = true
prints_plans v = verb_changes v

-- all options, in the order of the help
abbrev pub options : List Choice
options = option.Out ∷ option.Backup ∷ option.BreakLinks ∷ option.OnlyTells ∷ option.Force ∷ option.Json ∷ option.Stamp ∷ option.User ∷ option.Quiet
    ∷ option.KeepGoing ∷ option.Blocks ∷ option.Order ∷ []
