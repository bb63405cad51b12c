-- What a parse reads of the arguments of the program and of each command.
use Rattle.std.specs.Prelude.{ℕ, Bool, true, false, not, ◌++◌, if◌then◌else◌, List, [], ◌∷◌, codes, drop, map, nat_eq, pos, Option, Some, None, slice_get, unwrap_or}
use Rattle.std.specs.Borrow.{Bor}
use Rattle.std.specs.List.{starts_with}
use Rattle.std.specs.Str.{bytes_eq}
use Rattle.clap.specs.Lexer.{usize_max}
use Rattle.clap.specs.Simple.{App, Shape, new_app, new_rule, new_shape, on_top, with_rule}
use Rattle.clap.specs.Walk.{Rule, is_empty}
use Rattle.clap.specs.declared.builder.action.ArgAction.TheVariants.{SetTrue}
use Rattle.clap.specs.declared.builder.value_parser.ValueParser.TheVariants as vp
use Rattle.fs_words.specs.declared.arguments.Argument.{Argument}
use Rattle.fs_words.specs.declared.arguments.Argument.TheVariants as argument
use Rattle.fs_words.specs.declared.arguments.Row.{Row}
use Rattle.fs_words.specs.declared.options.Choice.{Choice}
use Rattle.fs_words.specs.declared.options.Choice.TheVariants as option
use Rattle.fs_words.specs.declared.verbs.Verb.{Verb}
use Rattle.fs_words.specs.declared.verbs.Verb.TheVariants as verb
use Rattle.fs_words.specs.Names.{verb_text}
use Rattle.fs_words.specs.Options.{has_value, option_serves, option_text, options}

-- the letter of an option, after its hyphen
abbrev pub letter_in : List ℕ → ℕ
letter_in option = unwrap_or (slice_get option 1) 45

-- an option is written with -- and a word, or with - and a letter
abbrev pub spelled_as : List ℕ → Rule → Rule
spelled_as option r = if starts_with nat_eq option (codes "--") then record r { long = Some (drop 2 option) } else record r { short = Some (letter_in option) }

-- an option without a value
abbrev pub as_flag : List ℕ → Rule → Rule
as_flag option r = record (spelled_as option r) { action = Some SetTrue }

-- an option with a text
abbrev pub as_text : List ℕ → Rule → Rule
as_text option r = record (spelled_as option r) { value_names = 1 }

-- an option with a number of 32 bits
abbrev pub as_number : List ℕ → Rule → Rule
as_number option r = record (as_text option r) { parser = Some (vp.Signed (pos 0) (pos 4294967295)) }

-- a required word, and a required number of 64 bits
abbrev pub as_word : Rule → Rule
as_word r = record r { value_names = 1; required = true }

abbrev pub as_large : Rule → Rule
as_large r = record (as_word r) { parser = Some (vp.Unsigned 0 18446744073709551615) }

-- paths, at least this number if there are any; and required paths
abbrev pub as_paths : ℕ → Rule → Rule
as_paths least r = record r { value_names = 1; range = Some (record { start_inclusive = least; end_inclusive = usize_max }) }

abbrev pub as_needed : ℕ → Rule → Rule
as_needed least r = record (as_paths least r) { required = true }

-- the name of an argument in a parse
abbrev pub name_of : Argument → List ℕ
name_of (argument.Flag id help) = id.now
name_of (argument.Text id value help) = id.now
name_of (argument.Number id value help) = id.now
name_of (argument.Word id value help) = id.now
name_of (argument.LargeNumber id value help) = id.now
name_of (argument.Words value help) = codes "path"
name_of (argument.SomeWords value help) = codes "path"
name_of argument.Paths = codes "path"
name_of argument.SomePaths = codes "path"
name_of argument.TwoPaths = codes "path"

-- an argument of its kind
abbrev pub rule_for : Argument → Rule → Rule
rule_for (argument.Flag id help) r = as_flag id.now r
rule_for (argument.Text id value help) r = as_text id.now r
rule_for (argument.Number id value help) r = as_number id.now r
rule_for (argument.Word id value help) r = as_word r
rule_for (argument.LargeNumber id value help) r = as_large r
rule_for (argument.Words value help) r = as_paths 0 r
rule_for (argument.SomeWords value help) r = as_needed 0 r
rule_for argument.Paths r = as_paths 0 r
rule_for argument.SomePaths r = as_needed 0 r
rule_for argument.TwoPaths r = as_needed 2 r

-- the arguments that exclude the one with this name
abbrev pub others : List ℕ → List (Bor (List ℕ) × Bor (List ℕ)) → List (List ℕ)
others id [] = []
others id (p ∷ pairs) = if bytes_eq p.0.now id then p.1.now ∷ others id pairs else others id pairs

-- an argument of a row; is_free states that it excludes no other
abbrev pub rule_in : List (Bor (List ℕ) × Bor (List ℕ)) → Argument → Rule
rule_in pairs a = record (rule_for a (new_rule (name_of a))) { is_free = is_empty (others (name_of a) pairs) }

abbrev pub rules_in : Row → List Rule
rules_in row = map (rule_in row.conflicts.now) row.arguments.now

-- a command with these arguments after the ones that it has
abbrev pub with_rules : List Rule → App → App
with_rules rules a = on_top (λ (s : Shape). record s { rules = s.rules ++ rules }) a

-- arguments of the commands by their names
abbrev pub flag : List ℕ → Rule
flag option = as_flag option (new_rule option)

abbrev pub text : List ℕ → Rule
text option = as_text option (new_rule option)

abbrev pub number : List ℕ → Rule
number option = as_number option (new_rule option)

abbrev pub word : List ℕ → Rule
word name = as_word (new_rule name)

abbrev pub paths : Rule
paths = as_paths 0 (new_rule (codes "path"))

abbrev pub needed : ℕ → Rule
needed least = as_needed least (new_rule (codes "path"))

-- an argument that excludes some other
abbrev pub apart : Rule → Rule
apart r = record r { is_free = false }

-- the options for what is written, -t, -b and --raw; only one of them may be given
abbrev pub forms : List Rule
forms = apart (flag (codes "-t")) ∷ apart (flag (codes "-b")) ∷ flag (codes "--raw") ∷ []

-- the own arguments of each command
unfoldable pub own_rules : Verb → List Rule
own_rules verb.Ls = flag (codes "-l") ∷ flag (codes "-R") ∷ flag (codes "-i") ∷ paths ∷ []
own_rules verb.Find = apart (flag (codes "--lost")) ∷ flag (codes "--deleted") ∷ flag (codes "-l") ∷ apart paths ∷ []
own_rules verb.Stat = needed 0 ∷ []
own_rules verb.Cat = forms ++ needed 0 ∷ []
own_rules verb.Get = forms ++ flag (codes "-p") ∷ flag (codes "-r") ∷ flag (codes "--deleted") ∷ flag (codes "--partial") ∷ needed 0 ∷ []
own_rules verb.Tar = flag (codes "-t") ∷ paths ∷ []
own_rules verb.Df = []
own_rules verb.Info = []
own_rules verb.Du = number (codes "--top") ∷ []
own_rules verb.Check = flag (codes "--all") ∷ []
own_rules verb.Rescue = word (codes "path") ∷ flag (codes "--text") ∷ flag (codes "--scan") ∷ flag (codes "--partial") ∷ []
own_rules verb.Cmp = word (codes "path") ∷ flag (codes "--all") ∷ []
own_rules verb.Cp = text (codes "--from") ∷ flag (codes "-r") ∷ flag (codes "-a") ∷ flag (codes "--next") ∷ apart (flag (codes "--contiguous")) ∷ flag (codes "--no-contiguous") ∷ needed 2 ∷ []
own_rules verb.Mv = needed 2 ∷ []
own_rules verb.Rmdir = needed 0 ∷ []
own_rules verb.Truncate = word (codes "path") ∷ as_large (new_rule (codes "bytes")) ∷ []
own_rules verb.Append = needed 0 ∷ []
own_rules verb.Chmod = word (codes "protection") ∷ needed 0 ∷ []
own_rules verb.Chown = word (codes "owner") ∷ needed 0 ∷ []
own_rules verb.Label = word (codes "label") ∷ []
own_rules verb.Untar = paths ∷ []
own_rules verb.Repair = text (codes "--into") ∷ needed 0 ∷ []
own_rules verb.File = []
own_rules verb.Put = apart (flag (codes "-t")) ∷ flag (codes "-b") ∷ apart (text (codes "--form")) ∷ text (codes "--like") ∷ apart (flag (codes "--contiguous")) ∷ flag (codes "--no-contiguous") ∷ flag (codes "--replace") ∷ text (codes "--owner") ∷ flag (codes "-p") ∷ flag (codes "-r") ∷ flag (codes "--skip") ∷ needed 0 ∷ []
own_rules verb.Rm = flag (codes "--entry") ∷ flag (codes "--newest") ∷ needed 0 ∷ []
own_rules verb.Purge = number (codes "-k") ∷ needed 0 ∷ []
own_rules verb.Mkdir = number (codes "--names") ∷ text (codes "--owner") ∷ needed 0 ∷ []
own_rules verb.Convert = word (codes "path") ∷ text (codes "--to") ∷ flag (codes "--blocks-only") ∷ []
own_rules verb.Init = number (codes "--files") ∷ text (codes "--label") ∷ word (codes "size") ∷ []

-- a command with only its own arguments
unfoldable pub command_app : Verb → App
command_app v = with_rules (own_rules v) (new_app (verb_text v))

-- --blocks takes 1 to 1,048,576
abbrev pub limited : Choice → Rule → Rule
limited option.Blocks r = record r { parser = Some (vp.Signed (pos 1) (pos 1048576)) }
limited c r = r

-- an option with its value, if it has one
abbrev pub valued : Choice → Bool → Rule → Rule
valued c true r = limited c (record r { value_names = 1 })
valued c false r = record r { action = Some SetTrue }

-- an option that may come before IMAGE or after the command
unfoldable pub choice_rule : Choice → Rule
choice_rule c = valued c (has_value c) (spelled_as (option_text c) (new_rule (option_text c)))

-- the help of a command leaves out an option that has no effect for it
abbrev pub hides : Choice → Option Verb → Bool
hides c (Some v) = not (option_serves c v)
hides c None = false

-- a command with its own arguments and all options; its words begin after its name
unfoldable pub whole_app : Verb → App
whole_app v = with_rules (map choice_rule options) (on_top (λ (s : Shape). record s { no_binary_name = true }) (command_app v))

-- IMAGE, -f, and the words from the name of the command on, which are kept together
abbrev pub image_rules : Bool → List Rule
image_rules true = record (new_rule (codes "image")) { value_names = 1 } ∷ []
image_rules false = []

abbrev pub file_rule : Rule
file_rule = record (new_rule (codes "commands")) { short = Some 102; long = Some (codes "commands"); value_names = 1 }

abbrev pub rest_rule : Rule
rest_rule = record (new_rule (codes "rest")) { value_names = 1; range = Some (record { start_inclusive = 0; end_inclusive = usize_max }); trailing_var_arg = true }

-- the program without an argument
abbrev pub bare_app : App
bare_app = record { top = record (new_shape (codes "f11fs")) { no_binary_name = true; has_version = true; disable_help_subcommand = true }; subs = [] }

-- what may come before the command
unfoldable pub front_app : Bool → App
front_app has_image = with_rules (map choice_rule options) (with_rule (with_rules (image_rules has_image) bare_app) file_rule)

-- the same, and the words after it
unfoldable pub program_app : Bool → App
program_app has_image = with_rule (front_app has_image) rest_rule
