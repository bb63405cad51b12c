-- Which words are refused.
use Rattle.std.specs.Prelude.{◌≡◌, ◌≢◌, ◌⊎◌, ◌<◌, length, ℕ, true, false, List, [], ◌∷◌, codes, Option, Some, None, MatchBool, is_some, unwrap_or}
use Rattle.std.specs.List.{Contains}
use Rattle.std.specs.Borrow.{Bor}
use Rattle.clap.specs.declared.parser.matches.ArgMatches.{ArgMatches}
use Rattle.clap.specs.Faults.{fault_of, is_simple_and_free}
use Rattle.clap.specs.Simple.{App}
use Rattle.clap.specs.Takes.{takes}
use Rattle.ods_base.specs.declared.file_id.Uic.{Uic}
use Rattle.ods_records.specs.Forms.{IsForm}
use Rattle.ods_text.specs.Numbers.{IsNumber, IsLargeNumber}
use Rattle.ods_words.specs.declared.fault.WordsFault.{WordsFault}
use Rattle.ods_words.specs.declared.fault.WordsFault.TheVariants.{NoMemory}
use Rattle.fs_words.specs.declared.options.Choice.{Choice}
use Rattle.fs_words.specs.declared.said.Said.{Said}
use Rattle.fs_words.specs.declared.verbs.Verb.{Verb}
use Rattle.fs_words.specs.declared.verbs.Verb.TheVariants as verb
use Rattle.fs_words.specs.Asked.{IsContiguity, IsSet, IsSize, text_of, texts_of}
use Rattle.fs_words.specs.Found.{IsStamp}
use Rattle.fs_words.specs.Layerings.{IsLayering}
use Rattle.fs_words.specs.Names.{verb_named}
use Rattle.fs_words.specs.Options.{has_value, option_serves, option_text, options, prints_plans}
use Rattle.fs_words.specs.Parses.{IsParseOf}
use Rattle.fs_words.specs.Parts.{words_left}
use Rattle.fs_words.specs.Protections.{IsProtection}
use Rattle.fs_words.specs.RepairWords.{HasUnknown, is_asked_for}
use Rattle.fs_words.specs.Rules.{program_app, whole_app}
use Rattle.fs_words.specs.Saying.{IsFlag, text_said}
use Rattle.fs_words.specs.Users.{IsSaid}
use Rattle.fs_words.specs.Values.{IsValue}

-- a fault other than out of memory has this reason
abbrev pub HasReason : Type 0 → WordsFault → Type 0
HasReason reason fault = fault ≢ NoMemory → reason

-- the text spells no such thing
abbrev pub SpellsNone : {A : Type 0} → (List ℕ → A → Type 0) → List ℕ → Type 0
SpellsNone {A} P text = (x : A) → P text x → ⊥

-- a value is given, and it spells no such thing
abbrev pub IsNoValue : {A : Type 0} → (List ℕ → A → Type 0) → Option (List ℕ) → Type 0
IsNoValue P (Some text) = SpellsNone P text
IsNoValue P None = ⊥

-- the option is given
abbrev pub SaysOption : Said → Choice → Type 0
SaysOption s c = MatchBool (has_value c) (is_some (text_said s (option_text c)) ≡ true) (IsFlag s (option_text c) true)

-- the option is given, and has no effect for the command
abbrev pub IsIdle : Said → Verb → Choice → Type 0
IsIdle s v c = SaysOption s c × (option_serves c v ≡ false)

-- one of these options has no effect
abbrev pub HasIdle : Said → Verb → List Choice → Type 0
HasIdle s v choices = (c : Choice) × Contains choices c × IsIdle s v c

-- JSON of a command that prints only a plan is given without -n
abbrev pub IsJsonAlone : Said → Verb → Type 0
IsJsonAlone s v = IsFlag s (codes "--json") true × IsFlag s (codes "-n") false × (prints_plans v ≡ true)

-- What is wrong with the options that may be given with any command: one has no effect for this command, or has a value that spells nothing.
pub data IsBeside (s : Said) (v : Verb) : Type 0 where
  idle : HasIdle s v options → IsBeside s v
  json_alone : IsJsonAlone s v → IsBeside s v
  no_user : IsNoValue IsSaid (text_said s (codes "-u")) → IsBeside s v
  no_stamp : IsNoValue IsStamp (text_said s (codes "--stamp")) → IsBeside s v
  no_blocks : IsNoValue IsNumber (text_said s (codes "--blocks")) → IsBeside s v
  no_order : IsNoValue IsLayering (text_said s (codes "--order")) → IsBeside s v

-- what has no effect for a put: --skip without -r, or --replace or --like with it
abbrev pub IsIdleForPut : ArgMatches → Type 0
IsIdleForPut m = (IsSet m (codes "--skip") true × IsSet m (codes "-r") false) ⊎ (IsSet m (codes "-r") true × (IsSet m (codes "--replace") true ⊎ (is_some (text_of m (codes "--like")) ≡ true)))

-- What is wrong with the own words of each command, of which a parse found these.
abbrev pub IsUnasked : Verb → ArgMatches → Type 0
IsUnasked verb.Find m = IsSet m (codes "-l") true × IsSet m (codes "--deleted") false
IsUnasked verb.Get m = (IsSet m (codes "--partial") true × IsSet m (codes "-r") true) ⊎ (IsSet m (codes "-r") true × IsSet m (codes "--deleted") true)
IsUnasked verb.Du m = IsNoValue IsNumber (text_of m (codes "--top"))
IsUnasked verb.Put m = IsNoValue IsForm (text_of m (codes "--form")) ⊎ (IsNoValue IsSaid (text_of m (codes "--owner")) ⊎ IsIdleForPut m)
IsUnasked verb.Mkdir m = IsNoValue IsNumber (text_of m (codes "--names")) ⊎ IsNoValue IsSaid (text_of m (codes "--owner"))
IsUnasked verb.Purge m = IsNoValue IsNumber (text_of m (codes "-k")) ⊎ IsValue IsNumber (text_of m (codes "-k")) (Some 0)
IsUnasked verb.Truncate m = (bytes : ℕ) → IsValue IsLargeNumber (text_of m (codes "bytes")) (Some bytes) → ⊥
IsUnasked verb.Append m = length (texts_of m (codes "path")) ≢ 2
IsUnasked verb.Chmod m = (protection : ℕ) → IsValue IsProtection (text_of m (codes "protection")) (Some protection) → ⊥
IsUnasked verb.Chown m = (owner : Uic) → IsValue IsSaid (text_of m (codes "owner")) (Some owner) → ⊥
IsUnasked verb.Label m = text_of m (codes "label") ≡ None
IsUnasked verb.Untar m = 2 < length (texts_of m (codes "path"))
-- an option that has an effect only with another image is given within the volume
IsUnasked verb.Cp m = (text_of m (codes "--from") ≡ None) × (IsSet m (codes "-r") true ⊎ (IsSet m (codes "-a") true ⊎ (IsSet m (codes "--next") true ⊎ IsContiguity m (Some false))))
-- a word names no repair, or a directory is given without lost files
IsUnasked verb.Repair m = HasUnknown (texts_of m (codes "path")) ⊎ ((is_some (text_of m (codes "--into")) ≡ true) × (is_asked_for (codes "lost") (texts_of m (codes "path")) ≡ false))
IsUnasked verb.Init m = SpellsNone IsSize (unwrap_or (text_of m (codes "size")) []) ⊎ IsNoValue IsNumber (text_of m (codes "--files"))
IsUnasked verb.Convert m = IsNoValue IsLayering (text_of m (codes "--to"))
IsUnasked verb.File m = Unit {0}
IsUnasked v m = ⊥

-- Clap refuses the words by these rules: it does not promise to take them, and if no argument excludes another they are at fault.
pub record IsRefusedBy (rules : App) (words : List (List ℕ)) : Type 0 where
  pub untaken : takes rules words ≡ false
  pub faulty : is_simple_and_free rules ≡ true → fault_of rules words ≢ []

-- Why the words of a command are refused: clap refuses the words after its name, or their parse requests nothing, or the options are wrong.
pub data IsNoCommand (v : Verb) (words : List (List ℕ)) (before : Option (Bor ArgMatches)) : Type 0 where
  command_refused : IsRefusedBy (whole_app v) words → IsNoCommand v words before
  unasked : (m : Bor ArgMatches) → IsParseOf (whole_app v) words m.now → IsUnasked v m.now → IsNoCommand v words before
  wrong_beside : (m : Bor ArgMatches) (s : Said) → IsParseOf (whole_app v) words m.now → s.before ≡ before → s.own ≡ Some m → IsBeside s v → IsNoCommand v words before

-- the options before a file of commands are wrong
abbrev pub IsNoFile : Bor ArgMatches → Type 0
IsNoFile before = (s : Said) × (s.before ≡ Some before) × (s.own ≡ None) × IsBeside s verb.File

-- Why the words from the name of a command on are refused: there are none, or no command has the name, or its words are refused.
pub data IsNoName (left : List (List ℕ)) (before : Bor ArgMatches) : Type 0 where
  no_word : left ≡ [] → IsNoName left before
  unknown : (name : List ℕ) (more : List (List ℕ)) → left ≡ name ∷ more → verb_named name ≡ None → IsNoName left before
  wrong_command : (name : List ℕ) (more : List (List ℕ)) (v : Verb) → left ≡ name ∷ more → verb_named name ≡ Some v → IsNoCommand v more (Some before) → IsNoName left before

-- Why a line of a file of commands is refused: clap refuses it, it names a file of commands itself, or it has no valid command.
pub data IsNoLine (words : List (List ℕ)) : Type 0 where
  line_refused : IsRefusedBy (program_app false) words → IsNoLine words
  file_within : (before : Bor ArgMatches) → IsParseOf (program_app false) words before.now → is_some (text_of before.now (codes "commands")) ≡ true → IsNoLine words
  line_without : (before : Bor ArgMatches) → IsParseOf (program_app false) words before.now → IsNoName (words_left words before.now) before → IsNoLine words

-- Why a command line is refused: clap refuses it, it has no IMAGE, it has both a file of commands and a command, or its words are wrong.
pub data AreNoWords (words : List (List ℕ)) : Type 0 where
  words_refused : IsRefusedBy (program_app true) words → AreNoWords words
  no_image : (before : Bor ArgMatches) → IsParseOf (program_app true) words before.now → text_of before.now (codes "image") ≡ None → AreNoWords words
  two_parts : (before : Bor ArgMatches) → IsParseOf (program_app true) words before.now → is_some (text_of before.now (codes "commands")) ≡ true → words_left words before.now ≢ [] → AreNoWords words
  words_without : (before : Bor ArgMatches) → IsParseOf (program_app true) words before.now → text_of before.now (codes "commands") ≡ None → IsNoName (words_left words before.now) before → AreNoWords words
  wrong_beside_file : (before : Bor ArgMatches) → IsParseOf (program_app true) words before.now → is_some (text_of before.now (codes "commands")) ≡ true → IsNoFile before → AreNoWords words
