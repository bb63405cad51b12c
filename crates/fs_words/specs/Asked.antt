-- The request of a command, by the parse of the words after its name.
use Rattle.std.specs.Prelude.{◌≡◌, ◌≢◌, ◌≤◌, ◌⊎◌, ℕ, length, Bool, true, false, List, [], codes, Option, Some, None, MatchOption, option_map, unwrap_or, is_some}
use Rattle.std.specs.Borrow.{Bor}
use Rattle.clap.specs.declared.parser.matches.ArgMatches.{ArgMatches}
use Rattle.clap.specs.Words.{first_value, found_of, matched_of, one_text, raw_values}
use Rattle.ods_base.specs.declared.file_id.Uic.{Uic}
use Rattle.ods_records.specs.Forms.{IsForm}
use Rattle.ods_records.specs.declared.kind.Wanted.{Wanted}
use Rattle.ods_records.specs.declared.kind.Wanted.TheVariants.{ByKind, Text, Binary, Raw}
use Rattle.ods_text.specs.Numbers.{IsNumber, IsLargeNumber}
use Rattle.fs_words.specs.declared.actions.Action.{Action}
use Rattle.fs_words.specs.declared.actions.Action.TheVariants as action
use Rattle.fs_words.specs.declared.actions.Change.TheVariants as change
use Rattle.fs_words.specs.declared.actions.FromWords.{FromWords}
use Rattle.fs_words.specs.declared.actions.PutWords.{PutWords}
use Rattle.fs_words.specs.declared.actions.Repairs.{Repairs}
use Rattle.fs_words.specs.declared.layering.Layering.{Layering}
use Rattle.fs_words.specs.declared.verbs.Verb.{Verb}
use Rattle.fs_words.specs.declared.verbs.Verb.TheVariants as verb
use Rattle.fs_words.specs.Devices.{device_order, device_size}
use Rattle.fs_words.specs.Layerings.{IsLayering}
use Rattle.fs_words.specs.Protections.{IsProtection}
use Rattle.fs_words.specs.RepairWords.{AreKinds}
use Rattle.fs_words.specs.Users.{IsSaid}
use Rattle.fs_words.specs.Values.{IsValue, value_of}

-- an option without a value is set, or is not
pub record IsSet (m : ArgMatches) (option : List ℕ) (set : Bool) : Type 0 where
  pub absent : one_text (found_of m) option ≡ None → set ≡ false
  pub said : one_text (found_of m) option ≡ Some (codes "true") → set ≡ true
  pub unsaid : one_text (found_of m) option ≡ Some (codes "false") → set ≡ false

-- the text of an option
abbrev pub text_of : ArgMatches → List ℕ → Option (List ℕ)
text_of m option = first_value (found_of m) option

-- all texts of an argument
abbrev pub texts_of : ArgMatches → List ℕ → List (List ℕ)
texts_of m id = unwrap_or (option_map raw_values (matched_of (found_of m) id)) []

abbrev pub IsLs : ArgMatches → Action → Type 0
IsLs m a = (long ids below : Bool) × IsSet m (codes "-l") long × IsSet m (codes "-i") ids × IsSet m (codes "-R") below × (a ≡ action.Ls long ids below)

-- -l has no effect by itself
abbrev pub IsFind : ArgMatches → Action → Type 0
IsFind m a = (lost deleted long : Bool) × IsSet m (codes "--lost") lost × IsSet m (codes "--deleted") deleted × IsSet m (codes "-l") long
    × (long ≡ true → deleted ≡ true) × (a ≡ action.Find lost deleted long)

-- the requested form: the first of the three options that is set
abbrev pub IsWanted : ArgMatches → Wanted → Type 0
IsWanted m Text = IsSet m (codes "-t") true
IsWanted m Binary = IsSet m (codes "-t") false × IsSet m (codes "-b") true
IsWanted m Raw = IsSet m (codes "-t") false × IsSet m (codes "-b") false × IsSet m (codes "--raw") true
IsWanted m ByKind = IsSet m (codes "-t") false × IsSet m (codes "-b") false × IsSet m (codes "--raw") false

abbrev pub IsCat : ArgMatches → Action → Type 0
IsCat m a = (wanted : Wanted) × IsWanted m wanted × (a ≡ action.Cat wanted)

-- -r has no effect with --deleted, and --partial none with -r
abbrev pub IsGet : ArgMatches → Option (Bor (List ℕ)) → Action → Type 0
IsGet m out a = (wanted : Wanted) × (below deleted partial dated : Bool) × IsWanted m wanted × IsSet m (codes "-r") below × IsSet m (codes "--deleted") deleted
    × IsSet m (codes "--partial") partial × IsSet m (codes "-p") dated × (partial ≡ true → below ≡ false) × (below ≡ true → deleted ≡ false)
    × (a ≡ action.Get wanted out below deleted partial dated)

abbrev pub IsTar : ArgMatches → Action → Type 0
IsTar m a = (text : Bool) × IsSet m (codes "-t") text × (a ≡ action.Tar text)

abbrev pub IsDu : ArgMatches → Action → Type 0
IsDu m a = (top : Option ℕ) × IsValue IsNumber (text_of m (codes "--top")) top × (a ≡ action.Du top)

abbrev pub IsCheck : ArgMatches → Action → Type 0
IsCheck m a = (all : Bool) × IsSet m (codes "--all") all × (a ≡ action.Check all)

abbrev pub IsRescue : ArgMatches → Action → Type 0
IsRescue m a = (text scan partial : Bool) × IsSet m (codes "--text") text × IsSet m (codes "--scan") scan × IsSet m (codes "--partial") partial × (a ≡ action.Rescue text scan partial)

abbrev pub IsCmp : ArgMatches → Action → Type 0
IsCmp m a = (all : Bool) × IsSet m (codes "--all") all × (a ≡ action.Cmp all)

-- whether new files must be in one piece, by the one of two options that is set
abbrev pub IsContiguity : ArgMatches → Option Bool → Type 0
IsContiguity m (Some true) = IsSet m (codes "--contiguous") true
IsContiguity m (Some false) = IsSet m (codes "--contiguous") false × IsSet m (codes "--no-contiguous") true
IsContiguity m None = IsSet m (codes "--contiguous") false × IsSet m (codes "--no-contiguous") false

pub record IsPutSo (m : ArgMatches) (p : PutWords) : Type 0 where
  pub text : IsSet m (codes "-t") p.text
  pub binary : IsSet m (codes "-b") p.binary
  pub form : IsValue IsForm (text_of m (codes "--form")) p.form
  pub like : value_of p.like ≡ text_of m (codes "--like")
  pub contiguous : IsContiguity m p.contiguous
  pub replace : IsSet m (codes "--replace") p.replace
  pub owner : IsValue IsSaid (text_of m (codes "--owner")) p.owner
  pub below : IsSet m (codes "-r") p.below
  pub skip : IsSet m (codes "--skip") p.skip
  pub dated : IsSet m (codes "-p") p.dated
  -- --skip has no effect without -r, and --replace and --like none with it
  pub skips_below : p.skip ≡ true → p.below ≡ true
  pub anew : p.below ≡ true → (p.replace ≡ false) × (text_of m (codes "--like") ≡ None)

abbrev pub IsPut : ArgMatches → Action → Type 0
IsPut m a = (p : PutWords) × IsPutSo m p × (a ≡ action.Change (change.Put p))

-- an archive and a directory are given at most
abbrev pub IsUntar : ArgMatches → Action → Type 0
IsUntar m a = (length (texts_of m (codes "path")) ≤ 2) × (a ≡ action.Change change.Untar)

pub record IsFromSo (m : ArgMatches) (f : FromWords) : Type 0 where
  pub from : text_of m (codes "--from") ≡ Some f.from.now
  pub below : IsSet m (codes "-r") f.below
  pub owners : IsSet m (codes "-a") f.owners
  pub next : IsSet m (codes "--next") f.next
  pub contiguous : IsContiguity m f.contiguous

-- no other image is given, and no option that has an effect only with one
abbrev pub IsCpWithin : ArgMatches → Action → Type 0
IsCpWithin m a = (contiguous : Option Bool) × (text_of m (codes "--from") ≡ None) × IsSet m (codes "-r") false × IsSet m (codes "-a") false × IsSet m (codes "--next") false
    × IsContiguity m contiguous × (contiguous ≢ Some false) × (a ≡ action.Change (change.Cp (unwrap_or contiguous false)))

abbrev pub IsCp : ArgMatches → Action → Type 0
IsCp m a = IsCpWithin m a ⊎ ((f : FromWords) × IsFromSo m f × (a ≡ action.Change (change.CpFrom f)))

abbrev pub IsRm : ArgMatches → Action → Type 0
IsRm m a = (alone newest : Bool) × IsSet m (codes "--entry") alone × IsSet m (codes "--newest") newest × (a ≡ action.Change (change.Rm alone newest))

-- how many versions are kept: the given number, at least one; otherwise one
abbrev pub IsPurge : ArgMatches → Action → Type 0
IsPurge m a = (keep : Option ℕ) × IsValue IsNumber (text_of m (codes "-k")) keep × (unwrap_or keep 1 ≢ 0) × (a ≡ action.Change (change.Purge (unwrap_or keep 1)))

abbrev pub IsMkdir : ArgMatches → Action → Type 0
IsMkdir m a = (names : Option ℕ) × (owner : Option Uic) × IsValue IsNumber (text_of m (codes "--names")) names × IsValue IsSaid (text_of m (codes "--owner")) owner × (a ≡ action.Change (change.Mkdir names owner))

abbrev pub IsTruncate : ArgMatches → Action → Type 0
IsTruncate m a = (bytes : ℕ) × IsValue IsLargeNumber (text_of m (codes "bytes")) (Some bytes) × (a ≡ action.Change (change.Truncate bytes))

-- a path and a host file are given
abbrev pub IsAppend : ArgMatches → Action → Type 0
IsAppend m a = (length (texts_of m (codes "path")) ≡ 2) × (a ≡ action.Change change.Append)

abbrev pub IsChmod : ArgMatches → Action → Type 0
IsChmod m a = (protection : ℕ) × IsValue IsProtection (text_of m (codes "protection")) (Some protection) × (a ≡ action.Change (change.Chmod protection))

abbrev pub IsChown : ArgMatches → Action → Type 0
IsChown m a = (owner : Uic) × IsValue IsSaid (text_of m (codes "owner")) (Some owner) × (a ≡ action.Change (change.Chown owner))

abbrev pub IsLabel : ArgMatches → Action → Type 0
IsLabel m a = (text : Bor (List ℕ)) × (text_of m (codes "label") ≡ Some text.now) × (a ≡ action.Change (change.Label text))

-- each word names repairs, and these are requested; a directory is given only with lost files
abbrev pub IsRepair : ArgMatches → Action → Type 0
IsRepair m a = (kinds : Repairs) × (into : Option (Bor (List ℕ))) × AreKinds (texts_of m (codes "path")) kinds
    × (value_of into ≡ text_of m (codes "--into")) × (is_some into ≡ true → kinds.lost ≡ true) × (a ≡ action.Repair kinds into)

-- the size of a volume: the size of a device, or the number if no device has that name
abbrev pub IsSize : List ℕ → ℕ → Type 0
IsSize text blocks = MatchOption (device_size text) (IsNumber text blocks) (λ size. blocks ≡ size)

-- the order of the sectors, if one is given, and whether only the blocks of the volume are written
abbrev pub IsConvert : ArgMatches → Action → Type 0
IsConvert m a = (order : Option Layering) × (alone : Bool) × IsValue IsLayering (text_of m (codes "--to")) order × IsSet m (codes "--blocks-only") alone × (a ≡ action.Convert order alone)

abbrev pub IsInit : ArgMatches → Action → Type 0
IsInit m a = (blocks : ℕ) × (files : Option ℕ) × (label : Option (Bor (List ℕ))) × IsSize (unwrap_or (text_of m (codes "size")) []) blocks × IsValue IsNumber (text_of m (codes "--files")) files
    × (value_of label ≡ text_of m (codes "--label")) × (a ≡ action.Init blocks files label (device_order (unwrap_or (text_of m (codes "size")) [])))

-- The request of each command; `out` is the value of -o.
abbrev pub Asks : Verb → ArgMatches → Option (Bor (List ℕ)) → Action → Type 0
Asks verb.Ls m out a = IsLs m a
Asks verb.Find m out a = IsFind m a
Asks verb.Stat m out a = a ≡ action.Stat
Asks verb.Cat m out a = IsCat m a
Asks verb.Get m out a = IsGet m out a
Asks verb.Tar m out a = IsTar m a
Asks verb.Df m out a = a ≡ action.Df
Asks verb.Info m out a = a ≡ action.Info
Asks verb.Du m out a = IsDu m a
Asks verb.Check m out a = IsCheck m a
Asks verb.Rescue m out a = IsRescue m a
Asks verb.Cmp m out a = IsCmp m a
Asks verb.Put m out a = IsPut m a
Asks verb.Untar m out a = IsUntar m a
Asks verb.Cp m out a = IsCp m a
Asks verb.Mv m out a = a ≡ action.Change change.Mv
Asks verb.Rm m out a = IsRm m a
Asks verb.Purge m out a = IsPurge m a
Asks verb.Mkdir m out a = IsMkdir m a
Asks verb.Rmdir m out a = a ≡ action.Change change.Rmdir
Asks verb.Truncate m out a = IsTruncate m a
Asks verb.Append m out a = IsAppend m a
Asks verb.Chmod m out a = IsChmod m a
Asks verb.Chown m out a = IsChown m a
Asks verb.Label m out a = IsLabel m a
Asks verb.Repair m out a = IsRepair m a
Asks verb.Init m out a = IsInit m a
Asks verb.Convert m out a = IsConvert m a
Asks verb.File m out a = ⊥
