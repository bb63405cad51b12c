-- Why words are refused, carried from a part to the whole.
use Rattle.std.proofs.Common.{◌≡◌, ◌≢◌, ◌-◌, ℕ, Bool, true, false, List, [], ◌∷◌, map, drop, length, slice_get, codes, Option, Some, None, is_some, inl, inr, refl, subst}
use Rattle.std.specs.Prelude.{IfErr, Result, Ok, Err}
use Rattle.std.specs.Borrow.{Bor}
use Rattle.clap.specs.declared.parser.matches.ArgMatches.{ArgMatches}
use Rattle.clap.specs.Faults.{fault_of}
use Rattle.clap.specs.Kinds.{IsAmong}
use Rattle.clap.specs.Simple.{App}
use Rattle.clap.specs.Takes.{takes}
use Rattle.clap.specs.Values.{kind_of}
use Rattle.clap.specs.declared.error.Error.{Error}
use Rattle.clap.specs.declared.error.kind.ErrorKind.{ErrorKind}
use Rattle.clap.specs.declared.error.kind.ErrorKind.TheVariants.{OutOfMemory}
use Rattle.ods_words.specs.Telling.{IsToldOf}
use Rattle.ods_words.specs.declared.fault.WordsFault.{WordsFault}
use Rattle.ods_words.specs.declared.fault.WordsFault.TheVariants.{Help, Wrong, NoMemory}
use Rattle.fs_words.specs.declared.verbs.Verb.{Verb}
use Rattle.fs_words.specs.declared.words.Words.{Words}
use Rattle.fs_words.specs.Asked.{text_of}
use Rattle.fs_words.specs.Names.{verb_named}
use Rattle.fs_words.specs.Parses.{IsKindAt, IsParseOf}
use Rattle.fs_words.specs.Parts.{words_left}
use Rattle.fs_words.specs.Refused.{AreNoWords, HasReason, IsNoCommand, IsNoFile, IsNoLine, IsNoName, IsRefusedBy, SpellsNone, line_without, no_word, two_parts, unknown, words_without, wrong_beside_file, wrong_command}
use Rattle.fs_words.specs.Rules.{program_app}
use Rattle.fs_words.specs.Saying.{rest_among}
use Rattle.fs_words.specs.Values.{IsValue}
use Rattle.fs_words.proofs.LeftWords.{left_first, left_none}

-- a reason of a part is one of the whole
pub reason_of : {A B : Type 0} (fault : WordsFault) → HasReason A fault → (A → B) → HasReason B fault
reason_of fault h f = λ other. f (h other)

-- what fails by a part fails by the whole
pub reasons_of : {A B : Type 0} {X : Type 0} (r : Result X WordsFault) → IfErr r (HasReason A) → (A → B) → IfErr r (HasReason B)
reasons_of (Ok x) h f = tt
reasons_of (Err fault) h f = λ other. f (h other)

-- memory is not wanting where what is said of clap's error says something else
told_other : (k : ErrorKind) (fault : WordsFault) → IsToldOf k fault → fault ≢ NoMemory → k ≢ OutOfMemory
told_other k (Help text) told other = λ (e : k ≡ OutOfMemory). absurd (cc)
told_other k (Wrong line) told other = told.1
told_other k NoMemory told other = absurd (other refl)

not_true : (b : Bool) → (b ≡ true → ⊥) → b ≡ false
not_true true never = absurd (never refl)
not_true false never = refl

none_other : (k : ErrorKind) (kinds : List ErrorKind) → IsAmong k (OutOfMemory ∷ kinds) → k ≢ OutOfMemory → kinds ≢ []
none_other k [] (inl e) other = λ (is : [] ≡ []). other e
none_other k [] (inr e) other = λ (is : [] ≡ []). e
none_other k (x ∷ kinds) among other = λ (is : x ∷ kinds ≡ []). absurd (cc)

-- clap refuses the words
pub clap_refuses : (rules : App) (words : List (List ℕ)) (e : Error) (fault : WordsFault) → IsToldOf (kind_of e) fault → (takes rules words ≡ true → kind_of e ≡ OutOfMemory) → IsKindAt rules words (kind_of e) → HasReason (IsRefusedBy rules words) fault
clap_refuses rules words e fault told passes kinds =
    λ other. record {
      untaken = not_true (takes rules words) (λ t. told_other (kind_of e) fault told other (passes t));
      faulty = λ free. none_other (kind_of e) (fault_of rules words) (kinds free) (told_other (kind_of e) fault told other);
    }

-- a list with a first element is not empty
not_empty : {X : Type 0} (xs : List X) (x : X) (rest : List X) → xs ≡ x ∷ rest → xs ≢ []
not_empty xs x rest e none = cc

-- the text of a word spells no such thing
pub unspelled : {A : Type 0} (P : List ℕ → A → Type 0) (said : Option (List ℕ)) (text : List ℕ) → said ≡ Some text → SpellsNone P text → (x : A) → IsValue P said (Some x) → ⊥
unspelled P said text e none x value = none x (subst (λ (t : Option (List ℕ)). IsValue P t (Some x)) e value)

module _ {A : Type 0} (f : A → List ℕ) where
  -- the first of the words that are left names a command, whose words are refused
  pub name_refused : (words left : List A) (before : Bor ArgMatches) (name : A) (v : Verb) → left ≡ drop (length words - length (rest_among before.now)) words → slice_get left 0 ≡ Some name → verb_named (f name) ≡ Some v
      → IsNoCommand v (map f (drop 1 left)) (Some before) → IsNoName (words_left (map f words) before.now) before
  name_refused words left before name v is at named refused = wrong_command (f name) (map f (drop 1 left)) v (left_first f words left before.now name is at) named refused

  -- it names no command
  pub name_unknown : (words left : List A) (before : Bor ArgMatches) (name : A) → left ≡ drop (length words - length (rest_among before.now)) words → slice_get left 0 ≡ Some name → verb_named (f name) ≡ None
      → IsNoName (words_left (map f words) before.now) before
  name_unknown words left before name is at named = unknown (f name) (map f (drop 1 left)) (left_first f words left before.now name is at) named

  -- there is none
  pub name_wanting : (words left : List A) (before : Bor ArgMatches) → left ≡ drop (length words - length (rest_among before.now)) words → slice_get left 0 ≡ None → IsNoName (words_left (map f words) before.now) before
  name_wanting words left before is at = no_word (left_none f words left before.now is at)

  -- there is one beside a file of commands
  pub both_parts : (words left : List A) (before : Bor ArgMatches) (name : A) → left ≡ drop (length words - length (rest_among before.now)) words → slice_get left 0 ≡ Some name → IsParseOf (program_app true) (map f words) before.now
      → is_some (text_of before.now (codes "commands")) ≡ true → AreNoWords (map f words)
  both_parts words left before name is at parse filed = two_parts before parse filed (not_empty (words_left (map f words) before.now) (f name) (map f (drop 1 left)) (left_first f words left before.now name is at))

  -- a command line whose command is refused
  pub words_refused_by : (words left : List A) (before : Bor ArgMatches) (name : A) (v : Verb) (r : Result Words WordsFault) → left ≡ drop (length words - length (rest_among before.now)) words → slice_get left 0 ≡ Some name → verb_named (f name) ≡ Some v
      → IsParseOf (program_app true) (map f words) before.now → text_of before.now (codes "commands") ≡ None
      → IfErr r (HasReason (IsNoCommand v (map f (drop 1 left)) (Some before))) → IfErr r (HasReason (AreNoWords (map f words)))
  words_refused_by words left before name v r is at named parse none refused =
      reasons_of r refused (λ why. words_without before parse none (name_refused words left before name v is at named why))

  -- a line whose command is refused
  pub line_refused_by : (words left : List A) (before : Bor ArgMatches) (name : A) (v : Verb) (fault : WordsFault) → left ≡ drop (length words - length (rest_among before.now)) words → slice_get left 0 ≡ Some name → verb_named (f name) ≡ Some v
      → IsParseOf (program_app false) (map f words) before.now
      → HasReason (IsNoCommand v (map f (drop 1 left)) (Some before)) fault → HasReason (IsNoLine (map f words)) fault
  line_refused_by words left before name v fault is at named parse refused =
      reason_of fault refused (λ why. line_without before parse (name_refused words left before name v is at named why))

  -- a command line whose words before a file of commands are refused
  pub file_refused_by : (words : List A) (before : Bor ArgMatches) (r : Result Words WordsFault) → IsParseOf (program_app true) (map f words) before.now → is_some (text_of before.now (codes "commands")) ≡ true
      → IfErr r (HasReason (IsNoFile before)) → IfErr r (HasReason (AreNoWords (map f words)))
  file_refused_by words before r parse filed refused = reasons_of r refused (λ why. wrong_beside_file before parse filed why)
