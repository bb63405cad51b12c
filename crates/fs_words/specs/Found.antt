-- The request in the words of a command, except its own part.
use Rattle.std.specs.Prelude.{◌≡◌, ℕ, Bool, true, List, codes, Option, Some, None, MatchBool, IsTrue, is_some, map}
use Rattle.std.specs.Borrow.{Bor}
use Rattle.clap.specs.declared.parser.matches.ArgMatches.{ArgMatches}
use Rattle.ods_request.specs.Stamps.{is_stamp}
use Rattle.ods_text.specs.Numbers.{IsNumber}
use Rattle.fs_words.specs.declared.actions.Action.{Action}
use Rattle.fs_words.specs.declared.actions.Action.TheVariants as action
use Rattle.fs_words.specs.declared.options.Choice.{Choice}
use Rattle.fs_words.specs.declared.said.Said.{Said}
use Rattle.fs_words.specs.declared.verbs.Verb.{Verb}
use Rattle.fs_words.specs.declared.verbs.Verb.TheVariants as verb
use Rattle.fs_words.specs.declared.words.Saving.{Saving}
use Rattle.fs_words.specs.declared.words.Words.{Words}
use Rattle.fs_words.specs.Asked.{Asks}
use Rattle.fs_words.specs.Days.{is_true_stamp}
use Rattle.fs_words.specs.Layerings.{IsLayering}
use Rattle.fs_words.specs.Options.{has_value, option_serves, option_text, prints_plans}
use Rattle.fs_words.specs.Parses.{IsParseOf}
use Rattle.fs_words.specs.Rules.{whole_app}
use Rattle.fs_words.specs.Saying.{IsFlag, paths_among, text_said}
use Rattle.fs_words.specs.Users.{IsSaid}
use Rattle.fs_words.specs.Values.{IsValue, value_of}

-- a stamp of a day that exists, and of a time of the day
abbrev pub IsStamp : List ℕ → List ℕ → Type 0
IsStamp text stamp = (stamp ≡ text) × IsTrue (is_stamp text) × (is_true_stamp text ≡ true)

-- the value of -o is the target of a get, and not a file of the image
abbrev pub saved_to : Verb → Option (List ℕ) → Option (List ℕ)
saved_to verb.Get text = None
saved_to v text = text

pub record IsSaving (s : Said) (v : Verb) (x : Saving) : Type 0 where
  pub out : value_of x.out ≡ saved_to v (text_said s (codes "-o"))
  pub backup : IsFlag s (codes "--backup") x.backup
  pub only_tells : IsFlag s (codes "-n") x.only_tells
  pub break_links : IsFlag s (codes "--break-links") x.break_links

-- the option has an effect for the command, if it is given
abbrev pub ServesWhereSaid : Said → Verb → Choice → Type 0
ServesWhereSaid s v c = MatchBool (has_value c)
    (is_some (text_said s (option_text c)) ≡ true → option_serves c v ≡ true)
    ((set : Bool) × IsFlag s (option_text c) set × (set ≡ true → option_serves c v ≡ true))

-- JSON of a command that prints only a plan is given with -n
abbrev pub PlansWhereJson : Said → Verb → Type 0
PlansWhereJson s v = (json told : Bool) × IsFlag s (codes "--json") json × IsFlag s (codes "-n") told
    × (json ≡ true → prints_plans v ≡ true → told ≡ true)

pub record IsFound (path : Bor (List ℕ)) (s : Said) (v : Verb) (a : Action) (w : Words) : Type 0 where
  pub image : w.image ≡ path
  pub action : w.action ≡ a
  pub paths : map (λ (t : Bor (List ℕ)). t.now) w.paths.items ≡ paths_among s.own
  pub force : IsFlag s (codes "--force") w.force
  pub json : IsFlag s (codes "--json") w.json
  pub quiet : IsFlag s (codes "-q") w.quiet
  pub user : IsValue IsSaid (text_said s (codes "-u")) w.user
  pub stamp : IsValue IsStamp (text_said s (codes "--stamp")) w.stamp
  pub saving : IsSaving s v w.saving
  pub blocks : IsValue IsNumber (text_said s (codes "--blocks")) w.blocks
  pub order : IsValue IsLayering (text_said s (codes "--order")) w.order

-- the words of a command: the request in the words after its name, and the options
abbrev pub AreOfCommand : Bor (List ℕ) → Verb → List (List ℕ) → Option (Bor ArgMatches) → Words → Type 0
AreOfCommand image v words before w = (s : Said) × (m : Bor ArgMatches) × (out : Option (Bor (List ℕ))) × (a : Action)
    × IsParseOf (whole_app v) words m.now × (s.before ≡ before) × (s.own ≡ Some m) × (value_of out ≡ text_said s (codes "-o")) × Asks v m.now out a × IsFound image s v a w

-- the words before a file of commands
abbrev pub AreOfFile : Bor (List ℕ) → Bor (List ℕ) → Bor ArgMatches → Words → Type 0
AreOfFile image file before w = (s : Said) × (going : Bool)
    × (s.before ≡ Some before) × (s.own ≡ None) × IsFlag s (codes "--keep-going") going × IsFound image s verb.File (action.Commands file going) w
