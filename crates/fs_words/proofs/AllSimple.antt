-- The rules of the program and of each command are such that clap says what it finds by them.
use Rattle.std.proofs.Common.{◌≡◌, ℕ, Bool, true, false, List, refl}
use Rattle.std.specs.Prelude.{IfErr, IfOk, Result, Ok, Err}
use Rattle.clap.specs.Faults.{fault_of, is_simple_and_free}
use Rattle.clap.specs.Kinds.{FailsBy}
use Rattle.clap.specs.Simple.{App, HasMatchesOf, is_simple}
use Rattle.clap.specs.Values.{kind_of}
use Rattle.clap.specs.declared.error.Error.{Error}
use Rattle.clap.specs.declared.parser.matches.ArgMatches.{ArgMatches}
use Rattle.fs_words.specs.declared.verbs.Verb.{Verb}
use Rattle.fs_words.specs.declared.verbs.Verb.TheVariants as verb
use Rattle.fs_words.specs.Parses.{IsKindAt, IsParseOf}
use Rattle.fs_words.specs.Rules.{choice_rule, command_app, front_app, own_rules, program_app, whole_app}

pub program_simple : (has_image : Bool) → is_simple (program_app has_image) ≡ true
unfolding program_app front_app choice_rule
program_simple true = refl
program_simple false = refl

pub whole_simple : (v : Verb) → is_simple (whole_app v) ≡ true
unfolding whole_app command_app own_rules choice_rule
whole_simple verb.Ls = refl
whole_simple verb.Find = refl
whole_simple verb.Stat = refl
whole_simple verb.Cat = refl
whole_simple verb.Get = refl
whole_simple verb.Tar = refl
whole_simple verb.Df = refl
whole_simple verb.Info = refl
whole_simple verb.Du = refl
whole_simple verb.Check = refl
whole_simple verb.Rescue = refl
whole_simple verb.Convert = refl
whole_simple verb.Cmp = refl
whole_simple verb.Put = refl
whole_simple verb.Cp = refl
whole_simple verb.Mv = refl
whole_simple verb.Rm = refl
whole_simple verb.Purge = refl
whole_simple verb.Mkdir = refl
whole_simple verb.Rmdir = refl
whole_simple verb.Truncate = refl
whole_simple verb.Append = refl
whole_simple verb.Chmod = refl
whole_simple verb.Chown = refl
whole_simple verb.Label = refl
whole_simple verb.Untar = refl
whole_simple verb.Repair = refl
whole_simple verb.Init = refl
whole_simple verb.File = refl

-- what clap says of a parse by such rules
pub parsed : (a : App) (words : List (List ℕ)) (r : Result ArgMatches Error) → is_simple a ≡ true → IfOk r (HasMatchesOf a words) → (is_simple_and_free a ≡ true → FailsBy (fault_of a words) r) → IfOk r (IsParseOf a words)
parsed a words (Ok m) simple found kinds = ((found simple).0, (found simple).1, kinds)
parsed a words (Err e) simple found kinds = tt

pub refused : (a : App) (words : List (List ℕ)) (r : Result ArgMatches Error) → (is_simple_and_free a ≡ true → FailsBy (fault_of a words) r) → IfErr r (λ e. IsKindAt a words (kind_of e))
refused a words (Ok m) kinds = tt
refused a words (Err e) kinds = kinds
