-- What is said of a word that is no command.
use Rattle.std.proofs.Common.{◌≡◌, ℕ, List, Option, Some, None, is_some, true}
use Rattle.std.specs.Prelude.{IfOk, MatchOption, Result, Ok, Err}
use Rattle.ods_words.specs.Telling.{IsWrong}
use Rattle.ods_words.specs.declared.fault.WordsFault.{WordsFault}
use Rattle.fs_words.specs.declared.verbs.Verb.{Verb}
use Rattle.fs_words.specs.Hints.{IsMisplaced, IsNear, IsUnknown, misplaced_line, unknown_line}
use Rattle.fs_words.specs.Names.{verb_named}

pub unknown_so : {E : Type 0} (r : Result WordsFault E) (word : List ℕ) (near : Option (List ℕ)) → IsNear word near → IfOk r (IsWrong (unknown_line word near)) → IfOk r (IsUnknown word)
unknown_so (Ok fault) word near is wrong = (near, is, wrong)
unknown_so (Err e) word near is wrong = tt

some_case : (P Q : Type 0) (o : Option Verb) → is_some o ≡ true → Q → MatchOption o P (λ v. Q)
some_case P Q None some q = cc
some_case P Q (Some v) some q = q

none_case : (P Q : Type 0) (o : Option Verb) → o ≡ None → P → MatchOption o P (λ v. Q)
none_case P Q None none p = p
none_case P Q (Some v) none p = cc

-- the image has the name of a command, or has not
pub misplaced_so : {E : Type 0} (r : Result WordsFault E) (image word : List ℕ) → is_some (verb_named image) ≡ true → IfOk r (IsWrong (misplaced_line image word)) → IfOk r (IsMisplaced image word)
misplaced_so (Ok fault) image word some wrong = some_case (IsUnknown word fault) (IsWrong (misplaced_line image word) fault) (verb_named image) some wrong
misplaced_so (Err e) image word some wrong = tt

pub placed_so : {E : Type 0} (r : Result WordsFault E) (image word : List ℕ) → verb_named image ≡ None → IfOk r (IsUnknown word) → IfOk r (IsMisplaced image word)
placed_so (Ok fault) image word none unknown = none_case (IsUnknown word fault) (IsWrong (misplaced_line image word) fault) (verb_named image) none unknown
placed_so (Err e) image word none unknown = tt
