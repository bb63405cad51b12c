-- The options in the words, before IMAGE or after the command.
use Rattle.std.specs.Prelude.{◌≡◌, ◌⊎◌, ℕ, Bool, true, false, List, [], codes, Option, Some, None}
use Rattle.std.specs.Option.{option_or}
use Rattle.std.specs.Borrow.{Bor}
use Rattle.clap.specs.declared.parser.matches.ArgMatches.{ArgMatches}
use Rattle.fs_words.specs.declared.said.Said.{Said}
use Rattle.fs_words.specs.Asked.{IsSet, text_of, texts_of}

-- an option without a value is set among these, if there are any
abbrev pub IsSetAmong : Option (Bor ArgMatches) → List ℕ → Bool → Type 0
IsSetAmong (Some m) option set = IsSet m.now option set
IsSetAmong None option set = set ≡ false

-- the text of an option among these
abbrev pub text_among : Option (Bor ArgMatches) → List ℕ → Option (List ℕ)
text_among (Some m) option = text_of m.now option
text_among None option = None

-- the words from the name of the command on
abbrev pub rest_among : ArgMatches → List (List ℕ)
rest_among m = texts_of m (codes "rest")

-- the paths among these
abbrev pub paths_among : Option (Bor ArgMatches) → List (List ℕ)
paths_among (Some m) = texts_of m.now (codes "path")
paths_among None = []

-- an option without a value is given before the command or after it
abbrev pub IsFlag : Said → List ℕ → Bool → Type 0
IsFlag s option true = IsSetAmong s.before option true ⊎ IsSetAmong s.own option true
IsFlag s option false = IsSetAmong s.before option false × IsSetAmong s.own option false

-- the text of an option: after the command, or otherwise before it
abbrev pub text_said : Said → List ℕ → Option (List ℕ)
text_said s option = option_or (text_among s.own option) (text_among s.before option)
