-- The request in the words of a command line, or of a line of a file of commands: by the words before the command, and from its name on.
use Rattle.std.specs.Prelude.{◌≡◌, ◌⊎◌, ◌-◌, ℕ, true, false, List, [], ◌∷◌, codes, Option, Some, None, drop, length}
use Rattle.std.specs.Borrow.{Bor}
use Rattle.clap.specs.declared.parser.matches.ArgMatches.{ArgMatches}
use Rattle.fs_words.specs.declared.verbs.Verb.{Verb}
use Rattle.fs_words.specs.declared.words.Words.{Words}
use Rattle.fs_words.specs.Asked.{text_of}
use Rattle.fs_words.specs.Found.{AreOfCommand, AreOfFile}
use Rattle.fs_words.specs.Names.{verb_named}
use Rattle.fs_words.specs.Parses.{IsParseOf}
use Rattle.fs_words.specs.Rules.{program_app}
use Rattle.fs_words.specs.Saying.{rest_among}

-- the words from the name of the command on
abbrev pub words_left : List (List ℕ) → ArgMatches → List (List ℕ)
words_left words before = drop (length words - length (rest_among before)) words

-- the remaining words begin with the name of a command, and request this
abbrev pub IsOfName : Bor (List ℕ) → List (List ℕ) → Bor ArgMatches → Words → Type 0
IsOfName image words before own = (name : List ℕ) × (more : List (List ℕ)) × (v : Verb)
    × (words_left words before.now ≡ name ∷ more) × (verb_named name ≡ Some v) × AreOfCommand image v more (Some before) own

-- a line without words requests nothing; another has a command, after options only
abbrev pub IsLineOf : Bor (List ℕ) → List (List ℕ) → Option Words → Type 0
IsLineOf image words None = words ≡ []
IsLineOf image words (Some own) = (before : Bor ArgMatches) × IsParseOf (program_app false) words before.now
    × (text_of before.now (codes "commands") ≡ None) × IsOfName image words before own

-- the words before IMAGE name a file of commands, and no command follows
abbrev pub IsOfFile : Bor (List ℕ) → List (List ℕ) → Bor ArgMatches → Words → Type 0
IsOfFile image words before own = (file : Bor (List ℕ))
    × (text_of before.now (codes "commands") ≡ Some file.now) × (words_left words before.now ≡ []) × AreOfFile image file before own

-- a command line has an image, and a command or a file of commands
abbrev pub AreWordsOf : List (List ℕ) → Words → Type 0
AreWordsOf words own = (image : Bor (List ℕ)) × (before : Bor ArgMatches) × IsParseOf (program_app true) words before.now
    × (text_of before.now (codes "image") ≡ Some image.now)
    × (((text_of before.now (codes "commands") ≡ None) × IsOfName image words before own) ⊎ IsOfFile image words before own)
