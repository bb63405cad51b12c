-- The parse of words by clap.
use Rattle.std.specs.Prelude.{◌≡◌, ℕ, true, List, [], ◌∷◌}
use Rattle.clap.specs.Faults.{fault_of, is_simple_and_free}
use Rattle.clap.specs.Kinds.{IsAmong}
use Rattle.clap.specs.Simple.{App, matches_of, subcommand_of, subcommand_rows_of}
use Rattle.clap.specs.Walk.{rows_of}
use Rattle.clap.specs.Words.{found_of}
use Rattle.clap.specs.declared.error.kind.ErrorKind.{ErrorKind}
use Rattle.clap.specs.declared.error.kind.ErrorKind.TheVariants.{OutOfMemory}
use Rattle.clap.specs.declared.parser.matches.ArgMatches.{ArgMatches}

-- m is the parse of the words by these rules, and no word is at fault, if no argument excludes another
abbrev pub IsParseOf : App → List (List ℕ) → ArgMatches → Type 0
IsParseOf rules words m = (rows_of (found_of m) ≡ matches_of rules words) × (subcommand_rows_of m ≡ subcommand_of rules words)
    × (is_simple_and_free rules ≡ true → fault_of rules words ≡ [])

-- the kind of an error of clap at the words: out of memory, or a kind that the words give, if no argument excludes another
abbrev pub IsKindAt : App → List (List ℕ) → ErrorKind → Type 0
IsKindAt rules words k = is_simple_and_free rules ≡ true → IsAmong k (OutOfMemory ∷ fault_of rules words)
