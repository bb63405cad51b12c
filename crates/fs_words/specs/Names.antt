-- The names of the commands.
use Rattle.std.specs.Prelude.{ℕ, List, [], ◌∷◌, codes, Option, find}
use Rattle.std.specs.Str.{bytes_eq}
use Rattle.fs_words.specs.declared.verbs.Verb.{Verb}
use Rattle.fs_words.specs.declared.verbs.Verb.TheVariants as verb

-- the name of a command; a file of commands has the option that specifies one
abbrev pub verb_text : Verb → List ℕ
verb_text verb.Ls = codes "ls"
verb_text verb.Find = codes "find"
verb_text verb.Stat = codes "stat"
verb_text verb.Cat = codes "cat"
verb_text verb.Get = codes "get"
verb_text verb.Tar = codes "tar"
verb_text verb.Df = codes "df"
verb_text verb.Info = codes "info"
verb_text verb.Du = codes "du"
verb_text verb.Check = codes "check"
verb_text verb.Rescue = codes "rescue"
verb_text verb.Cmp = codes "cmp"
verb_text verb.Put = codes "put"
verb_text verb.Cp = codes "cp"
verb_text verb.Mv = codes "mv"
verb_text verb.Rm = codes "rm"
verb_text verb.Purge = codes "purge"
verb_text verb.Mkdir = codes "mkdir"
verb_text verb.Rmdir = codes "rmdir"
verb_text verb.Truncate = codes "truncate"
verb_text verb.Append = codes "append"
verb_text verb.Chmod = codes "chmod"
verb_text verb.Chown = codes "chown"
verb_text verb.Label = codes "label"
verb_text verb.Untar = codes "untar"
verb_text verb.Repair = codes "repair"
verb_text verb.Init = codes "init"
verb_text verb.Convert = codes "convert"
verb_text verb.File = codes "-f"

-- the commands, in the order of the help
abbrev pub verbs : List Verb
verbs = verb.Ls ∷ verb.Find ∷ verb.Stat ∷ verb.Cat ∷ verb.Get ∷ verb.Tar ∷ verb.Df ∷ verb.Info ∷ verb.Du ∷ verb.Check ∷ verb.Rescue ∷ verb.Cmp ∷ verb.Put ∷ verb.Untar ∷ verb.Cp ∷ verb.Mv ∷ verb.Rm ∷ verb.Purge ∷ verb.Mkdir ∷ verb.Rmdir ∷ verb.Truncate ∷ verb.Append ∷ verb.Chmod ∷ verb.Chown ∷ verb.Label ∷ verb.Repair ∷ verb.Init ∷ verb.Convert ∷ []

-- the command of this name
abbrev pub verb_named : List ℕ → Option Verb
verb_named word = find (λ (v : Verb). bytes_eq (verb_text v) word) verbs
