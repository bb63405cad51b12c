-- The name in the ident area of a header. It remains when a directory loses the entry.
use Rattle.std.specs.Prelude.{List, [], ◌∷◌, ℕ}
use Rattle.ods_base.specs.Block.{word}
use Rattle.ods_base.specs.Name.{RadName}

-- the name in an ident area: I.FNAM, three words of three characters each, and I.FTYP
abbrev pub name_in : List ℕ → RadName
name_in ident = record { words = word ident 0 ∷ word ident 1 ∷ word ident 2 ∷ []; ext = word ident 3 }
