-- The reason for each refusal, and a remedy.
use Rattle.std.specs.Prelude.{ℕ, List, [], ◌∷◌, Option, codes}
use Rattle.std.specs.List.{find}
use Rattle.std.specs.Str.{bytes_eq}
use Rattle.ods_shell.specs.declared.remedies.Advice.{Advice}
use Rattle.ods_shell.specs.declared.remedies.Row.{Row as CodeRow}

-- a row: the name of a refusal, the reason for it, and a remedy
abbrev pub Row : Type 0
Row = List ℕ × List ℕ × List ℕ

-- the table
abbrev pub rows : List Row
rows =
    (codes "NoSuchFile", codes "no file has this ID, and the ID of a deleted file is not used again", codes "'find' shows the IDs of all files") ∷
    (codes "Reserved", codes "files 1 to 5 belong to the volume, and are not changed", codes "'stat' shows them, and 'get --raw' extracts their blocks") ∷
    (codes "NotADirectory", codes "it is not a directory", codes "'ls' shows which files are directories: their type is DIR") ∷
    (codes "IsDirectory", codes "it is a directory, and the command needs a file", codes "'ls' shows the files in it") ∷
    (codes "BadCount", codes "more than 65535 blocks, none at all, or more than the file has", codes "'stat' shows the number of its blocks") ∷
    (codes "Denied", codes "the protection of the file denies this access to the user", codes "act as its owner, or as a system user with -u [1,1]") ∷
    (codes "NoSuchBlock", codes "the file has no such block", codes "'stat' shows the number of its blocks") ∷
    (codes "NoSuchName", codes "the directory has no such name, type and version", codes "'ls' shows its entries") ∷
    (codes "NameTaken", codes "the directory already has this name, type and version", codes "without a version, the file receives the next version") ∷
    (codes "VersionsFull", codes "version 32767 of this name exists, and it is the last possible version", codes "specify a free version, or remove that one with 'rm'") ∷
    (codes "NotEmpty", codes "the directory is not empty", codes "'ls' shows its entries, and 'rm' removes them") ∷
    (codes "ListFull", codes "the run has more changes than one list holds", codes "make them in several runs") ∷
    (codes "VolumeFull", codes "the volume has too few free blocks", codes "'df' shows the number of free blocks, and 'rm' frees some") ∷
    (codes "HeadersFull", codes "no file number is free, or INDEXF.SYS cannot grow for another header", codes "'rm' frees numbers, and 'df' shows how many headers are ready") ∷
    (codes "ChainFull", codes "the file would need more than 256 headers, since the free blocks are scattered", codes "'df' shows the longest free run, and 'rm' can make a longer one") ∷
    (codes "NoMemory", codes "out of memory", codes "give the program more memory") ∷
    (codes "NotWholeBlocks", codes "the length is not a multiple of 512 bytes", codes "pad the last block of a copy with zeros") ∷
    (codes "TooBig", codes "it has more than 1048576 blocks", codes "larger volumes cannot be read") ∷
    (codes "ReadFailed", codes "the host cannot read it", codes "check that it exists and that you may read it") ∷
    (codes "NoHome", codes "no valid home block was found", codes "check that the image is complete, and that it is a Files-11 ODS-1 volume") ∷
    (codes "BadIndex", codes "INDEXF.SYS is missing, too short, or not at the LBN in the home block", codes "'check --all' shows what is wrong with it") ∷
    (codes "BadStorageMap", codes "BITMAP.SYS is missing or too short", codes "'check --all' shows what is wrong with it") ∷
    (codes "BadMaster", codes "the master directory, file 4, is missing", codes "'rescue' extracts the files") ∷
    (codes "UnsupportedMap", codes "a header has block pointers in a format other than 1", codes "'rescue' extracts the other files") ∷
    (codes "BadChain", codes "the headers of a file do not form a valid chain", codes "'rescue' extracts the other files") ∷
    (codes "OutsideVolume", codes "a file has blocks past the end of the image", codes "'rescue' extracts the other files") ∷
    (codes "DoublyUsed", codes "a block belongs to two files, or to one file twice", codes "'repair share' gives each file its own blocks, and 'check --all' lists all such blocks") ∷
    (codes "MarkedFree", codes "a block of a file is marked as free in BITMAP.SYS", codes "'repair used' marks all such blocks as used, and 'check --all' lists them") ∷
    (codes "BadDirectory", codes "a directory has an entry that is not valid", codes "'check --all' lists all such directories, and 'rescue' extracts the files") ∷
    (codes "DuplicateName", codes "two entries of a directory have the same name, type and version", codes "'repair double' changes the version of one of them, and 'check --all' lists all of them") ∷
    (codes "EndPastBlocks", codes "the end of the file is past its last block", codes "'get --raw' extracts all its blocks") ∷
    (codes "BadName", codes "a name has at most 9 characters, and a type at most 3, of A to Z, 0 to 9 and $", codes "'put FILE PATH' stores it under another name") ∷
    []

-- the row of a name, if there is one
abbrev pub row_of : List ℕ → Option Row
row_of name = find (λ r. bytes_eq r.0 name) rows

-- the reason, and the remedy
abbrev pub row_words : Row → List ℕ × List ℕ
row_words r = (r.1, r.2)

-- the same for an advice
abbrev pub advice_words : Advice → List ℕ × List ℕ
advice_words a = (a.why.now, a.what.now)

-- the words of a row of the code
abbrev pub words_of : CodeRow → Row
words_of r = (r.name.now, r.advice.why.now, r.advice.what.now)
