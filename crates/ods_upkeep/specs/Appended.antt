-- The requests of append: bytes are written past the end of a file, and the attributes state the new end.
use Rattle.std.specs.Prelude.{◌≡◌, ◌≢◌, ◌⊎◌, ◌≤◌, ◌<◌, ◌*◌, ◌+◌, ◌-◌, ◌/◌, ◌%◌, ◌==◌, ◌||◌, ◌↔◌, ◌^◌, ℕ, Bool, true, false, nat_le, if◌then◌else◌, List, [], ◌∷◌, ◌++◌, length, map, replicate, slice_index, slice_index_or, take, drop, Option, Some, None, IsTrue}
use Rattle.std.specs.List.{All, flat_map, range_with_len}
use Rattle.std.specs.Str.Lines.{lines}
use Rattle.std.specs.FinMap as finmap
use Rattle.ods_base.specs.declared.file_id.FileId.{FileId}
use Rattle.ods_files.specs.Body.{Body, HasBody, are_zeros, bytes_in}
use Rattle.ods_files.specs.declared.form.Form.TheVariants.{Binary}
use Rattle.ods_filing.specs.Filed.{Filed}
use Rattle.ods_filing.specs.Put.{block_count, block_with}
use Rattle.ods_records.specs.Attributes.{word}
use Rattle.ods_records.specs.Faults.{IsFirstFault}
use Rattle.ods_records.specs.Records.{Spells, word_at}
use Rattle.ods_records.specs.Written.{IsTextFault, IsWritten as AreLinesWritten, written}
use Rattle.ods_records.specs.declared.faults.RecordFault.{RecordFault}
use Rattle.ods_records.specs.declared.faults.TextFault.{TextFault}
use Rattle.ods_records.specs.declared.kind.RecordKind.TheVariants.{Variable}
use Rattle.ods_request.specs.Catalogue.{Catalogue, File, Plain}
use Rattle.ods_request.specs.declared.refusals.Refusal.TheVariants.{Reserved, VolumeFull}
use Rattle.ods_request.specs.declared.requests.Request.{Request as Asked}
use Rattle.ods_request.specs.declared.requests.Request.TheVariants.{Extend, SetUser, Write}
use Rattle.ods_shell.specs.declared.alone.Alone.TheVariants as alone
use Rattle.ods_shell.specs.Named.{highest}
use Rattle.ods_shell.specs.declared.facts.Facts.{Facts}
use Rattle.ods_shell.specs.declared.facts.Kind.TheVariants.{Directory}
use Rattle.ods_shell.specs.declared.found.Found.{Found}
use Rattle.ods_shell.specs.declared.path_fault.PathFault.TheVariants as fault
use Rattle.ods_space.specs.Layout.{VolumeLayout}
use Rattle.ods_upkeep.specs.Copied.{IsUnread}
use Rattle.ods_upkeep.specs.Pieces.{with_end}
use Rattle.ods_upkeep.specs.Refused.{HasPath, IsNoSource, StopsAt, no_memory}
use Rattle.ods_upkeep.specs.Removed.{Does}
use Rattle.ods_upkeep.specs.Sources.{AreOfPath}
use Rattle.ods_upkeep.specs.declared.failure.Failure.{Failure}
use Rattle.ods_upkeep.specs.declared.failure.Why.{Why}
use Rattle.ods_upkeep.specs.declared.failure.Why.TheVariants.{IsDirectory, Path, Put, Request, Several, Text}
use Rattle.ods_upkeep.specs.declared.put_fault.PutFault.TheVariants.{NoEnd, NoRecords, OtherKind, PastBlocks}

-- F.RTYP, the low four bits of the first byte
abbrev pub kind_number : List ℕ → ℕ
kind_number attributes = slice_index attributes 0 % 16

-- this is known of the file, and bytes can be appended to it: it is no directory, its number is above 5, its attributes are not zeros, and F.RTYP is
-- 0, 1 or 2
pub record IsOpen (known : Option Facts) (facts : Facts) : Type 0 where
  pub is : known ≡ Some facts
  pub plain : facts.kind ≢ Directory
  pub above : 5 < facts.file.number
  pub ended : are_zeros facts.attributes ≡ false
  pub kind : kind_number facts.attributes ≤ 2

-- the one file that the path selects, the highest version if it specifies none, to which bytes can be appended
pub record IsOpened (I : List (List ℕ)) (L : VolumeLayout) (path : List ℕ) (facts : Facts) : Type 0 where
  pub found : Found
  pub one : AreOfPath I L (highest alone.Refused) path (found ∷ [])
  pub may : IsOpen found.facts facts

-- why bytes cannot be appended to a file: there is no file, it is a directory, it is one of the first five, its end is unknown, or F.RTYP is another
abbrev pub IsNotOpen : Option Facts → Why → Type 0
IsNotOpen None why = why ≡ Path fault.NoSuchFile
IsNotOpen (Some facts) why =
    ((why ≡ IsDirectory) × (facts.kind ≡ Directory))
    ⊎ (((why ≡ Request Reserved) × (facts.file.number ≤ 5))
    ⊎ (((why ≡ Put NoEnd) × (are_zeros facts.attributes ≡ true)) ⊎ ((why ≡ Put (OtherKind (kind_number facts.attributes))) × (2 < kind_number facts.attributes))))

-- why the file of a path is not opened: the path selects nothing, or more than one, or a file to which bytes cannot be appended
abbrev pub IsNotOpened : List (List ℕ) → VolumeLayout → List ℕ → Why → Type 0
IsNotOpened I L path why =
    IsNoSource I L (highest alone.Refused) path why
    ⊎ ((found : List Found) × AreOfPath I L (highest alone.Refused) path found
    × (((why ≡ Several) × (length found ≢ 1)) ⊎ ((one : Found) × (found ≡ one ∷ []) × IsNotOpen one.facts why)))

-- the bytes of file n up to its end
abbrev pub HasBytes : List (List ℕ) → VolumeLayout → ℕ → List ℕ → Type 0
HasBytes I L n bytes = (body : Body) × HasBody I L n body × (bytes_in Binary body ≡ Some bytes)

-- why they are not read: the file does not exist, out of memory, or the end is past the blocks
abbrev pub IsUnended : List (List ℕ) → VolumeLayout → ℕ → Why → Type 0
IsUnended I L n why = IsUnread I L n why ⊎ ((why ≡ Put PastBlocks) × ((body : Body) × HasBody I L n body × (bytes_in Binary body ≡ None)))

-- The bytes spell some records. With this number of zeros after them more records can follow, and then they spell the old ones and these.
abbrev pub IsPadded : List ℕ → ℕ → Type 0
IsPadded old pad = (records : List (List ℕ)) × Spells Variable old records
    × ((more : List (List ℕ)) → All (λ r. length r ≤ 32767) more → Spells Variable (old ++ (replicate pad 0 ++ flat_map written more)) (records ++ more))

-- the attributes with the greater record size, F.RSIZ; if it is 0 it stays
abbrev pub with_size : List ℕ → ℕ → List ℕ
with_size own longest = if (word_at own 2 == 0) || nat_le longest (word_at own 2) then own else take 2 own ++ (word longest ++ drop 4 own)

-- After old bytes that are whole records come the records of the lines of a text. The last of the old ones has its pad byte then, and if the rest of
-- a block is not used, the new ones begin in the next.
pub record IsTextBehind (own old text all attributes : List ℕ) : Type 0 where
  pub pad : ℕ
  pub padded : IsPadded old pad
  pub records : List ℕ
  pub longest : ℕ
  pub lines : AreLinesWritten text records longest
  pub behind : all ≡ old ++ (replicate pad 0 ++ records)
  pub small : length all < 512 * 2 ^ 20
  pub are : attributes ≡ with_end (with_size own longest) (length all)

-- after old bytes come others, unchanged
pub record AreBytesBehind (own old bytes all attributes : List ℕ) : Type 0 where
  pub behind : all ≡ old ++ bytes
  pub small : length all < 512 * 2 ^ 20
  pub are : attributes ≡ with_end own (length all)

-- These are all bytes of the file then, and its attributes: a text follows variable records, F.RTYP 2, and unchanged bytes follow others.
abbrev pub AreBehind : List ℕ → List ℕ → List ℕ → List ℕ → List ℕ → Type 0
AreBehind own old bytes all attributes =
    ((kind_number own ≡ 2) × IsTextBehind own old bytes all attributes) ⊎ ((kind_number own ≢ 2) × AreBytesBehind own old bytes all attributes)

-- why a text is not appended to records: the old bytes are not valid records, with their first fault; the text has no records; out of memory; or the
-- file would be too large
abbrev pub IsNoTextBehind : List ℕ → List ℕ → Why → Type 0
IsNoTextBehind old text why =
    ((fault : RecordFault) × (why ≡ Put (NoRecords fault)) × IsFirstFault Variable old fault)
    ⊎ (((fault : TextFault) × (why ≡ Text fault) × IsTextFault text fault) ⊎ ((why ≡ no_memory) ⊎ (why ≡ Request VolumeFull)))

-- why bytes are not appended to others: out of memory, or the file would be too large
abbrev pub AreNotBehind : List ℕ → List ℕ → List ℕ → Why → Type 0
AreNotBehind own old bytes why =
    ((kind_number own ≡ 2) × IsNoTextBehind old bytes why)
    ⊎ ((kind_number own ≢ 2) × ((why ≡ no_memory) ⊎ ((why ≡ Request VolumeFull) × (512 * 2 ^ 20 ≤ length old + length bytes))))

-- this number of blocks more, with requests of at most 65,535
abbrev pub grows : FileId → ℕ → List Asked
grows file more = replicate (more / 65535) (Extend file 65535) ++ (if more % 65535 == 0 then [] else Extend file (more % 65535) ∷ [])

-- this number of blocks of these bytes are written, from block `first` on, counted from 0; zeros follow the last byte
abbrev pub writes : FileId → List ℕ → ℕ → ℕ → List Asked
writes file all first count = map (λ k. Write file (k + 1) (block_with all k)) (range_with_len first count)

-- The requests that make these all bytes of a file, which has this number of blocks: blocks that it lacks, each block from the block of the old end
-- on, and the attributes.
abbrev pub appends : Facts → ℕ → List ℕ → List ℕ → List Asked
appends facts old all attributes =
    grows facts.file (block_count all - facts.blocks) ++ (writes facts.file all (old / 512) (block_count all - old / 512) ++ SetUser facts.file attributes ∷ [])

-- After the old bytes of the file come the bytes of the host, as records if the file has variable records. No bytes change nothing.
abbrev pub IsGrown : Facts → List ℕ → Filed → Filed → Type 0
IsGrown facts bytes old new =
    ((bytes ≡ []) × (new ≡ old))
    ⊎ ((bytes ≢ []) × ((held : List ℕ) × ((all : List ℕ) × ((attributes : List ℕ) × HasBytes old.image old.layout facts.file.number held
    × AreBehind facts.attributes held bytes all attributes × Does old (appends facts (length held) all attributes) new))))

-- why they do not: the old bytes are not read, or the new ones cannot be appended, and nothing was done; or a request is not done
abbrev pub IsNotGrown : Facts → List ℕ → Filed → Filed → Why → Type 0
IsNotGrown facts bytes old new why =
    ((new ≡ old) × IsUnended old.image old.layout facts.file.number why)
    ⊎ ((held : List ℕ) × HasBytes old.image old.layout facts.file.number held
    × (((new ≡ old) × AreNotBehind facts.attributes held bytes why)
    ⊎ ((all : List ℕ) × ((attributes : List ℕ) × AreBehind facts.attributes held bytes all attributes × StopsAt old (appends facts (length held) all attributes) new why))))

-- the part of these bytes that block k has, counted from 0
abbrev pub part_of : List ℕ → ℕ → List ℕ
part_of bytes k = take 512 (drop (512 * k) bytes)

-- The blocks begin with these bytes: each block that they take exists, and begins with its part of them.
abbrev pub BeginWith : List (List ℕ) → List ℕ → Type 0
BeginWith blocks bytes = (k : ℕ) → 512 * k < length bytes → (k < length blocks) × (take (length (part_of bytes k)) (slice_index_or blocks k []) ≡ part_of bytes k)

-- the catalogue has a plain file under this ID, with this number of blocks, which begin with these bytes
pub record HoldsBytes (C : Catalogue) (id : FileId) (count : ℕ) (bytes : List ℕ) : Type 0 where
  pub file : File
  pub there : finmap.get C.files id ≡ Some file
  pub attributes : List ℕ
  pub blocks : List (List ℕ)
  pub body : file.body ≡ Plain attributes blocks
  pub counted : length blocks ≡ count
  pub begin : BeginWith blocks bytes

-- The rest of a catalogue: the file has these attributes, and its blocks begin with these bytes. Its owner, its protection and its ident are the old
-- ones, and every other file is unchanged.
pub record IsLeftOf (C : Catalogue) (id : FileId) (attributes bytes : List ℕ) (D : Catalogue) : Type 0 where
  pub before : File
  pub was : finmap.get C.files id ≡ Some before
  pub file : File
  pub there : finmap.get D.files id ≡ Some file
  pub blocks : List (List ℕ)
  pub body : file.body ≡ Plain attributes blocks
  pub begin : BeginWith blocks bytes
  pub owner : file.owner ≡ before.owner
  pub protection : file.protection ≡ before.protection
  pub system : file.system_char ≡ before.system_char
  pub ident : file.ident ≡ before.ident
  pub others : (q : FileId) → q ≢ id → finmap.get D.files q ≡ finmap.get C.files q
  pub default : D.default ≡ C.default

-- a last line of the host's bytes that has no LF became a record
abbrev pub IsCompleted : Facts → List ℕ → Bool → Type 0
IsCompleted facts bytes completed = IsTrue completed ↔ ((kind_number facts.attributes ≡ 2) × ((0 < length bytes) × (slice_index bytes (length bytes - 1) ≢ 10)))
