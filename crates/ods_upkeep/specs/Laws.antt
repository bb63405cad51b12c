-- The result of two commands together, by the catalogues that the blocks show: laws over definitions only.
use Rattle.std.specs.Prelude.{◌≡◌, ℕ, List, [], ◌∷◌, length, take, Option, Some}
use Rattle.std.specs.List.{concat}
use Rattle.std.specs.FinMap as finmap
use Rattle.ods_base.specs.declared.file_id.FileId.{FileId}
use Rattle.ods_base.specs.declared.file_id.Uic.{Uic}
use Rattle.ods_base.specs.declared.name.Pick.TheVariants.{Exact}
use Rattle.ods_base.specs.Name.{RadName, key_of}
use Rattle.ods_request.specs.declared.answers.Answer.TheVariants.{Entered}
use Rattle.ods_request.specs.declared.requests.Request.TheVariants.{Delete, Enter, Remove}
use Rattle.ods_request.specs.Catalogue.{Catalogue, File, Plain, names_of}
use Rattle.ods_request.specs.Steps.{file_at}
use Rattle.ods_state.specs.Contents.{ShowsBy}
use Rattle.ods_filing.specs.Filed.{Filed}
use Rattle.ods_filing.specs.Laws.{GivesBack}
use Rattle.ods_filing.specs.Put.{Heading, blocks_with}
use Rattle.ods_records.specs.Attributes.{end_of}
use Rattle.ods_records.specs.declared.kind.Wanted.TheVariants.{Binary}
use Rattle.ods_shell.specs.Contents.{IsGot, IsNotGot}
use Rattle.ods_shell.specs.declared.form.FormFault.{FormFault}
use Rattle.ods_shell.specs.declared.form.FormFault.TheVariants.{NoMemory}
use Rattle.ods_shell.specs.declared.form.Remark.{Remark}
use Rattle.ods_shell.specs.declared.facts.Facts.{Facts}
use Rattle.ods_upkeep.specs.Appended.{AreBehind, HoldsBytes, IsLeftOf, appends}
use Rattle.ods_upkeep.specs.PutFor.{IsMadeFor}
use Rattle.ods_upkeep.specs.Removed.{Does}
use Rattle.ods_upkeep.specs.declared.asked.Placing.{Placing}

-- The blocks now show each catalogue that they showed before. What blocks show has no past: the ID of a file that was created and deleted may be used
-- up.
abbrev pub ShowsAgain : Filed → Filed → Type 0
ShowsAgain old new = (C : Catalogue) → ShowsBy old.image old.layout C → ShowsBy new.image new.layout C

-- A file that is put, and then removed by the version under which it was entered, leaves what the blocks showed before.
abbrev pub RmUndoesPut : Type 0
RmUndoesPut = (placing : Placing) (owner : Uic) (dir : FileId) (said : Option ℕ) (heading : Heading) (attributes bytes : List ℕ) (file : FileId) (version : ℕ) (old mid new : Filed)
    → (put : IsMadeFor placing owner dir said heading attributes bytes file old mid) → put.entered.0 ≡ Entered version
    → Does mid (Remove dir heading.name (Exact version) ∷ Delete file ∷ []) new → ShowsAgain old new

-- in this directory of the catalogue the entry of this name and version names the file
abbrev pub IsEntryOf : Catalogue → FileId → RadName → ℕ → FileId → Type 0
IsEntryOf C dir name version file = finmap.get (names_of (file_at C dir).body) (key_of name version) ≡ Some file

-- A name that is moved, and back from its new directory under its old version, leaves the catalogue unchanged. It may move within one directory.
abbrev pub MvThereAndBack : Type 0
MvThereAndBack = (file from to : FileId) (name other : RadName) (version reached : ℕ) (said : Option ℕ) (old mid new : Filed)
    → (there : Does old (Enter to other said file ∷ Remove from name (Exact version) ∷ []) mid) → there.1.0 ≡ Entered reached
    → Does mid (Enter from name (Some version) file ∷ Remove to other (Exact reached) ∷ []) new
    → (C : Catalogue) → ShowsBy old.image old.layout C → IsEntryOf C from name version file → ShowsBy new.image new.layout C

-- The result for a file that was put, with these attributes and these bytes.
pub record IsGotBack (new : Filed) (id : FileId) (attributes bytes : List ℕ) : Type 0 where
  -- each catalogue that the blocks show has it, with the bytes as its blocks
  pub there : (C : Catalogue) → ShowsBy new.image new.layout C → (file : File) × (finmap.get C.files id ≡ Some file) × (file.body ≡ Plain attributes (blocks_with bytes))
  -- up to the end of file these hold the bytes
  pub front : take (end_of attributes) (concat (blocks_with bytes)) ≡ bytes
  -- whatever body the number has, it has the attributes, and its bytes up to the end of file are the bytes
  pub gives : GivesBack new.image new.layout id.number attributes bytes
  -- `get -b` gives the bytes, and fails only out of memory
  pub got : (given : List ℕ) (said : Option Remark) → IsGot new.image new.layout id.number Binary given said → given ≡ bytes
  pub fails : (fault : FormFault) → IsNotGot new.image new.layout id.number Binary fault → fault ≡ NoMemory

-- A file that is put with attributes whose end of file is the length of its bytes gives its bytes back. The blocks before show some catalogue, like
-- the blocks of each sound volume.
abbrev pub GetGivesWhatWasPut : Type 0
GetGivesWhatWasPut = (placing : Placing) (owner : Uic) (dir : FileId) (said : Option ℕ) (heading : Heading) (attributes bytes : List ℕ) (file : FileId) (old new : Filed) (C : Catalogue)
    → ShowsBy old.image old.layout C → IsMadeFor placing owner dir said heading attributes bytes file old new → end_of attributes ≡ length bytes → IsGotBack new file attributes bytes

-- The effect of append on a catalogue that the blocks show, whose file has the old bytes: it has all bytes then, and the new attributes state that
-- they end there. Nothing else has changed.
abbrev pub AppendPutsBehind : Type 0
AppendPutsBehind = (facts : Facts) (held bytes all attributes : List ℕ) (old new : Filed) → length facts.attributes ≡ 32 → AreBehind facts.attributes held bytes all attributes
    → Does old (appends facts (length held) all attributes) new → (C : Catalogue) → ShowsBy old.image old.layout C → HoldsBytes C facts.file facts.blocks held
    → (end_of attributes ≡ length all) × ((D : Catalogue) × ShowsBy new.image new.layout D × IsLeftOf C facts.file attributes all D)
