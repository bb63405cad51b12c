-- Laws about the definitions of what blocks show.
use Rattle.std.specs.Prelude.{◌≡◌, ◌<◌, ℕ, true, false, List, [], ◌∷◌, ◌++◌, length, slice_set, Some}
use Rattle.std.specs.List.{Contains}
use Rattle.ods_space.specs.Layout.{VolumeLayout, header_at, is_in_use, place_of}
use Rattle.ods_space.specs.Chain.{IsChain}
use Rattle.ods_space.specs.Files.{IsFile, HasBlocks, IsLayoutOf}
use Rattle.ods_mount.specs.Sound.{IsSoundBy}
use Rattle.ods_base.specs.declared.file_id.Uic.{Uic}
use Rattle.ods_request.specs.declared.requests.Request.{Request}
use Rattle.ods_request.specs.declared.answers.Answer.{Answer}
use Rattle.ods_request.specs.declared.refusals.Refusal.{Refusal}
use Rattle.ods_request.specs.declared.answers.Entry.{Entry}
use Rattle.ods_request.specs.Catalogue.{Catalogue}
use Rattle.ods_request.specs.Steps.{step}
use Rattle.ods_request.specs.Table.{creates, takes_memory}
use Rattle.ods_state.specs.Change.{IsCarriedOut, IsFaultBy, IsRefusedBy}
use Rattle.ods_state.specs.Contents.{ShowsBy, IsCatalogueOf}
use Rattle.ods_state.specs.Links.{SameLinks}
use Rattle.ods_state.specs.Served.{IsStepOf, IsRefusalOf}
use Rattle.ods_state.specs.Version.{State, IsReplay, IsPresent, IsLawful, PastIsSpent}
use Rattle.ods_state.specs.Wants.{Lacks}

-- a sound image has a catalogue
abbrev pub HasCatalogue : Type 0
HasCatalogue = (I : List (List ℕ)) (L : VolumeLayout) → IsSoundBy I L → (C : Catalogue) × IsCatalogueOf I C × ShowsBy I L C

-- a sound image has only one catalogue, by its only layout, and a list of entries turns it into only one catalogue
pub record CatalogueIsOne : Type 0 where
  pub layout : (I : List (List ℕ)) (L M : VolumeLayout) → IsLayoutOf I L → IsLayoutOf I M → L ≡ M
  pub catalogue : (I : List (List ℕ)) (C D : Catalogue) → IsCatalogueOf I C → IsCatalogueOf I D → C ≡ D
  pub replay : (M : List (List ℕ)) (E : List Entry) (C D : Catalogue) → IsReplay M E C → IsReplay M E D → C ≡ D

-- a sound image with an empty list is a lawful volume
abbrev pub MountedIsLawful : Type 0
MountedIsLawful = (I : List (List ℕ)) (L : VolumeLayout) (limit : ℕ) → IsSoundBy I L
    → IsLawful (record { mounted = I; entries = []; image = I; layout = L; limit = limit })

-- A lawful volume stays lawful after one more entry. Its blocks become a sound image, which shows the result of the step of the entry on the present
-- catalogue, and no ID of the past can be assigned again.
abbrev pub StepStaysLawful : Type 0
StepStaysLawful = (v : State) (e : Entry) (J : List (List ℕ)) (L : VolumeLayout) (C D : Catalogue) → IsLawful v → length v.entries < v.limit
    → IsPresent v C → step C e.who e.request e.answer ≡ Some D → IsSoundBy J L → ShowsBy J L D → PastIsSpent J L D
    → IsLawful (record { mounted = v.mounted; entries = v.entries ++ e ∷ []; image = J; layout = L; limit = v.limit })

-- Headers and index bits change only for these numbers. No file outside these numbers has a header among them in its chain. Then each such file keeps
-- its blocks.
abbrev pub UntouchedFilesStay : Type 0
UntouchedFilesStay = (I J : List (List ℕ)) (L : VolumeLayout) (changed : List ℕ) → IsSoundBy I L → length J ≡ length I
    → ((n : ℕ) → ¬ Contains changed n → (header_at J L n ≡ header_at I L n) × (is_in_use J L.home n ≡ is_in_use I L.home n))
    → ((n : ℕ) (others blocks : List ℕ) → IsFile I L n → IsChain I L n others blocks → ¬ Contains changed n → (m : ℕ) → Contains (n ∷ others) m → ¬ Contains changed m)
    → (n : ℕ) (blocks : List ℕ) → ¬ Contains changed n → HasBlocks I L n blocks → HasBlocks J L n blocks

-- If header n is replaced by a header with the same links, every file keeps its blocks.
abbrev pub LinkedHeaderKeepsBlocks : Type 0
LinkedHeaderKeepsBlocks = (I : List (List ℕ)) (L : VolumeLayout) (n lbn : ℕ) (b : List ℕ) → IsSoundBy I L → place_of L n ≡ Some lbn
    → SameLinks (header_at I L n) b n → SameLinks b (header_at I L n) n
    → (m : ℕ) (blocks : List ℕ) → HasBlocks I L m blocks → HasBlocks (slice_set I lbn b) L m blocks

-- A request that creates no file is a step if it is carried out and the volume lacks nothing for it. The layout is unchanged.
abbrev pub CarriedOutIsStep : Type 0
CarriedOutIsStep = (I J : List (List ℕ)) (L : VolumeLayout) (who : Uic) (r : Request) (a : Answer) → creates r ≡ false → ((f : Refusal) → ¬ Lacks I L r f)
    → IsCarriedOut I L who r a J → IsStepOf I L who r a J L

-- A first fault is a refusal, and so is out of memory for a request that takes memory. If the volume lacks nothing, there is no other refusal. If the
-- request takes no memory either, the refusal is the first fault.
pub record RefusalIsOne (I : List (List ℕ)) (L : VolumeLayout) (who : Uic) (r : Request) (f : Refusal) : Type 0 where
  pub by_fault : IsFaultBy I L who r f → IsRefusalOf I L who r f
  pub by_memory : takes_memory r ≡ true → IsRefusedBy I L who r f → IsRefusalOf I L who r f
  pub of_memory : ¬ Lacks I L r f → IsRefusalOf I L who r f → IsRefusedBy I L who r f
  pub of_fault : ¬ Lacks I L r f → takes_memory r ≡ false → IsRefusalOf I L who r f → IsFaultBy I L who r f
