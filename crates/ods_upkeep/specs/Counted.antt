-- How many entries of all directories name each file.
use Rattle.std.specs.Prelude.{◌≡◌, ℕ, zero, suc, ◌==◌, ◌+◌, ◌-◌, ◌<◌, min, if◌then◌else◌, List, [], ◌++◌, length}
use Rattle.ods_base.specs.declared.listed.Listed.{Listed}
use Rattle.ods_space.specs.Layout.{VolumeLayout, last_number}
use Rattle.ods_shell.specs.declared.facts.Facts.{Facts}
use Rattle.ods_shell.specs.Choosing.{AreThose}
use Rattle.ods_shell.specs.Facts.{AreFacts}
use Rattle.ods_shell.specs.Found.{AreLinesOf}

-- the entries of the directories with the numbers 1 to n, including directories that no walk reaches
abbrev pub AreEntriesTo : List (List ℕ) → VolumeLayout → ℕ → List Listed → Type 0
AreEntriesTo I L zero entries = entries ≡ []
AreEntriesTo I L (suc n) entries = (before : List Listed) × (here : List Listed) × (entries ≡ before ++ here) × AreEntriesTo I L n before × AreLinesOf I L (suc n) here

-- the entry names file n, which exists
pub record NamesFile (I : List (List ℕ)) (L : VolumeLayout) (n : ℕ) (e : Listed) : Type 0 where
  pub facts : Facts
  pub are : AreFacts I L e.file.number facts
  pub same : facts.file ≡ e.file
  pub number : e.file.number ≡ n

-- for each number, how many of these entries name its file
abbrev pub AreCountsOf : List (List ℕ) → VolumeLayout → List Listed → (ℕ → ℕ) → Type 0
AreCountsOf I L entries names = (n : ℕ) → n < 65536 → (those : List Listed) × AreThose (NamesFile I L n) entries those × (names n ≡ length those)

-- for each number, how many of all entries name its file
pub record AreCounts (I : List (List ℕ)) (L : VolumeLayout) (names : ℕ → ℕ) : Type 0 where
  pub entries : List Listed
  pub all : AreEntriesTo I L (last_number L) entries
  pub each : AreCountsOf I L entries names

-- one name of file n is gone
abbrev pub one_less : (ℕ → ℕ) → ℕ → ℕ → ℕ
one_less names n m = if m == n then names m - 1 else names m

-- one entry more names file n, up to the greatest count
abbrev pub one_more : (ℕ → ℕ) → ℕ → ℕ → ℕ
one_more names n m = if m == n then min (names m + 1) 18446744073709551615 else names m
