-- The entry that a name with a pick selects.
use Rattle.std.specs.Prelude.{◌≡◌, ◌≢◌, ℕ, ◌<◌, ◌≤◌, Bool, true, false, ◌&&◌, ◌==◌, nat_lt, if◌then◌else◌, Option, Some, None, MatchOption}
use Rattle.ods_base.specs.Name.{RadName}
use Rattle.ods_base.specs.Names.{is_of, version_of}
use Rattle.ods_base.specs.declared.name.Pick.{Pick}
use Rattle.ods_base.specs.declared.name.Pick.TheVariants.{Exact, Highest, Lowest}
use Rattle.ods_directory.specs.declared.search.Found.{Found}
use Rattle.ods_directory.specs.declared.search.Search.{Search}
use Rattle.ods_directory.specs.Entry.{Entry, is_used}

-- whether a version of the name replaces the entry found so far
abbrev pub is_better : Pick → Option Found → ℕ → Bool
is_better (Exact v) None version = version == v
is_better (Exact v) (Some found) version = false
is_better Highest None version = true
is_better Highest (Some found) version = nat_lt found.version version
is_better Lowest None version = true
is_better Lowest (Some found) version = nat_lt version found.version

-- whether an entry has the name
abbrev pub is_named : RadName → Entry → Bool
is_named n e = is_used e && is_of n e.key

-- the search after entry k
abbrev pub search_after : Search → ℕ → Entry → Search
search_after s k e =
    if is_named s.name e && is_better s.pick s.found (version_of e.key)
    then record s { found = Some (record { position = k; file = e.file; version = version_of e.key }) }
    else s

-- the name has this entry, among the first m
pub record IsEntryOf (entry : ℕ → Entry) (m : ℕ) (n : RadName) (found : Found) : Type 0 where
  pub below : found.position < m
  pub named : is_named n (entry found.position) ≡ true
  pub file : found.file ≡ (entry found.position).file
  pub version : found.version ≡ version_of (entry found.position).key

-- P holds for the version of each entry of the name, among the first m
abbrev pub AllVersions : (ℕ → Entry) → ℕ → RadName → (ℕ → Type 0) → Type 0
AllVersions entry m n P = (k : ℕ) → k < m → is_named n (entry k) ≡ true → P (version_of (entry k).key)

-- the pick selects this version among the entries of the name
abbrev pub IsBest : (ℕ → Entry) → ℕ → RadName → Pick → ℕ → Type 0
IsBest entry m n (Exact v) version = version ≡ v
IsBest entry m n Highest version = AllVersions entry m n (λ v. v ≤ version)
IsBest entry m n Lowest version = AllVersions entry m n (λ v. version ≤ v)

-- the pick selects none of the entries of the name
abbrev pub IsNoBest : (ℕ → Entry) → ℕ → RadName → Pick → Type 0
IsNoBest entry m n (Exact v) = AllVersions entry m n (λ version. version ≢ v)
IsNoBest entry m n Highest = AllVersions entry m n (λ version. ⊥)
IsNoBest entry m n Lowest = AllVersions entry m n (λ version. ⊥)

-- the result of the search among the first m entries
abbrev pub IsFound : (ℕ → Entry) → ℕ → RadName → Pick → Option Found → Type 0
IsFound entry m n pick found =
    MatchOption found (IsNoBest entry m n pick) (λ f. IsEntryOf entry m n f × IsBest entry m n pick f.version)
