-- What may be done before files are made.
use Rattle.std.specs.Prelude.{◌≡◌, ◌⊎◌, ℕ, ◌/◌, ◌<◌, length, max, min}
use Rattle.ods_space.specs.Free.{free_blocks, free_numbers}
use Rattle.ods_space.specs.Layout.{last_number}
use Rattle.ods_filing.specs.Filed.{Filed, HasGrown, lacking}

-- headers for later files: an eighth of those that INDEXF.SYS has, or a 64th of the free blocks, whichever is less
abbrev pub reserve : Filed → ℕ
reserve f = min (last_number f.layout / 8) (length (free_blocks f.image f.layout) / 64)

-- the number of files for which INDEXF.SYS gets headers before this number of files is made: this number, or the reserve, if it is more and headers lack
abbrev pub IsReadied : ℕ → Filed → ℕ → Type 0
IsReadied count old files = (files ≡ count) ⊎ ((length (free_numbers old.image old.layout) < count) × (files ≡ max count (reserve old)))

-- before this number of files is made INDEXF.SYS may get the headers that it lacks for them, and a reserve; nothing else is done
abbrev pub MayHaveGrown : ℕ → Filed → Filed → Type 0
MayHaveGrown count old ready = (ready ≡ old) ⊎ ((files : ℕ) × IsReadied (min count 65535) old files × HasGrown old (lacking old files) ready)
