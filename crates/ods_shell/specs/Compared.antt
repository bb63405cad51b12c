-- The bytes of two files that are compared.
use Rattle.std.specs.Prelude.{◌≡◌, ℕ, ◌⊎◌, List, Some, None}
use Rattle.ods_space.specs.Layout.{VolumeLayout}
use Rattle.ods_space.specs.Files.{IsFile}
use Rattle.ods_space.specs.Faults.{IsChainFault}
use Rattle.ods_space.specs.declared.fault.ChainFault.TheVariants as chain
use Rattle.ods_files.specs.Body.{Body, HasBody, bytes_in}
use Rattle.ods_files.specs.declared.form.Form.TheVariants.{Binary, Raw}
use Rattle.ods_shell.specs.declared.form.FormFault.{FormFault}
use Rattle.ods_shell.specs.declared.form.FormFault.TheVariants.{NoSuchFile, BadChain, OutsideVolume, EndPastBlocks, Records, TooLongForBlock, NoMemory}

-- the bytes up to the end of file, or in all blocks if the end is past them
abbrev pub AreCompared : Body → List ℕ → Type 0
AreCompared body bytes = (bytes_in Binary body ≡ Some bytes) ⊎ ((bytes_in Binary body ≡ None) × (bytes_in Raw body ≡ Some bytes))

-- these bytes of file n are compared
abbrev pub HasCompared : List (List ℕ) → VolumeLayout → ℕ → List ℕ → Type 0
HasCompared I L n bytes = (body : Body) × HasBody I L n body × AreCompared body bytes

-- the reason why file n has no such bytes: it is not a file, or its chain is not whole. Out of memory can occur at any time.
abbrev pub HasNone : List (List ℕ) → VolumeLayout → ℕ → FormFault → Type 0
HasNone I L n NoSuchFile = ¬ IsFile I L n
HasNone I L n BadChain = IsFile I L n × IsChainFault I L n chain.BadChain
HasNone I L n (OutsideVolume lbn) = IsFile I L n × IsChainFault I L n (chain.OutsideVolume lbn)
HasNone I L n EndPastBlocks = ⊥
HasNone I L n (Records f) = ⊥
HasNone I L n (TooLongForBlock size) = ⊥
HasNone I L n NoMemory = Unit {0}
