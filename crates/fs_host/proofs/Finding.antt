-- The volume in a file whose bytes are known.
use Rattle.std.specs.Prelude.{◌≡◌, ◌≢◌, ◌⊎◌, ℕ, ◌+◌, ◌%◌, ◌^◌, ◌≤◌, Option, Some, None, IfSome, Result, Ok, Err, IfOk, IfErr, MatchResult, List, [], ◌++◌, length}
use Rattle.std.specs.Io.KnownBytes.{Consumes, IsAtEnd, Keeps}
use Rattle.std.proofs.Common.{refl, sym, ap, subst, ◌∙◌, arith, length-append, inl, inr}
use Rattle.std.proofs.lemmas.List.{append-nil}
use Rattle.ods_base.specs.Image.{IsNoReading}
use Rattle.ods_base.specs.declared.faults.ImageError.{ImageError}
use Rattle.ods_base.specs.declared.faults.ImageError.TheVariants.{TooBig, NotWholeBlocks, ReadFailed, NoMemory}
use Rattle.ods_container.specs.Container.{IsContained, IsNotContained}
use Rattle.ods_container.specs.declared.container.Contained.{Contained}
use Rattle.fs_host.specs.Found.{AreBlocks, IsNotFound}

-- what is found in a file with these bytes
abbrev pub IsFound : List ℕ → Option ℕ → Result Contained ImageError → Type 0
IsFound bytes given r = MatchResult r (λ c. IsContained bytes given c.image c.behind.items c.length) (IsNotFound bytes given)

-- What is known of the bytes of a file, from what is known of those that were read of it from its start.
pub known_read : (P : List ℕ → Type 0) (moved : Option ℕ) (bytes kept left new : Option (List ℕ)) (read : List ℕ) → moved ≡ Some 0 → Keeps bytes kept
    → ((all : List ℕ) → moved ≡ Some 0 → kept ≡ Some all → left ≡ Some all) → Consumes left new read
    → ((all rest : List ℕ) → all ≡ read ++ rest → new ≡ Some rest → P all) → IfSome bytes P
known_read P moved None kept left new read start keeps whole taken known = tt
known_read P moved (Some all) None left new read start keeps whole taken known = absurd keeps
known_read P moved (Some all) (Some same) left None read start keeps whole taken known =
    absurd (subst (λ o. Consumes o None read) (whole same start refl) taken)
known_read P moved (Some all) (Some same) left (Some rest) read start keeps whole taken known =
    subst P keeps (known same rest (subst (λ o. Consumes o (Some rest) read) (whole same start refl) taken) refl)

-- what is read to the end is all
all_read : (all read rest : List ℕ) (new : Option (List ℕ)) → all ≡ read ++ rest → new ≡ Some rest → IsAtEnd new → read ≡ all
all_read all read rest new e here at =
    let none : rest ≡ [] = subst IsAtEnd here at in
    sym (e ∙ ap (λ l. read ++ l) none ∙ append-nil read)

-- the volume of an image that was read to the end
pub found_image : (r : Result Contained ImageError) (given : Option ℕ) (read own rest all : List ℕ) (new : Option (List ℕ)) → all ≡ read ++ rest → new ≡ Some rest → IsAtEnd new → own ≡ read
    → IfOk r (λ c. IsContained own given c.image c.behind.items c.length) → IfErr r (IsNotContained own given) → IsFound all given r
found_image (Ok c) given read own rest all new e here at same ok err =
    subst (λ b. IsContained b given c.image c.behind.items c.length) (same ∙ all_read all read rest new e here at) ok
found_image (Err f) given read own rest all new e here at same ok err =
    inr (subst (λ b. IsNotContained b given f) (same ∙ all_read all read rest new e here at) err)

-- bytes that are whole blocks, and few enough, are no image only where a read failed or memory was refused
pub found_none : (fault : ImageError) (r : Result Contained ImageError) (given : Option ℕ) (read rest all : List ℕ) (new : Option (List ℕ)) → all ≡ read ++ rest → new ≡ Some rest → IsNoReading read new fault
    → ((fault ≡ ReadFailed) ⊎ (fault ≡ NoMemory) → r ≡ Err fault) → AreBlocks all → IsFound all given r
found_none TooBig r given read rest all new e here why failed blocks =
    let long : length all ≡ length read + length rest = ap length e ∙ length-append read rest in
    absurd (omega (arith, why, blocks.0))
found_none NotWholeBlocks r given read rest all new e here why failed blocks =
    let same : length read ≡ length all = ap length (all_read all read rest new e here why.2) in
    absurd (why.1 (ap (λ n. n % 512) same ∙ blocks.1))
found_none ReadFailed r given read rest all new e here why failed blocks =
    subst (λ o. IsFound all given o) (sym (failed (inl refl))) (inl refl)
found_none NoMemory r given read rest all new e here why failed blocks =
    subst (λ o. IsFound all given o) (sym (failed (inr refl))) (inr tt)
