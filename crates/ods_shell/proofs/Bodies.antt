-- A file has one body, and records that are read have no fault.
use Rattle.std.proofs.Common.{◌≡◌, ℕ, ◌<◌, ◌≤◌, refl, sym, ap, ◌∙◌, subst, List, [], length, Option, Some, None, Result, Ok, Err, arith}
use Rattle.std.specs.Prelude.{IfOk, IfSome, IfNone}
use Rattle.std.proofs.lemmas.List.Elements.{All-contains}
use Rattle.ods_space.specs.Layout.{VolumeLayout}
use Rattle.ods_space.specs.Files.{AreInside}
use Rattle.ods_space.specs.Faults.{IsChainFault}
use Rattle.ods_space.specs.declared.fault.ChainFault.TheVariants.{BadChain, OutsideVolume, NoMemory as NoRoom}
use Rattle.ods_space.specs.declared.fault.ChainFault.{ChainFault}
use Rattle.ods_space.specs.Chain.{index_for}
use Rattle.ods_space.proofs.Chains.{same_chain}
use Rattle.ods_space.proofs.Surveyed.{same_blocks}
use Rattle.ods_mount.specs.Faults.{contents_of}
use Rattle.ods_files.specs.Body.{Body, HasBody, IsFileFault, bytes_in}
use Rattle.ods_files.specs.declared.fault.FileFault.{FileFault}
use Rattle.ods_files.specs.declared.fault.FileFault.TheVariants.{NoSuchFile, Chain}
use Rattle.ods_files.specs.declared.form.Form.TheVariants.{Binary}
use Rattle.ods_records.specs.Attributes.{kind_in}
use Rattle.ods_records.specs.Long.{IsFirstLong}
use Rattle.ods_records.specs.Faults.{IsFirstFault}
use Rattle.ods_records.specs.Records.{Spells}
use Rattle.ods_records.specs.declared.kind.RecordKind.{RecordKind}
use Rattle.ods_records.specs.declared.faults.RecordFault.{RecordFault}
use Rattle.ods_records.proofs.Standing.{fault_spells}
use Rattle.ods_shell.specs.Spoiled.{IsSpoiled, HasSpoiledRecords, HasLongRecord, IsTooLongIn, record_size}

pub same_body : (I : List (List ℕ)) (L : VolumeLayout) (n : ℕ) (a b : Body) → HasBody I L n a → HasBody I L n b → a ≡ b
same_body I L n a b f g =
    let lbns : f.lbns ≡ g.lbns = same_blocks I L n f.lbns g.lbns f.held g.held in
    let blocks : a.blocks ≡ b.blocks = f.blocks ∙ ap (contents_of I) lbns ∙ sym g.blocks in
    let attributes : a.attributes ≡ b.attributes = f.attributes ∙ sym g.attributes in
    λ i. record { blocks = blocks i; attributes = attributes i }

pub some_same : {A : Type 0} (x y : A) → Some x ≡ Some y → x ≡ y
some_same x y e = cc e

-- records that were read have no fault
pub none_spoiled : (body : Body) (kind : RecordKind) (bytes : List ℕ) (records : List (List ℕ)) → kind_in body.attributes ≡ Some kind → bytes_in Binary body ≡ Some bytes → Spells kind bytes records
    → (fault : RecordFault) → IsSpoiled body fault → ⊥
none_spoiled body kind bytes records k b spelled fault s =
    let first : IsFirstFault kind bytes fault =
    subst (λ x. IsFirstFault x bytes fault) (some_same s.0 kind (sym s.2 ∙ k)) (subst (λ x. IsFirstFault s.0 x fault) (some_same s.1 bytes (sym s.3 ∙ b)) s.4) in
    fault_spells kind bytes first.at fault first.standing records first.before first.there spelled

-- what is not wrong with the body of a file is not wrong with the file
pub none_of_file : (I : List (List ℕ)) (L : VolumeLayout) (n : ℕ) (body : Body) → HasBody I L n body → ((fault : RecordFault) → IsSpoiled body fault → ⊥) → (fault : RecordFault) → HasSpoiledRecords I L n fault → ⊥
none_of_file I L n body has none fault spoiled = none fault (subst (λ b. IsSpoiled b fault) (same_body I L n spoiled.0 body spoiled.1 has) spoiled.2)

-- where one thing follows from another, what is told where there is none
pub none_told : {T E : Type 0} (r : Result (Option T) E) (P Q : Type 0) → (P → Q) → IfOk r (λ found. IfNone found P) → IfOk r (λ found. IfNone found Q)
none_told (Ok None) P Q follows told = follows told
none_told (Ok (Some f)) P Q follows told = told
none_told (Err e) P Q follows told = told

-- a file with a whole chain has no fault of its chain
pub none_bad : (I : List (List ℕ)) (L : VolumeLayout) (n : ℕ) (fault : ChainFault) (body : Body) → fault ≡ BadChain → IsChainFault I L n fault → HasBody I L n body → ⊥
none_bad I L n fault body is told has =
    let bad : IsChainFault I L n BadChain = subst (IsChainFault I L n) is told in
    bad has.held.others has.lbns has.held.whole.chain

pub none_past : (I : List (List ℕ)) (L : VolumeLayout) (n : ℕ) (fault : ChainFault) (lbn : ℕ) (body : Body) → fault ≡ OutsideVolume lbn → IsChainFault I L n fault → HasBody I L n body → ⊥
none_past I L n fault lbn body is told has =
    let out : IsChainFault I L n (OutsideVolume lbn) = subst (IsChainFault I L n) is told in
    let same : has.lbns ≡ out.1 = (same_chain I L.home (index_for L n) [] 0 n has.held.others has.lbns out.0 out.1 has.held.whole.chain out.2).1 in
    let below : lbn < length I = All-contains (λ b. b < length I) out.1 lbn (subst (λ bs. AreInside I bs) same has.held.whole.inside) out.3 in
    let above : length I ≤ lbn = out.4 in
    absurd (omega arith)

-- a file with a body has none of these faults, unless memory ran out
pub none_whole : (I : List (List ℕ)) (L : VolumeLayout) (n : ℕ) (fault : FileFault) (body : Body) → (fault ≡ Chain NoRoom → ⊥) → IsFileFault I L n fault → HasBody I L n body → ⊥
none_whole I L n NoSuchFile body other told has = told has.held.file
none_whole I L n (Chain BadChain) body other told has = none_bad I L n BadChain body refl told.1 has
none_whole I L n (Chain (OutsideVolume lbn)) body other told has = none_past I L n (OutsideVolume lbn) lbn body refl told.1 has
none_whole I L n (Chain NoRoom) body other told has = other refl

-- where nothing is told, all that is told is so; and what follows
pub none_some : {T E : Type 0} (r : Result (Option T) E) (P : T → Type 0) (Q : Type 0) → IfOk r (λ found. (found ≡ None) × Q) → IfOk r (λ found. IfSome found P)
none_some (Ok None) P Q told = tt
none_some (Ok (Some f)) P Q told = absurd (cc told.0)
none_some (Err e) P Q told = tt

pub none_none : {T E : Type 0} (r : Result (Option T) E) (Q R : Type 0) → (Q → R) → IfOk r (λ found. (found ≡ None) × Q) → IfOk r (λ found. IfNone found R)
none_none (Ok None) Q R follows told = follows told.1
none_none (Ok (Some f)) Q R follows told = tt
none_none (Err e) Q R follows told = tt

-- where one thing follows from another, what is so where there is none
pub if_none : {T : Type 0} (r : Option T) (P Q : Type 0) → (P → Q) → IfNone r P → IfNone r Q
if_none None P Q follows so = follows so
if_none (Some x) P Q follows so = tt

-- what is not in the records of the body of a file is not in those of the file
pub no_long_of_file : (I : List (List ℕ)) (L : VolumeLayout) (n : ℕ) (body : Body) → HasBody I L n body → ((at size : ℕ) → ¬ IsTooLongIn body at size) → (at size : ℕ) → ¬ HasLongRecord I L n at size
no_long_of_file I L n body has none at size long = none at size (subst (λ b. IsTooLongIn b at size) (same_body I L n long.0 body long.1 has) long.2)

pub no_long_in : (body : Body) (kind : RecordKind) (bytes : List ℕ) → kind_in body.attributes ≡ Some kind → bytes_in Binary body ≡ Some bytes → ((at size : ℕ) → ¬ IsFirstLong kind bytes (record_size body) at size)
    → (at size : ℕ) → ¬ IsTooLongIn body at size
no_long_in body kind bytes k b none at size long =
    none at size (subst (λ x. IsFirstLong x bytes (record_size body) at size) (some_same long.0 kind (sym long.2 ∙ k)) (subst (λ x. IsFirstLong long.0 x (record_size body) at size) (some_same long.1 bytes (sym long.3 ∙ b)) long.5))
