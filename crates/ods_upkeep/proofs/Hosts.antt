-- A host file that gets no name, or is not put.
use Rattle.std.proofs.Common.{◌≡◌, refl, sym, subst, ℕ, Bool, true, List, Option, None}
use Rattle.ods_base.specs.Name.{RadName}
use Rattle.ods_base.specs.declared.file_id.FileId.{FileId}
use Rattle.ods_space.specs.Layout.{VolumeLayout}
use Rattle.ods_records.specs.declared.near.NearText.{NearText}
use Rattle.ods_paths.specs.Patterns.{capitals}
use Rattle.ods_filing.specs.Filed.{Filed}
use Rattle.ods_upkeep.specs.Before.{IsBefore}
use Rattle.ods_upkeep.specs.HostNames.{IsNoName, IsTyped, IsUntyped, title_of, type_of}
use Rattle.ods_upkeep.specs.HostPut.{IsFormFor, IsFormOf, IsFormerFor, IsFormerOf}
use Rattle.ods_upkeep.specs.Kept.{IsKept, IsNotKept}
use Rattle.ods_upkeep.specs.Left.{InPut, replaced_version}
use Rattle.ods_upkeep.specs.Refused.{no_memory}
use Rattle.ods_upkeep.specs.Remarks.{AreSeen, IsRemarkOn, changed_from}
use Rattle.ods_upkeep.specs.Target.{IsNoName as SpellsNone}
use Rattle.ods_upkeep.specs.Unput.{IsNoHostName, IsNotPut, IsNotStored, MayBeCalled, no_name, unread, unremarked, unspelled, unstored, untyped}
use Rattle.ods_upkeep.specs.Written.{IsWritten}
use Rattle.ods_upkeep.specs.declared.asked.PutForm.{PutForm}
use Rattle.ods_upkeep.specs.declared.failure.Why.{Why}
use Rattle.ods_upkeep.specs.declared.failure.Why.TheVariants.{BadName, Put}
use Rattle.ods_upkeep.specs.declared.put_fault.PutFault.TheVariants.{Untyped}

-- The bytes of the name are looked at.
module _ (host bytes : List ℕ) (same : bytes ≡ host) where
  some : ¬ IsNoName bytes → ¬ IsNoName host
  some other none = other (subst IsNoName (sym same) none)

  -- they are no name
  pub is_no_name : IsNoName bytes → IsNoHostName host BadName
  is_no_name none = no_name (subst IsNoName same none)

  -- one of them is not typed
  pub is_untyped : (c : ℕ) → ¬ IsNoName bytes → IsUntyped bytes c → IsNoHostName host (Put (Untyped c))
  is_untyped c other has = untyped c (some other) (subst (λ b. IsUntyped b c) same has)

  -- their two parts spell none
  pub is_unspelled : (why : Why) (title kind : List ℕ) → ¬ IsNoName bytes → IsTyped bytes → (title ≡ title_of bytes) × (kind ≡ type_of bytes) → SpellsNone (capitals title) (capitals kind) why → IsNoHostName host why
  is_unspelled why title kind other typed are none =
      unspelled why (some other) (subst IsTyped same typed)
      (subst (λ t. SpellsNone (capitals (title_of t)) (capitals (type_of t)) why) same
      (subst (λ k. SpellsNone (capitals (title_of bytes)) (capitals k) why) are.1 (subst (λ t. SpellsNone (capitals t) (capitals kind) why) are.0 none)))

-- what is so of the fields is so of the value
pub not_put_of : (why : Why) {p q : InPut} (host bytes : List ℕ) (old new : Filed) → p ≡ q → IsNotPut p host bytes old new why → IsNotPut q host bytes old new why
not_put_of why host bytes old new same none = subst (λ v. IsNotPut v host bytes old new why) same none

-- something is to be remarked, and there is no memory for it
pub remark_fails : (why : Why) (p : InPut) (host bytes : List ℕ) (f : Filed) (name : RadName) (chosen : PutForm) (own former : Option (List ℕ)) (attributes stored : List ℕ) (completed : Bool) (near : Option NearText) → MayBeCalled p host name
    → IsFormOf p name bytes f chosen own → IsFormerOf p name bytes f former → IsWritten chosen own bytes attributes stored → AreSeen chosen own bytes completed near
    → (why ≡ no_memory) × ¬ IsRemarkOn (changed_from former attributes) completed near None → IsNotPut p host bytes f f why
remark_fails why p host bytes f name chosen own former attributes stored completed near may formed left written seen none =
    subst (IsNotPut p host bytes f f) (sym none.0) (unremarked name chosen own former attributes stored completed near may formed left written seen none.1 refl)

-- the names of the directory are not read
pub form_fails : (why : Why) (p : InPut) (host bytes : List ℕ) (f : Filed) (name : RadName) → MayBeCalled p host name → (why ≡ no_memory) × (p.keeps ≡ true) → IsNotPut p host bytes f f why
form_fails why p host bytes f name may none = subst (IsNotPut p host bytes f f) (sym none.0) (unread name may none.1 refl)

-- what is written is not put under the name
pub store_fails : (why : Why) {p q : InPut} (host bytes : List ℕ) (old new : Filed) (name : RadName) (chosen : PutForm) (own : Option (List ℕ)) (attributes stored : List ℕ) → p ≡ q → MayBeCalled p host name
    → IsFormOf p name bytes old chosen own → IsWritten chosen own bytes attributes stored → IsNotStored q name attributes stored old new why → IsNotPut q host bytes old new why
store_fails why host bytes old new name chosen own attributes stored same may formed written none =
    unstored why name chosen own attributes stored (subst (λ v. MayBeCalled v host name) same may) (subst (λ (v : InPut). IsFormOf v name bytes old chosen own) same formed) written none

-- the form is that after the version before, as the blocks show it
pub form_kept : (keeps : Bool) (form : PutForm) (like : Option (List ℕ)) (dir : FileId) (name : RadName) (names : Option (List ℕ)) (said picked : Option ℕ) (bytes : List ℕ) (f : Filed) (I : List (List ℕ)) (L : VolumeLayout)
    (before : Option (List ℕ)) (chosen : PutForm) (own : Option (List ℕ)) → keeps ≡ true → I ≡ f.image → L ≡ f.layout → picked ≡ replaced_version names said → IsBefore I L dir.number name picked before → IsKept before bytes chosen own
    → IsFormFor keeps form like dir name names said bytes f chosen own
form_kept keeps form like dir name names said picked bytes f I L before chosen own is image layout picks found kept =
    subst (λ (b : Bool). IsFormFor b form like dir name names said bytes f chosen own) (sym is) (
      before,
      subst (λ (J : List (List ℕ)). IsBefore J f.layout dir.number name (replaced_version names said) before) image
          (subst (λ (M : VolumeLayout). IsBefore I M dir.number name (replaced_version names said) before) layout (subst (λ (o : Option ℕ). IsBefore I L dir.number name o before) picks found)),
      kept,
    )

-- the form that is not kept is that of the version before, as the blocks show it
pub former_kept : (keeps : Bool) (dir : FileId) (name : RadName) (names : Option (List ℕ)) (said picked : Option ℕ) (bytes : List ℕ) (f : Filed) (I : List (List ℕ)) (L : VolumeLayout)
    (before former : Option (List ℕ)) → keeps ≡ true → I ≡ f.image → L ≡ f.layout → picked ≡ replaced_version names said → IsBefore I L dir.number name picked before → IsNotKept before bytes former
    → IsFormerFor keeps dir name names said bytes f former
former_kept keeps dir name names said picked bytes f I L before former is image layout picks found left =
    subst (λ (b : Bool). IsFormerFor b dir name names said bytes f former) (sym is) (
      before,
      subst (λ (J : List (List ℕ)). IsBefore J f.layout dir.number name (replaced_version names said) before) image
          (subst (λ (M : VolumeLayout). IsBefore I M dir.number name (replaced_version names said) before) layout (subst (λ (o : Option ℕ). IsBefore I L dir.number name o before) picks found)),
      left,
    )
