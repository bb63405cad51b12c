-- The remark on a host file that is put.
use Rattle.std.specs.Prelude.{◌≡◌, ◌≢◌, ◌⊎◌, ◌<◌, ◌-◌, ◌↔◌, ◌==◌, ◌%◌, ◌&&◌, ◌||◌, if◌then◌else◌, ℕ, Bool, true, false, List, ◌++◌, length, slice_index, codes, Option, Some, None, IfNone, IfSome, IsSome, IsTrue, MatchOption, String}
use Rattle.std.specs.String.{string_bytes}
use Rattle.std.specs.declared.alloc.Global.{Global}
use Rattle.ods_files.specs.Body.{are_zeros}
use Rattle.ods_records.specs.Near.{IsNear}
use Rattle.ods_records.specs.declared.near.NearText.{NearText}
use Rattle.ods_upkeep.specs.Written.{ArePutAsText, IsWritten}
use Rattle.ods_upkeep.specs.declared.asked.PutForm.{PutForm}
use Rattle.ods_upkeep.specs.declared.asked.PutForm.TheVariants as form

-- the last line has no LF
abbrev pub IsUnended : List ℕ → Type 0
IsUnended bytes = (0 < length bytes) × (slice_index bytes (length bytes - 1) ≢ 10)

-- what bytes lack to be put as records, if it is only one thing
abbrev pub IsLackOf : List ℕ → Option NearText → Type 0
IsLackOf bytes near = IfSome near (IsNear bytes) × IfNone near ((other : NearText) → ¬ IsNear bytes other)

-- It is determined if no form is given, and no model file.
abbrev pub IsLack : PutForm → Option (List ℕ) → List ℕ → Option NearText → Type 0
IsLack form.ByContents None bytes near = IsLackOf bytes near
IsLack form.ByContents (Some like) bytes near = near ≡ None
IsLack form.Text like bytes near = near ≡ None
IsLack form.Binary like bytes near = near ≡ None
IsLack (form.Said four) like bytes near = near ≡ None

-- for bytes that are put as records, whether the last line became one though it has no LF; for bytes that are put unchanged, what they lack
abbrev pub AreSeenByContents : PutForm → Option (List ℕ) → List ℕ → Bool → Option NearText → Type 0
AreSeenByContents asked like bytes completed near =
    (ArePutAsText asked like bytes × (IsTrue completed ↔ IsUnended bytes) × (near ≡ None))
    ⊎ ((¬ ArePutAsText asked like bytes) × (completed ≡ false) × IsLack asked like bytes near)

-- nothing is determined for bytes that are put in a given form
abbrev pub IsNothingSeen : Bool → Option NearText → Type 0
IsNothingSeen completed near = (completed ≡ false) × (near ≡ None)

-- the findings about the bytes of a host file
abbrev pub AreSeen : PutForm → Option (List ℕ) → List ℕ → Bool → Option NearText → Type 0
AreSeen (form.Said four) like bytes completed near = IsNothingSeen completed near
AreSeen form.Binary (Some own) bytes completed near = IsNothingSeen completed near
AreSeen form.Binary None bytes completed near = AreSeenByContents form.Binary None bytes completed near
AreSeen form.Text like bytes completed near = AreSeenByContents form.Text like bytes completed near
AreSeen form.ByContents like bytes completed near = AreSeenByContents form.ByContents like bytes completed near

-- the same record type, which is in the four lowest bits of F.RTYP, and the same four lowest bits of F.RATT
abbrev pub is_same_form : List ℕ → List ℕ → Bool
is_same_form former attributes = (slice_index former 0 % 16 == slice_index attributes 0 % 16) && (slice_index former 1 % 16 == slice_index attributes 1 % 16)

-- the attributes of the version before, if they state a form and the file has another one
abbrev pub changed_from : Option (List ℕ) → List ℕ → Option (List ℕ)
changed_from None attributes = None
changed_from (Some former) attributes = if are_zeros former || is_same_form former attributes then None else Some former

-- how the remark on a changed form begins
abbrev pub BeginsChanged : List ℕ → Type 0
BeginsChanged text = (rest : List ℕ) × (text ≡ codes "the form changed from " ++ rest)

-- The remark on the findings. If the form has changed it states this first. Otherwise it is the text of the first finding, some text of the other, and
-- otherwise none.
abbrev pub IsRemarkOn : Option (List ℕ) → Bool → Option NearText → Option (String Global) → Type 0
IsRemarkOn (Some former) completed near remark = MatchOption remark ⊥ (λ text. BeginsChanged (string_bytes text))
IsRemarkOn None true near remark = MatchOption remark ⊥ (λ text. string_bytes text ≡ codes "the last line has no LF, and became a record")
IsRemarkOn None false (Some lack) remark = IsSome remark
IsRemarkOn None false None remark = remark ≡ None

-- the remark on a host file, after a version with these attributes if the form of one is not kept
abbrev pub IsRemark : PutForm → Option (List ℕ) → Option (List ℕ) → List ℕ → Option (String Global) → Type 0
IsRemark asked like former bytes remark =
    (attributes stored : List ℕ) × IsWritten asked like bytes attributes stored
    × ((completed : Bool) × ((near : Option NearText) × AreSeen asked like bytes completed near × IsRemarkOn (changed_from former attributes) completed near remark))
