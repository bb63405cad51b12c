-- What was read early: what is taken, and what is added.
use Rattle.std.proofs.Common.{◌≡◌, ◌-◌, ◌≤◌, ◌∙◌, ℕ, refl, sym, ap, subst, List, [], ◌∷◌, ◌++◌, get_or, slice_get, remove, Option, Some, Result, Ok, Err, IfOk, IfErr, MatchOption, MatchResult, string_bytes, vec_len}
use Rattle.std.proofs.lemmas.Option.{same_Some, get_or_from_slice_get}
use Rattle.f11fs.specs.Given.{Bytes, HostGives}
use Rattle.f11fs.specs.Readings.{AddsReading}
use Rattle.f11fs.specs.declared.early.Early.{Early}
use Rattle.f11fs.specs.declared.early.OtherImage.{OtherImage}
use Rattle.f11fs.specs.declared.early.Taken.{Taken}

-- the one at the place is taken
pub taken_there : (items news : List Taken) (p place : ℕ) (one result : Taken) (first r : Option ℕ) → r ≡ first → r ≡ Some p → news ≡ remove items p → result ≡ get_or items p result
    → first ≡ Some place → slice_get items place ≡ Some one → (Some result.bytes ≡ Some one.bytes) × (news ≡ remove items place)
taken_there items news p place one result first r e f left value g at =
    let same : p ≡ place = same_Some p place (sym f ∙ e ∙ g) in
    let got : get_or items place result ≡ one = get_or_from_slice_get items place one result at in
    let is : result ≡ one = value ∙ ap (λ k. get_or items k result) same ∙ got in
    (ap (λ (t : Taken). Some t.bytes) is, left ∙ ap (λ k. remove items k) same)

-- the image at the place is taken
pub image_there : (items news : List OtherImage) (p place : ℕ) (one result : OtherImage) (first r : Option ℕ) → r ≡ first → r ≡ Some p → news ≡ remove items p → result ≡ get_or items p result
    → first ≡ Some place → slice_get items place ≡ Some one → (Some result.opened ≡ Some one.opened) × (news ≡ remove items place)
image_there items news p place one result first r e f left value g at =
    let same : p ≡ place = same_Some p place (sym f ∙ e ∙ g) in
    let got : get_or items place result ≡ one = get_or_from_slice_get items place one result at in
    let is : result ≡ one = value ∙ ap (λ k. get_or items k result) same ∙ got in
    (ap (λ (t : OtherImage). Some t.opened) is, left ∙ ap (λ k. remove items k) same)

both : {V E : Type 0} (bytes : Result V E) (Given : V → Type 0) (size : V → ℕ) (room left : ℕ) (new : Option ℕ) → IfOk bytes Given → IfOk bytes (λ b. size b ≤ room) → MatchResult bytes (λ b. left ≡ room - size b) (λ _. left ≡ room) → new ≡ Some left
    → IfOk bytes (λ b. Given b × (size b ≤ room) × (new ≡ Some (room - size b))) × IfErr bytes (λ _. new ≡ Some room)
both (Ok b) Given size room left new given few is e = ((given, few, e ∙ ap (λ n. Some n) is), tt)
both (Err x) Given size room left new given few is e = (tt, e ∙ ap (λ n. Some n) is)

-- what was read is added
pub adds : (G : HostGives) (path : List ℕ) (old new : Early) (room left : ℕ) (one : Taken) → old.room ≡ Some room → new.taken.items ≡ old.taken.items ++ one ∷ [] → string_bytes one.path ≡ path
    → new.images ≡ old.images → IfOk one.bytes (λ bytes. G path (Bytes bytes.items)) → IfOk one.bytes (λ bytes. vec_len bytes ≤ room) → MatchResult one.bytes (λ bytes. left ≡ room - vec_len bytes) (λ _. left ≡ room) → new.room ≡ Some left → AddsReading G path old new
adds G path old new room left one begins items at others given few is e =
    let counted = both one.bytes (λ bytes. G path (Bytes bytes.items)) (λ bytes. vec_len bytes) room left new.room given few is e in
    subst (λ (r : Option ℕ). MatchOption r (new ≡ old) (λ room. (one : Taken) × (new.taken.items ≡ old.taken.items ++ one ∷ []) × (string_bytes one.path ≡ path) × (new.images ≡ old.images)
    × IfOk one.bytes (λ bytes. G path (Bytes bytes.items) × (vec_len bytes ≤ room) × (new.room ≡ Some (room - vec_len bytes))) × IfErr one.bytes (λ _. new.room ≡ Some room)))
    (sym begins) (one, items, at, others, counted.0, counted.1)
