-- What was read early is what the host gives.
use Rattle.std.proofs.Common.{◌≡◌, ◌-◌, ◌≤◌, ◌∙◌, ℕ, suc, sym, ap, subst, true, List, [], ◌∷◌, ◌++◌, take, drop, get_or, slice_get, remove, Option, Some, None, Result, Ok, IfOk, IfErr, MatchOption, inl, inr, Bor, string_bytes, vec_len}
use Rattle.std.specs.List.{All, position}
use Rattle.std.specs.Str.{bytes_eq}
use Rattle.std.proofs.lemmas.List.Elements.{All-append, All-drop, All-get_or, All-nil, All-push, All-take}
use Rattle.std.proofs.lemmas.List.Quantifiers.{position-Some}
use Rattle.std.proofs.lemmas.Option.{get_or_from_slice_get, slice_get-get_or, slice_get_within}
use Rattle.std.proofs.lemmas.Result.{IfOk-weaker}
use Rattle.std.proofs.lemmas.Slice.Eq.{bytes_eq-Decides}
use Rattle.fs_host.specs.declared.containers.Extent.{Extent}
use Rattle.fs_reads.specs.Readable.{IsReadableOf, Opened}
use Rattle.fs_reads.specs.declared.volume.VolumeFault.{VolumeFault}
use Rattle.f11fs.specs.Given.{AreTaken, Bytes, GivesVolume, HostGives, IsImageTaken, IsTaken, Volume}
use Rattle.f11fs.specs.Readings.{MayAddImage, MayAddReading, MayAddReadings, first_at, first_image}
use Rattle.f11fs.specs.declared.early.Early.{Early}
use Rattle.f11fs.specs.declared.early.OtherImage.{OtherImage}
use Rattle.f11fs.specs.declared.early.Taken.{Taken}

-- nothing is read yet
pub none_taken : (G : HostGives) (early : Early) → early.taken.items ≡ [] → early.images.items ≡ [] → AreTaken G early
none_taken G early none no_image = (
  subst (λ (ts : List Taken). All (IsTaken G) ts) (sym none) (All-nil (IsTaken G)),
  subst (λ (ts : List OtherImage). All (IsImageTaken G) ts) (sym no_image) (All-nil (IsImageTaken G)),
)

added : (G : HostGives) (path : List ℕ) (old new : Early) (r : Option ℕ) → AreTaken G old
    → MatchOption r (new ≡ old) (λ room. (one : Taken) × (new.taken.items ≡ old.taken.items ++ one ∷ []) × (string_bytes one.path ≡ path) × (new.images ≡ old.images)
    × IfOk one.bytes (λ bytes. G path (Bytes bytes.items) × (vec_len bytes ≤ room) × (new.room ≡ Some (room - vec_len bytes))) × IfErr one.bytes (λ _. new.room ≡ Some room))
    → AreTaken G new
added G path old new None had same = subst (λ (e : Early). AreTaken G e) (sym same) had
added G path old new (Some room) had is =
    let one = is.0 in
    let given : IfOk one.bytes (λ bytes. G path (Bytes bytes.items)) = IfOk-weaker one.bytes _ _ (λ bytes all. all.0) is.4 in (
      subst (λ (ts : List Taken). All (IsTaken G) ts) (sym is.1) (All-push (IsTaken G) old.taken.items one had.0 (subst (λ (p : List ℕ). IfOk one.bytes (λ bytes. G p (Bytes bytes.items))) (sym is.2) given)),
      subst (λ (ts : List OtherImage). All (IsImageTaken G) ts) (sym (ap (λ v. v.items) is.3)) had.1,
    )

-- one more file may be read
pub taken_one : (G : HostGives) (path : List ℕ) (old new : Early) → AreTaken G old → MayAddReading G path old new → AreTaken G new
taken_one G path old new had (inl same) = subst (λ (e : Early). AreTaken G e) (sym same) had
taken_one G path old new had (inr adds) = added G path old new old.room had adds

-- some more files may be read
pub taken_on : (G : HostGives) (paths : List (Bor (List ℕ))) (old new : Early) → AreTaken G old → MayAddReadings G paths old new → AreTaken G new
taken_on G [] old new had same = subst (λ (e : Early). AreTaken G e) (sym same) had
taken_on G (path ∷ paths) old new had more = taken_on G paths more.0 new (taken_one G path.now old more.0 had more.1) more.2

-- one more image may be read
pub image_one : (G : HostGives) (path : List ℕ) (old new : Early) → AreTaken G old → MayAddImage G path old new → AreTaken G new
image_one G path old new had (inl same) = subst (λ (e : Early). AreTaken G e) (sym same) had
image_one G path old new had (inr is) = (
  subst (λ (ts : List Taken). All (IsTaken G) ts) (sym (ap (λ v. v.items) is.4)) had.0,
  subst (λ (ts : List OtherImage). All (IsImageTaken G) ts) (sym is.1) (All-push (IsImageTaken G) old.images.items is.0 had.1 (subst (λ (p : List ℕ). IfOk is.0.opened (λ opened. G p (Volume opened.0))) (sym is.2) is.3)),
)

-- the element that a search by path finds is at that index, and has that path
there : {T : Type 0} (path_of : T → List ℕ) (items : List T) (path : List ℕ) (place : ℕ) (one : T) (r : Option ℕ) → r ≡ position (λ one. bytes_eq (path_of one) path) items → r ≡ Some place → one ≡ get_or items place one
    → (slice_get items place ≡ Some one) × (path_of one ≡ path)
there {T} path_of items path place one r first is value =
    let found = position-Some (λ (t : T). bytes_eq (path_of t) path) items place one (sym first ∙ is) in (
      slice_get-get_or items place one found.0 ∙ ap (λ (t : T). Some t) (sym value),
      (bytes_eq-Decides (path_of one) path).0 (subst (λ (t : T). bytes_eq (path_of t) path ≡ true) (sym value) found.1),
    )

-- what is found at a path was read from it
pub read_there : (items : List Taken) (path : List ℕ) (place : ℕ) (one : Taken) (r : Option ℕ) → r ≡ first_at path items → r ≡ Some place → one ≡ get_or items place one
    → (slice_get items place ≡ Some one) × (string_bytes one.path ≡ path)
read_there = there (λ (t : Taken). string_bytes t.path)

-- the image that is found at a path was read from it
pub image_found : (items : List OtherImage) (path : List ℕ) (place : ℕ) (one : OtherImage) (r : Option ℕ) → r ≡ first_image path items → r ≡ Some place → one ≡ get_or items place one
    → (slice_get items place ≡ Some one) × (string_bytes one.path ≡ path)
image_found = there (λ (t : OtherImage). string_bytes t.path)

-- each element that is left, and the one that is removed, is as all were
out_of : {T : Type 0} (Is : T → Type 0) (items news : List T) (place : ℕ) (one : T) → All Is items → slice_get items place ≡ Some one → news ≡ remove items place → Is one × All Is news
out_of {T} Is items news place one had at left = (
  subst (λ (t : T). Is t) (get_or_from_slice_get items place one one at) (All-get_or Is items place one (slice_get_within items place one at) had),
  subst (λ (ts : List T). All Is ts) (sym left) (All-append Is (take place items) (drop (suc place) items) (All-take Is place items had) (All-drop Is (suc place) items had)),
)

-- what is taken is given by the file, and so is what is left
pub taken_out : (G : HostGives) (path : List ℕ) (old new : Early) (place : ℕ) (one : Taken) → AreTaken G old → slice_get old.taken.items place ≡ Some one → string_bytes one.path ≡ path
    → new.taken.items ≡ remove old.taken.items place → new.images ≡ old.images → IfOk one.bytes (λ bytes. G path (Bytes bytes.items)) × AreTaken G new
taken_out G path old new place one had at named left others =
    let both = out_of (IsTaken G) old.taken.items new.taken.items place one had.0 at left in (
      subst (λ (p : List ℕ). IfOk one.bytes (λ bytes. G p (Bytes bytes.items))) named both.0,
      (both.1, subst (λ (ts : List OtherImage). All (IsImageTaken G) ts) (sym (ap (λ v. v.items) others)) had.1),
    )

-- the volume that is taken is given by the image, and what is left is given too
pub image_out : (G : HostGives) (path : List ℕ) (old new : Early) (place : ℕ) (one : OtherImage) → AreTaken G old → slice_get old.images.items place ≡ Some one → string_bytes one.path ≡ path
    → new.images.items ≡ remove old.images.items place → new.taken ≡ old.taken → IfOk one.opened (λ opened. G path (Volume opened.0)) × AreTaken G new
image_out G path old new place one had at named left others =
    let both = out_of (IsImageTaken G) old.images.items new.images.items place one had.1 at left in (
      subst (λ (p : List ℕ). IfOk one.opened (λ opened. G p (Volume opened.0))) named both.0,
      (subst (λ (ts : List Taken). All (IsTaken G) ts) (sym (ap (λ v. v.items) others)) had.0, both.1),
    )

-- the volume that is read is the one that the image gives
pub volume_given : (G : HostGives) (path : List ℕ) (opened : Result (List (List ℕ) × Option Extent) VolumeFault) (r : Opened) → IfOk opened (λ it. G path (Volume it.0)) → IsReadableOf opened r → GivesVolume G path r.image r.layout
volume_given G path opened r given is = (subst (λ (o : Result (List (List ℕ) × Option Extent) VolumeFault). IfOk o (λ it. G path (Volume it.0))) is.1 given, is.2.1)
