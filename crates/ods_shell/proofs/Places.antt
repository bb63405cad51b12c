-- What is promised of a success, said otherwise; and what stands at a place.
use Rattle.std.proofs.Common.{◌≡◌, ℕ, ◌<◌, List, refl, length, get_or, slice_get, Some, Result, Ok, Err, OnOk}
use Rattle.std.proofs.lemmas.Option.{slice_get_read}

pub on_ok : {T E : Type 0} {P Q : Type 0} (r : Result T E) → (P → Q) → OnOk r P → OnOk r Q
on_ok (Ok x) gives holds = gives holds
on_ok (Err e) gives holds = tt

pub place_is : {X : Type 0} (xs : List X) (k : ℕ) (x : X) → k < length xs → x ≡ get_or xs k x → slice_get xs k ≡ Some x
place_is xs k x within is = slice_get_read xs _ k x refl within is
