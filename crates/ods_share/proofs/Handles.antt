-- A row of handles, one more, and a row of viewers, one less.
use Rattle.std.proofs.Common.{◌≡◌, ◌<◌, ◌+◌, ℕ, List, [], ◌∷◌, ◌++◌, length, drop, get_or, arith, sym, ap, ◌∙◌, subst, length-append}
use Rattle.std.specs.Prelude.{◌≤◌, slice_index_or, Result, Option, Some, None, option_to_list}
use Rattle.std.specs.declared.alloc.AllocError.{AllocError}
use Rattle.std.specs.declared.thread.PromisedHandle.{PromisedHandle}
use Rattle.ods_share.specs.declared.threads.OfScript.{OfScript}
use Rattle.ods_share.specs.declared.session.Sat.{Sat}
use Rattle.ods_ask.specs.declared.script.Script.{Script}
use Rattle.std.proofs.lemmas.List.{drop_more, get_or_append_left, get_or_default, get_or_push}
use Rattle.ods_views.specs.Viewers.{Viewed, newly}
use native.Mathlib.Decide.{dec_lt}

-- the handle of a session's thread
abbrev pub Handle : Type 0 → Type 0 → Type 0 → Type 0
Handle J K L = PromisedHandle (Result (Sat K L) AllocError) (OfScript J K)

pub one_longer : {J K L : Type 0} (was now : List (Handle J K L)) (h : Handle J K L) → now ≡ was ++ h ∷ [] → length now ≡ length was + 1
one_longer was now h is = ap length is ∙ length-append was (h ∷ [])

-- what is true of each element by its place stays so where one more comes, of which it is true
pub each_snoc : {X : Type 0} (P : ℕ → X → Type 0) (xs : List X) (x : X) → ((k : ℕ) (d : X) → k < length xs → P k (get_or xs k d)) → P (length xs) x → (k : ℕ) (d : X) → k < length xs + 1 → P k (get_or (xs ++ x ∷ []) k d)
each_snoc P xs x each last k d lt = by_place (dec_lt k (length xs))
  where
    by_place : Dec (k < length xs) → P k (get_or (xs ++ x ∷ []) k d)
    by_place (yes before) = subst (P k) (sym (get_or_append_left xs (x ∷ []) d k before)) (each k d before)
    by_place (no not_before) =
        let here : length xs ≡ k = omega arith in
        subst (P k) (sym (get_or_push xs x d k here)) (subst (λ i. P i x) here last)

-- handle k is that of script k, with this stamp and with viewer k
abbrev Tied : {J K L : Type 0} → List Script → List ℕ → List Viewed → ℕ → Handle J K L → Type 0
Tied scripts stamp viewers k h =
    (s : Script) → (h.promise.script.value ≡ slice_index_or scripts k s) × (h.promise.stamp.value ≡ stamp) × (h.promise.viewer.value ≡ slice_index_or viewers k (newly []))

pub tied_snoc : {J K L : Type 0} (scripts : List Script) (stamp : List ℕ) (viewers : List Viewed) (was now : List (Handle J K L)) (h : Handle J K L) (n : ℕ) (script : Script)
    → now ≡ was ++ h ∷ [] → length was ≡ n → n < length scripts → script ≡ get_or scripts n script
    → (h.promise.script.value ≡ script) × (h.promise.stamp.value ≡ stamp) × (h.promise.viewer.value ≡ slice_index_or viewers n (newly []))
    → ((k : ℕ) (d : Handle J K L) (s : Script) → k < n → ((slice_index_or was k d).promise.script.value ≡ slice_index_or scripts k s) × ((slice_index_or was k d).promise.stamp.value ≡ stamp) × ((slice_index_or was k d).promise.viewer.value ≡ slice_index_or viewers k (newly [])))
    → (k : ℕ) (d : Handle J K L) (s : Script) → k < n + 1 → ((slice_index_or now k d).promise.script.value ≡ slice_index_or scripts k s) × ((slice_index_or now k d).promise.stamp.value ≡ stamp) × ((slice_index_or now k d).promise.viewer.value ≡ slice_index_or viewers k (newly []))
tied_snoc scripts stamp viewers was now h n script is len inside at promised each k d s lt =
    let here : Tied scripts stamp viewers (length was) h = λ s'. rw len (promised.0 ∙ (at ∙ get_or_default scripts n script s' inside), promised.1, promised.2) in
    rw is (each_snoc (Tied scripts stamp viewers) was h (λ j e below s'. each j e s' (omega arith)) here k d (omega arith) s)

-- the next of a row of viewers is that of its place, and those behind it are what is left
pub next_of : {X : Type 0} (xs : List X) (i : ℕ) (o : Option X) (x d : X) (was rest : List X) → i < length xs → was ≡ drop i xs → was ≡ option_to_list o ++ rest → o ≡ Some x
    → (x ≡ slice_index_or xs i d) × (rest ≡ drop (i + 1) xs)
next_of {X} xs i o x d was rest inside is step some =
    let one : was ≡ x ∷ rest = step ∙ ap (λ (p : Option X). option_to_list p ++ rest) some in
    let both : x ∷ rest ≡ get_or xs i d ∷ drop (i + 1) xs = sym one ∙ (is ∙ drop_more xs i d inside) in
    (cc, cc)

-- one step takes one at most
pub one_at_most : {X : Type 0} (o : Option X) → length (option_to_list o) ≤ 1
one_at_most None = omega arith
one_at_most (Some x) = omega arith
