-- Where the text of a name is cut: at its first `.`, and at the first `;` behind it.
use Rattle.std.proofs.Common.{◌≡◌, ◌≢◌, ℕ, ◌+◌, ◌<◌, List, ◌∷◌, ◌++◌, length, take, drop, get_or, refl, sym, ap, ◌∙◌, arith, inl, inr}
use Rattle.std.proofs.lemmas.Bool.{cases_order}
use Rattle.std.proofs.lemmas.List.{take-append-drop, take_at, drop_at, drop_more, length-append, length-take, get_or_append_left, get_or-append-add, get_or-take, get_or_default, get_or-drop, length-drop, drop-drop}
use Rattle.std.specs.List.{All}
use Rattle.std.proofs.lemmas.Bool.{eqb-true, eqb-false}
use Rattle.ods_text.specs.Cuts.{is, IsFirst}
use Rattle.ods_base.specs.NameParts.{FallsInto}

-- what stands before the place of the first c has none
none_before : (c : ℕ) (xs : List ℕ) (n : ℕ) → IsFirst (is c) xs n → All (λ x. x ≢ c) (take n xs)
none_before c xs n place k d h e =
    let below : k < n = omega (arith, length-take n xs) in
    let same : get_or (take n xs) k d ≡ get_or xs k 0 = get_or-take n xs k d below ∙ get_or_default xs k d 0 (omega (arith, place.within)) in
    eqb-false (get_or xs k 0) c (place.before k below) (sym same ∙ e)

-- where a list without c goes on with c, or ends, is the place of the first c
place_between : (c : ℕ) (xs ys : List ℕ) (n : ℕ) → All (λ x. x ≢ c) xs → (0 < length ys → get_or ys 0 0 ≡ c) → IsFirst (is c) (xs ++ ys) n → n ≡ length xs
place_between c xs ys n none next place =
    let size : length (xs ++ ys) ≡ length xs + length ys = length-append xs ys in
    elim (cases_order n (length xs)) [
      | inl e ↦ e
      | inr (inl below) ↦ absurd (none n 0 below (sym (get_or_append_left xs ys 0 n below) ∙ eqb-true (get_or (xs ++ ys) n 0) c (place.found (omega arith))))
      | inr (inr above) ↦
          let there : get_or (xs ++ ys) (length xs) 0 ≡ get_or ys 0 0 = ap (λ k. get_or (xs ++ ys) k 0) (omega arith) ∙ get_or-append-add xs ys 0 0 in
          absurd (eqb-false (get_or (xs ++ ys) (length xs) 0) c (place.before (length xs) above) (there ∙ next (omega (arith, place.within))))
    ]

-- a text that falls into parts has a `.`
pub has_dot : (text name ext behind : List ℕ) (dot : ℕ) → FallsInto text name ext behind → IsFirst (is 46) text dot → (dot ≡ length name) × (dot < length text)
has_dot text name ext behind dot falls place =
    let there : IsFirst (is 46) (name ++ 46 ∷ (ext ++ behind)) dot = rw falls.whole at place in
    let e : dot ≡ length name = place_between 46 name (46 ∷ (ext ++ behind)) dot falls.name_end (λ _. refl) there in
    (e, omega (arith, ap length falls.whole ∙ length-append name (46 ∷ (ext ++ behind))))

-- what the text is cut into
pub cut : (text rest : List ℕ) (dot end : ℕ) → rest ≡ drop (dot + 1) text → dot < length text → IsFirst (is 46) text dot → IsFirst (is 59) rest end → FallsInto text (take dot text) (take end rest) (drop end rest)
cut text rest dot end e within place behind = record {
  whole =
      let at_dot : drop dot text ≡ 46 ∷ rest = drop_more text dot 0 within ∙ ap (λ c. c ∷ drop (dot + 1) text) (eqb-true (get_or text dot 0) 46 (place.found within)) ∙ ap (λ l. 46 ∷ l) (sym e) in
      sym (take-append-drop dot text) ∙ ap (λ l. take dot text ++ l) (at_dot ∙ ap (λ l. 46 ∷ l) (sym (take-append-drop end rest)));
  name_end = none_before 46 text dot place;
  ext_end = none_before 59 rest end behind;
  behind_start = λ some. get_or-drop end rest 0 0 ∙ ap (λ k. get_or rest k 0) (omega arith) ∙ eqb-true (get_or rest end 0) 59 (behind.found (omega (arith, length-drop end rest)));
}

-- it falls into nothing else
pub cut_once : (text rest name ext behind : List ℕ) (dot end : ℕ) → rest ≡ drop (dot + 1) text → IsFirst (is 46) text dot → IsFirst (is 59) rest end → FallsInto text name ext behind → (take dot text ≡ name) × (take end rest ≡ ext) × (drop end rest ≡ behind)
cut_once text rest name ext behind dot end e place last falls =
    let n : dot ≡ length name = (has_dot text name ext behind dot falls place).0 in
    let front : take dot text ≡ name = ap (take dot) falls.whole ∙ take_at name (46 ∷ (ext ++ behind)) dot (sym n) in
    let at_dot : drop dot text ≡ 46 ∷ (ext ++ behind) = ap (drop dot) falls.whole ∙ drop_at name (46 ∷ (ext ++ behind)) dot (sym n) in
    let back : rest ≡ ext ++ behind = e ∙ sym (drop-drop 1 dot text) ∙ ap (drop 1) at_dot in
    let there : IsFirst (is 59) (ext ++ behind) end = rw back at last in
    let m : end ≡ length ext = place_between 59 ext behind end falls.ext_end falls.behind_start there in
    (front, ap (take end) back ∙ take_at ext behind end (sym m), ap (drop end) back ∙ drop_at ext behind end (sym m))
