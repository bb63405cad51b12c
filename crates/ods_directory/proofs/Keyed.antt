-- Lists of what has a key and a file: the file at a key, and what has one key twice.
use Rattle.std.proofs.Common.{◌≡◌, ◌≢◌, ℕ, zero, suc, ◌+◌, ◌<◌, ◌≤◌, Bool, true, false, cond, List, [], ◌∷◌, map, Option, Some, None, refl, sym, ap, ◌∙◌, subst, arith}
use Rattle.std.specs.List.{slice_get, sum_by, Contains}
use Rattle.std.specs.List.Sorted.{IsPermutation}
use Rattle.std.specs.Ordering.{nat_cmp}
use Rattle.std.specs.Cmp.Lexicographic.{slice_cmp}
use Rattle.std.specs.FinMap as names
use Rattle.std.proofs.lemmas.List.Sums.{sum_by-cons}
use Rattle.std.proofs.lemmas.List.Sorted.{sum_by-IsPermutation, Contains-permutation}
use Rattle.std.proofs.lemmas.Option.{same_Some, slice_get_within, slice_get-get_or, get_or_from_slice_get}
use Rattle.ods_base.specs.declared.file_id.FileId.{FileId}
use Rattle.ods_base.proofs.Picks.{key_itself, keys_same, same_key}
use Rattle.ods_directory.specs.Names.{HasTwoOf}

pub same_key-itself : (a b : List ℕ) → a ≡ b → same_key a b ≡ true
same_key-itself a b e = subst (λ x. same_key a x ≡ true) e (key_itself a)

pub same_key-apart : (a b : List ℕ) → a ≢ b → same_key a b ≡ false
same_key-apart a b apart = by (same_key a b) refl
  where
    by : (c : Bool) → same_key a b ≡ c → c ≡ false
    by true e = absurd (apart (keys_same a b e))
    by false e = refl

abbrev pub find : List ℕ → List (List ℕ × FileId) → Option FileId
find = names.find (slice_cmp nat_cmp)

pub same_option : (o p : Option FileId) → ((f : FileId) → o ≡ Some f → p ≡ Some f) → ((f : FileId) → p ≡ Some f → o ≡ Some f) → o ≡ p
same_option None None there back = refl
same_option None (Some f) there back = back f refl
same_option (Some f) p there back = sym (there f refl)

-- element i of the list is taken to y
pub record IsTakenTo {X Y : Type 0} (f : X → Y) (xs : List X) (i : ℕ) (y : Y) : Type 0 where
  pub element : X
  pub there : slice_get xs i ≡ Some element
  pub same : f element ≡ y

pub taken_to : {X Y : Type 0} (f : X → Y) (xs : List X) (i : ℕ) (y : Y) → slice_get (map f xs) i ≡ Some y → IsTakenTo f xs i y
taken_to f [] i y h = absurd (cc)
taken_to f (x ∷ xs) zero y h = record { element = x; there = refl; same = same_Some _ _ h }
taken_to f (x ∷ xs) (suc i) y h = let rest = taken_to f xs i y h in record { element = rest.element; there = rest.there; same = rest.same }

pub map_at : {X Y : Type 0} (f : X → Y) (xs : List X) (i : ℕ) (x : X) → slice_get xs i ≡ Some x → slice_get (map f xs) i ≡ Some (f x)
map_at f [] i x h = absurd (cc)
map_at f (y ∷ xs) zero x h = ap (λ z. Some (f z)) (same_Some _ _ h)
map_at f (y ∷ xs) (suc i) x h = map_at f xs i x h

module _ {X : Type 0} (key : X → List ℕ) (file : X → FileId) where
  abbrev pub pairs : List X → List (List ℕ × FileId)
  pairs xs = map (λ x. (key x, file x)) xs

  -- an element of the list with this key and this file
  pub record HasKey (xs : List X) (q : List ℕ) (f : FileId) : Type 0 where
    pub at : ℕ
    pub element : X
    pub there : slice_get xs at ≡ Some element
    pub key_is : key element ≡ q
    pub file_is : file element ≡ f

  -- no two elements have one key
  abbrev pub HasNoTwins : List X → Type 0
  HasNoTwins xs = (i j : ℕ) → i < j → (x y : X) → slice_get xs i ≡ Some x → slice_get xs j ≡ Some y → key x ≢ key y

  -- what is found is an element
  pub find_element : (xs : List X) (q : List ℕ) (f : FileId) → find q (pairs xs) ≡ Some f → HasKey xs q f
  find_element [] q f h = absurd (cc)
  find_element (x ∷ xs) q f h = by (same_key q (key x)) refl h (find_element xs q f)
    where
      by : (b : Bool) → same_key q (key x) ≡ b → cond b (Some (file x)) (find q (pairs xs)) ≡ Some f → (find q (pairs xs) ≡ Some f → HasKey xs q f) → HasKey (x ∷ xs) q f
      by true e g ih = record { at = 0; element = x; there = refl; key_is = sym (keys_same q (key x) e); file_is = same_Some _ _ g }
      by false e g ih = let rest = ih g in record { at = suc rest.at; element = rest.element; there = rest.there; key_is = rest.key_is; file_is = rest.file_is }

  -- an element is found, where no two have one key
  pub find_among : (xs : List X) (x : X) (i : ℕ) → HasNoTwins xs → slice_get xs i ≡ Some x → find (key x) (pairs xs) ≡ Some (file x)
  find_among [] x i h there = absurd (cc)
  find_among (y ∷ xs) x zero h there =
      let same : y ≡ x = same_Some _ _ there in
      ap (λ b. cond b (Some (file y)) (find (key x) (pairs xs))) (same_key-itself (key x) (key y) (ap key (sym same))) ∙ ap (λ z. Some (file z)) same
  find_among (y ∷ xs) x (suc i) h there =
      let apart : key x ≢ key y = λ g. h 0 (suc i) (omega arith) y x refl there (sym g) in
      ap (λ b. cond b (Some (file y)) (find (key x) (pairs xs))) (same_key-apart (key x) (key y) apart)
      ∙ find_among xs x i (λ j k below v w v_there w_there. h (suc j) (suc k) (omega arith) v w v_there w_there) there

  find_keyed : (xs : List X) (q : List ℕ) (f : FileId) → HasNoTwins xs → HasKey xs q f → find q (pairs xs) ≡ Some f
  find_keyed xs q f h there = subst (λ k. find k (pairs xs) ≡ Some (file there.element)) there.key_is (find_among xs there.element there.at h there.there) ∙ ap Some there.file_is

  moved : (xs ys : List X) (q : List ℕ) (f : FileId) → IsPermutation xs ys → HasKey xs q f → HasKey ys q f
  moved xs ys q f permuted h =
      let before : Contains xs h.element = (h.at, slice_get_within xs h.at h.element h.there, get_or_from_slice_get xs h.at h.element h.element h.there) in
      let now = Contains-permutation xs ys h.element permuted before in
      record { at = now.0; element = h.element; there = slice_get-get_or ys now.0 h.element now.1 ∙ ap Some now.2; key_is = h.key_is; file_is = h.file_is }

  -- two lists of the same elements find the same
  pub find_permuted : (xs ys : List X) (q : List ℕ) → IsPermutation xs ys → IsPermutation ys xs → HasNoTwins xs → HasNoTwins ys → find q (pairs xs) ≡ find q (pairs ys)
  find_permuted xs ys q there back alone_xs alone_ys = same_option (find q (pairs xs)) (find q (pairs ys))
      (λ f h. find_keyed ys q f alone_ys (moved xs ys q f there (find_element xs q f h)))
      (λ f h. find_keyed xs q f alone_xs (moved ys xs q f back (find_element ys q f h)))

module _ {X : Type 0} (key : X → List ℕ) where
  record HasOneOf (q : List ℕ) (xs : List X) : Type 0 where
    at : ℕ
    element : X
    there : slice_get xs at ≡ Some element
    same : key element ≡ q

  abbrev count : List ℕ → List X → ℕ
  count q = sum_by (λ x. cond (same_key q (key x)) 1 0)

  count_cons : (q : List ℕ) (x : X) (xs : List X) → count q (x ∷ xs) ≡ cond (same_key q (key x)) 1 0 + count q xs
  count_cons q x xs = sum_by-cons (λ y. cond (same_key q (key y)) 1 0) x xs

  one_at : (q : List ℕ) (x : X) (n : ℕ) → key x ≡ q → 1 + n ≤ cond (same_key q (key x)) 1 0 + n
  one_at q x n e = by (same_key q (key x)) (same_key-itself q (key x) (sym e))
    where
      by : (b : Bool) → b ≡ true → 1 + n ≤ cond b 1 0 + n
      by true h = omega arith
      by false h = absurd (cc)

  counts_one : (q : List ℕ) (xs : List X) (j : ℕ) (x : X) → slice_get xs j ≡ Some x → key x ≡ q → 1 ≤ count q xs
  counts_one q [] j x there e = absurd (cc)
  counts_one q (y ∷ xs) zero x there e =
      let same : y ≡ x = same_Some _ _ there in
      omega (arith, count_cons q y xs, one_at q y (count q xs) (ap key same ∙ e))
  counts_one q (y ∷ xs) (suc j) x there e = omega (arith, count_cons q y xs, counts_one q xs j x there e)

  counts_two : (q : List ℕ) (xs : List X) (i j : ℕ) (x y : X) → i < j → slice_get xs i ≡ Some x → slice_get xs j ≡ Some y → key x ≡ q → key y ≡ q → 2 ≤ count q xs
  counts_two q [] i j x y below first second e f = absurd (cc)
  counts_two q (z ∷ xs) i zero x y below first second e f = absurd (omega arith)
  counts_two q (z ∷ xs) zero (suc j) x y below first second e f =
      let same : z ≡ x = same_Some _ _ first in
      omega (arith, count_cons q z xs, one_at q z (count q xs) (ap key same ∙ e), counts_one q xs j y second f)
  counts_two q (z ∷ xs) (suc i) (suc j) x y below first second e f = omega (arith, count_cons q z xs, counts_two q xs i j x y (omega arith) first second e f)

  one_counted : (q : List ℕ) (xs : List X) → 1 ≤ count q xs → HasOneOf q xs
  one_counted q [] h = absurd (omega (arith, h))
  one_counted q (x ∷ xs) h = by (same_key q (key x)) refl (subst (λ n. 1 ≤ n) (count_cons q x xs) h) (one_counted q xs)
    where
      by : (b : Bool) → same_key q (key x) ≡ b → 1 ≤ cond b 1 0 + count q xs → (1 ≤ count q xs → HasOneOf q xs) → HasOneOf q (x ∷ xs)
      by true e g ih = record { at = 0; element = x; there = refl; same = sym (keys_same q (key x) e) }
      by false e g ih = let rest = ih (omega (arith, g)) in record { at = suc rest.at; element = rest.element; there = rest.there; same = rest.same }

  two_counted : (q : List ℕ) (xs : List X) → 2 ≤ count q xs → HasTwoOf key xs
  two_counted q [] h = absurd (omega (arith, h))
  two_counted q (x ∷ xs) h = by (same_key q (key x)) refl (subst (λ n. 2 ≤ n) (count_cons q x xs) h) (two_counted q xs)
    where
      by : (b : Bool) → same_key q (key x) ≡ b → 2 ≤ cond b 1 0 + count q xs → (2 ≤ count q xs → HasTwoOf key xs) → HasTwoOf key (x ∷ xs)
      by true e g ih =
          let rest = one_counted q xs (omega (arith, g)) in
          record { i = 0; j = suc rest.at; apart = omega arith; one = x; other = rest.element; first = refl; second = rest.there; same = sym (keys_same q (key x) e) ∙ sym rest.same }
      by false e g ih =
          let rest = ih (omega (arith, g)) in
          record { i = suc rest.i; j = suc rest.j; apart = omega (arith, rest.apart); one = rest.one; other = rest.other; first = rest.first; second = rest.second; same = rest.same }

  -- two of one key stay two in another order
  pub two_moved : (xs ys : List X) → IsPermutation xs ys → HasTwoOf key xs → HasTwoOf key ys
  two_moved xs ys permuted h =
      let q = key h.one in
      two_counted q ys (omega (arith, sum_by-IsPermutation (λ x. cond (same_key q (key x)) 1 0) xs ys permuted, counts_two q xs h.i h.j h.one h.other h.apart h.first h.second refl (sym h.same)))
