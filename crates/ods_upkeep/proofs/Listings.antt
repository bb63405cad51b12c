-- A directory has one listing.
use Rattle.std.proofs.Common.{◌≡◌, ◌⊎◌, inl, inr, ℕ, suc, ◌/◌, ◌%◌, ◌<◌, ◌≤◌, refl, sym, ap, ◌∙◌, subst, Bool, true, false, cond, List, [], ◌∷◌, ◌++◌, length, take, drop, get_or, Some, arith}
use Rattle.std.specs.Prelude.{IsPermutation, T, nat_lt, slice_get, slice_index}
use Rattle.std.specs.List.{All, Contains, sum_by}
use Rattle.std.specs.Ordering.{is_eq, is_lt, ordering_reverse, nat_cmp}
use Rattle.std.specs.Cmp.{IsTotalOrder}
use Rattle.std.specs.Cmp.Lexicographic.{slice_cmp}
use Rattle.std.specs.FinMap as names
use Rattle.std.specs.declared.cmp.Ordering.{Ordering}
use Rattle.std.specs.declared.cmp.Ordering.TheVariants.{Less, Equal, Greater}
use Rattle.std.proofs.lemmas.Cmp.{tied_itself}
use Rattle.std.proofs.lemmas.List.Elements.{All-cons, All-contains_itself, All-head, All-nil, All-tail, Contains-append_left, Contains-append_right, Contains-push}
use Rattle.std.proofs.lemmas.List.Sorted.{All-permutation, ranks_by, sorted_far, sum_by-IsPermutation}
use Rattle.std.proofs.lemmas.List.Sums.{sum_by-cons}
use Rattle.std.proofs.lemmas.Option.{get_or_from_slice_get, same_Some, slice_get-get_or, slice_get_within}
use Rattle.ods_base.specs.declared.file_id.FileId.{FileId}
use Rattle.ods_base.specs.declared.listed.Listed.{Listed}
use Rattle.ods_base.specs.Name.{IsName, RadName, key_of, rad50_codes, title, type_text}
use Rattle.ods_base.specs.NameParts.{IsPart}
use Rattle.ods_base.specs.Names.{NameMap, lines_of, name_of, version_of}
use Rattle.ods_base.proofs.NameCodes.{same_part}
use Rattle.ods_base.proofs.NameParsing.{AreWords, ext_part, name_codes, name_part, same_name}
use Rattle.ods_space.specs.Layout.{VolumeLayout}
use Rattle.ods_space.proofs.Surveyed.{same_blocks}
use Rattle.ods_directory.specs.Entry.{IsGoodEntry, entry_at, used_entries}
use Rattle.ods_directory.specs.Names.{IsDirectory, names_of}
use Rattle.ods_directory.proofs.InOrder.{no_twins}
use Rattle.ods_directory.proofs.Keyed.{find, find_among, pairs}
use Rattle.ods_directory.proofs.Lookups.{entry_of_name}
use Rattle.ods_directory.proofs.Used.{among_used, used_entries-is}
use Rattle.ods_mount.specs.Faults.{IsDirectoryFile, contents_of, mark_at}
use Rattle.ods_mount.specs.Sound.{IsSoundBy}
use Rattle.ods_paths.specs.Order.{Line, listing_cmp}
use Rattle.ods_paths.proofs.ListingOrder.{listing_equal, listing_total}
use Rattle.ods_walk.specs.Listing.{IsListing, shown}
use Rattle.ods_walk.proofs.Directories.{lists_the_names}
use Rattle.ods_upkeep.proofs.Again.{as_they_are, from_mapped}

-- the first element
at_head : {X : Type 0} (x : X) (xs : List X) → Contains (x ∷ xs) x
at_head x xs = Contains-append_left (x ∷ []) xs x (Contains-push [] x)

equal_or_not : (r : Ordering) → (r ≡ Equal) ⊎ (is_eq r ≡ false)
equal_or_not Less = inr refl
equal_or_not Equal = inl refl
equal_or_not Greater = inr refl

neither : (o : Ordering) → is_lt o ≡ false → is_lt (ordering_reverse o) ≡ false → o ≡ Equal
neither Less a b = absurd (cc)
neither Equal a b = refl
neither Greater a b = absurd (cc)

-- ---- lists in an order, in which only the same are equal

module _ {X K : Type 0} {R : K → K → Ordering} (o : IsTotalOrder R) (key : X → K) where
  abbrev tied : X → X → ℕ
  tied x z = cond (is_eq (R (key x) (key z))) 1 0

  -- none stands before a lesser one
  abbrev pub Ascends : List X → Type 0
  Ascends xs = (i j : ℕ) (d : X) → i ≤ j → j < length xs → is_lt (R (key (get_or xs j d)) (key (get_or xs i d))) ≡ false

  ascends_on : (x : X) (xs : List X) → Ascends (x ∷ xs) → Ascends xs
  ascends_on x xs up i j d low high = up (suc i) (suc j) d (omega arith) (omega arith)

  -- one is counted that is equal
  some_tied : (x : X) (xs : List X) → 0 < sum_by (tied x) xs → (z : X) × Contains xs z × (R (key x) (key z) ≡ Equal)
  some_tied x [] some = absurd (omega arith)
  some_tied x (y ∷ xs) some = elim (equal_or_not (R (key x) (key y))) [
    | inl same ↦ (y, at_head y xs, same)
    | inr other ↦ (
        let none : tied x y ≡ 0 = ap (λ b. cond b 1 0) other in
        let rest = some_tied x xs (omega (arith, sum_by-cons (tied x) y xs, none)) in
        (rest.0, Contains-append_right (y ∷ []) xs rest.0 rest.1, rest.2))
  ]

  -- none of them is less than the first
  none_less : (y : X) (ys : List X) (z : X) → Ascends (y ∷ ys) → Contains (y ∷ ys) z → is_lt (R (key z) (key y)) ≡ false
  none_less y ys z up has = subst (λ w. is_lt (R (key w) (key y)) ≡ false) has.2 (up 0 has.0 z (omega arith) has.1)

  -- nor an element that another list with the same elements has
  not_less : (x y : X) (xs ys : List X) → Ascends (y ∷ ys) → sum_by (tied x) (x ∷ xs) ≡ sum_by (tied x) (y ∷ ys) → is_lt (R (key x) (key y)) ≡ false
  not_less x y xs ys up same =
      let itself : tied x x ≡ 1 = ap (λ r. cond (is_eq r) 1 0) (tied_itself o (key x)) in
      let z = some_tied x (y ∷ ys) (omega (arith, same, sum_by-cons (tied x) x xs, itself)) in
      ap is_lt (o.congr (key x) (key z.0) (key y) z.2) ∙ none_less y ys z.0 up z.1

  module _ (Good : X → Type 0) (only : (a b : X) → Good a → Good b → R (key a) (key b) ≡ Equal → a ≡ b) where
    heads : (x y : X) (xs ys : List X) → Good x → Good y → Ascends (x ∷ xs) → Ascends (y ∷ ys) → ((f : X → ℕ) → sum_by f (x ∷ xs) ≡ sum_by f (y ∷ ys)) → x ≡ y
    heads x y xs ys gx gy ux uy same =
        let first : is_lt (R (key x) (key y)) ≡ false = not_less x y xs ys uy (same (tied x)) in
        let other : is_lt (R (key y) (key x)) ≡ false = not_less y x ys xs ux (sym (same (tied y))) in
        only x y gx gy (neither (R (key x) (key y)) first (ap is_lt (sym (o.antisymm (key y) (key x))) ∙ other))

    -- with the same elements they are one list
    pub one_order : (xs ys : List X) → All Good xs → All Good ys → Ascends xs → Ascends ys → ((f : X → ℕ) → sum_by f xs ≡ sum_by f ys) → xs ≡ ys
    one_order [] [] gx gy ux uy same = refl
    one_order [] (y ∷ ys) gx gy ux uy same = absurd (omega (arith, same (λ z. 1), sum_by-cons (λ (z : X). 1) y ys))
    one_order (x ∷ xs) [] gx gy ux uy same = absurd (omega (arith, same (λ z. 1), sum_by-cons (λ (z : X). 1) x xs))
    one_order (x ∷ xs) (y ∷ ys) gx gy ux uy same =
        let head : x ≡ y = heads x y xs ys (All-head Good x xs gx) (All-head Good y ys gy) ux uy same in
        let rest : xs ≡ ys =
        one_order xs ys (All-tail Good x xs gx) (All-tail Good y ys gy) (ascends_on x xs ux) (ascends_on y ys uy)
        (λ f. omega (arith, same f, sum_by-cons f x xs, sum_by-cons f y ys, ap f head)) in
        λ i. head i ∷ rest i

-- ---- names are told apart by their texts

codes_long : (w : ℕ) → length (rad50_codes w) ≡ 3
codes_long w = by (nat_lt w 64000)
  where
    by : (b : Bool) → length (cond b (w / 1600 ∷ w / 40 % 40 ∷ w % 40 ∷ []) (40 ∷ 40 ∷ 40 ∷ [])) ≡ 3
    by true = refl
    by false = refl

-- the parts of three lists of three
three_parts : (xs ys zs : List ℕ) → length xs ≡ 3 → length ys ≡ 3 → length zs ≡ 3
    → (xs ≡ take 3 ((xs ++ ys) ++ zs)) × (ys ≡ take 3 (drop 3 ((xs ++ ys) ++ zs))) × (zs ≡ take 3 (drop 6 ((xs ++ ys) ++ zs)))
three_parts (a ∷ b ∷ c ∷ []) (d ∷ e ∷ f ∷ []) (g ∷ h ∷ k ∷ []) x y z = (refl, refl, refl)
three_parts [] ys zs x y z = absurd (omega (arith, x))
three_parts (a ∷ []) ys zs x y z = absurd (omega (arith, x))
three_parts (a ∷ b ∷ []) ys zs x y z = absurd (omega (arith, x))
three_parts (a ∷ b ∷ c ∷ d ∷ xs) ys zs x y z = absurd (omega (arith, x))
three_parts (a ∷ b ∷ c ∷ []) [] zs x y z = absurd (omega (arith, y))
three_parts (a ∷ b ∷ c ∷ []) (d ∷ []) zs x y z = absurd (omega (arith, y))
three_parts (a ∷ b ∷ c ∷ []) (d ∷ e ∷ []) zs x y z = absurd (omega (arith, y))
three_parts (a ∷ b ∷ c ∷ []) (d ∷ e ∷ f ∷ g ∷ ys) zs x y z = absurd (omega (arith, y))
three_parts (a ∷ b ∷ c ∷ []) (d ∷ e ∷ f ∷ []) [] x y z = absurd (omega (arith, z))
three_parts (a ∷ b ∷ c ∷ []) (d ∷ e ∷ f ∷ []) (g ∷ []) x y z = absurd (omega (arith, z))
three_parts (a ∷ b ∷ c ∷ []) (d ∷ e ∷ f ∷ []) (g ∷ h ∷ []) x y z = absurd (omega (arith, z))
three_parts (a ∷ b ∷ c ∷ []) (d ∷ e ∷ f ∷ []) (g ∷ h ∷ k ∷ l ∷ zs) x y z = absurd (omega (arith, z))

words_of : (p : RadName) → IsName p → AreWords (name_codes p) (rad50_codes p.ext) (slice_index p.words 0) (slice_index p.words 1) (slice_index p.words 2) p.ext
words_of p is =
    let parts =
    three_parts (rad50_codes (slice_index p.words 0)) (rad50_codes (slice_index p.words 1)) (rad50_codes (slice_index p.words 2)) (codes_long (slice_index p.words 0)) (codes_long (slice_index p.words 1)) (codes_long (slice_index p.words 2)) in
    record {
      small = (is.words 0 0 (omega (arith, is.three)), is.words 1 0 (omega (arith, is.three)), is.words 2 0 (omega (arith, is.three)), is.ext);
      first = parts.0;
      second = parts.1;
      third = parts.2;
      type_word = refl;
    }

-- one text, one name
pub one_name : (p n : RadName) → IsName p → IsName n → title p ≡ title n → type_text p ≡ type_text n → p ≡ n
one_name p n is other titles types =
    let codes : name_codes p ≡ name_codes n = same_part (title n) 9 (name_codes p) (name_codes n) (subst (λ t. IsPart t 9 (name_codes p)) titles (name_part p is)) (name_part n other) in
    let exts : rad50_codes p.ext ≡ rad50_codes n.ext = same_part (type_text n) 3 (rad50_codes p.ext) (rad50_codes n.ext) (subst (λ t. IsPart t 3 (rad50_codes p.ext)) types (ext_part p is)) (ext_part n other) in
    let words = words_of p is in
    sym (same_name p (name_codes p) (rad50_codes p.ext) (slice_index p.words 0) (slice_index p.words 1) (slice_index p.words 2) p.ext is words refl refl)
    ∙ same_name n (name_codes p) (rad50_codes p.ext) (slice_index p.words 0) (slice_index p.words 1) (slice_index p.words 2) p.ext other words codes exts

-- ---- the lines of a directory

true_by : (b : Bool) → T b → b ≡ true
true_by true t = refl
true_by false t = absurd t

-- what a map has at a key
entry_there : (m : NameMap) (e : List ℕ × FileId) → Contains (names.entries m) e → names.get m e.0 ≡ Some e.1
entry_there m e has =
    let es : List (List ℕ × FileId) = names.entries m in
    let same : pairs (λ (p : List ℕ × FileId). p.0) (λ (p : List ℕ × FileId). p.1) es ≡ es = as_they_are es in
    let sorted : names.is_sorted (slice_cmp nat_cmp) (pairs (λ (p : List ℕ × FileId). p.0) (λ (p : List ℕ × FileId). p.1) es) ≡ true =
    ap (names.is_sorted (slice_cmp nat_cmp)) same ∙ true_by (names.is_sorted (slice_cmp nat_cmp) es) (names.entries_sorted m) in
    let there : slice_get es has.0 ≡ Some e = slice_get-get_or es has.0 e has.1 ∙ ap Some has.2 in
    names.get-entries m e.0 ∙ ap (find e.0) (sym same)
    ∙ find_among (λ (p : List ℕ × FileId). p.0) (λ (p : List ℕ × FileId). p.1) es e has.0 (no_twins (λ (p : List ℕ × FileId). p.0) (λ (p : List ℕ × FileId). p.1) es sorted) there

-- a line with its key
record IsKeyed (m : NameMap) (e : Listed) : Type 0 where
  pub key : List ℕ
  pub there : names.get m key ≡ Some e.file
  pub name : name_of key ≡ e.name
  pub version : version_of key ≡ e.version

keyed : (m : NameMap) (e : Listed) → Contains (lines_of m) e → IsKeyed m e
keyed m e has =
    let p = from_mapped (λ (p : List ℕ × FileId). let line : Listed = record { name = name_of p.0; version = version_of p.0; file = p.1 } in line) (names.entries m) e has in
    record { key = p.0.0; there = entry_there m p.0 p.1 ∙ ap (λ (l : Listed). Some l.file) p.2; name = ap (λ (l : Listed). l.name) p.2; version = ap (λ (l : Listed). l.version) p.2 }

all_at : {X : Type 0} (P : X → Type 0) (xs : List X) (i : ℕ) (x : X) → All P xs → slice_get xs i ≡ Some x → P x
all_at P xs i x all there = subst P (get_or_from_slice_get xs i x x there) (all i x (slice_get_within xs i x there))

three_small : (a b c : ℕ) → a < 64000 → b < 64000 → c < 64000 → All (λ w. w < 64000) (a ∷ b ∷ c ∷ [])
three_small a b c x y z = All-cons (λ w. w < 64000) a (b ∷ c ∷ []) x (All-cons (λ w. w < 64000) b (c ∷ []) y (All-cons (λ w. w < 64000) c [] z (All-nil (λ w. w < 64000))))

module _ (blocks : List (List ℕ)) (mark : ℕ) (directory : IsDirectory blocks mark) where
  -- a key is that of a good entry
  good_key : (key : List ℕ) (file : FileId) → names.get (names_of blocks mark) key ≡ Some file → IsName (name_of key) × (key_of (name_of key) (version_of key) ≡ key)
  good_key key file there =
      let e = entry_of_name blocks mark key file there in
      let used = among_used (entry_at blocks) 0 (mark / 16) e.at (omega arith) (omega (arith, e.below)) e.used in
      let good : IsGoodEntry (entry_at blocks e.at) = all_at IsGoodEntry (used_entries blocks mark) used.at (entry_at blocks e.at) directory.good (subst (λ es. slice_get es used.at ≡ Some (entry_at blocks e.at)) (sym (used_entries-is blocks mark)) used.there) in
      let name : IsName (name_of (entry_at blocks e.at).key) =
      record {
        three = refl;
        words = three_small _ _ _ (good.words 0 (omega arith)) (good.words 1 (omega arith)) (good.words 2 (omega arith));
        ext = good.words 3 (omega arith);
      } in
      let whole : key_of (name_of (entry_at blocks e.at).key) (version_of (entry_at blocks e.at).key) ≡ (entry_at blocks e.at).key = refl in
      subst (λ k. IsName (name_of k) × (key_of (name_of k) (version_of k) ≡ k)) e.key (name, whole)

  -- lines that are shown alike are one
  pub one_line : (a b : Listed) → Contains (lines_of (names_of blocks mark)) a → Contains (lines_of (names_of blocks mark)) b → listing_cmp (shown a) (shown b) ≡ Equal → a ≡ b
  one_line a b has other equal =
      let x = keyed (names_of blocks mark) a has in
      let y = keyed (names_of blocks mark) b other in
      let first = good_key x.key a.file x.there in
      let second = good_key y.key b.file y.there in
      let alike : shown a ≡ shown b = listing_equal (shown a) (shown b) equal in
      let name : a.name ≡ b.name = one_name a.name b.name (subst IsName x.name first.0) (subst IsName y.name second.0) (ap (λ (l : Line). l.name) alike) (ap (λ (l : Line). l.kind) alike) in
      let version : a.version ≡ b.version = ap (λ (l : Line). l.version) alike in
      let names_are : name_of x.key ≡ name_of y.key = x.name ∙ name ∙ sym y.name in
      let versions_are : version_of x.key ≡ version_of y.key = x.version ∙ version ∙ sym y.version in
      let keys : x.key ≡ y.key = sym first.1 ∙ (λ i. key_of (names_are i) (versions_are i)) ∙ second.1 in
      let file : a.file ≡ b.file = same_Some _ _ (sym x.there ∙ ap (names.get (names_of blocks mark)) keys ∙ y.there) in
      λ i. record { name = name i; version = version i; file = file i }

-- a directory has one listing
pub one_listing : (I : List (List ℕ)) (L : VolumeLayout) → IsSoundBy I L → (n : ℕ) (xs ys : List Listed) → IsDirectoryFile I L n → IsListing I L n xs → IsListing I L n ys → xs ≡ ys
one_listing I L sound n xs ys is f g =
    let first = lists_the_names I L n xs sound is f in
    let second = lists_the_names I L n ys sound is g in
    let lbns = first.0 in
    let lines : List Listed = lines_of (names_of (contents_of I lbns) (mark_at I L n lbns)) in
    let same_lbns : second.0 ≡ lbns = same_blocks I L n second.0 lbns second.1 first.1 in
    let mine : IsPermutation lines xs = first.2 in
    let others : IsPermutation lines ys = subst (λ bs. IsPermutation (lines_of (names_of (contents_of I bs) (mark_at I L n bs))) ys) same_lbns second.2 in
    one_order listing_total shown (Contains lines) (one_line (contents_of I lbns) (mark_at I L n lbns) (sound.directories n lbns is first.1)) xs ys
    (All-permutation (Contains lines) lines xs mine (All-contains_itself lines)) (All-permutation (Contains lines) lines ys others (All-contains_itself lines))
    (sorted_far (λ x y. is_lt (listing_cmp (shown x) (shown y))) (ranks_by listing_total shown) xs f.order) (sorted_far (λ x y. is_lt (listing_cmp (shown x) (shown y))) (ranks_by listing_total shown) ys g.order)
    (λ h. sum_by-IsPermutation h lines xs mine ∙ sym (sum_by-IsPermutation h lines ys others))
