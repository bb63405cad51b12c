-- What the map of a directory's names has at a key, and how many names it has.
use Rattle.std.proofs.Common.{◌≡◌, ◌≢◌, ℕ, suc, ◌+◌, ◌/◌, ◌<◌, true, false, cond, List, [], ◌∷◌, length, Option, Some, None, is_some, refl, sym, ap, ◌∙◌, subst, arith}
use Rattle.std.specs.List.{slice_get}
use Rattle.std.specs.Ordering.{nat_cmp}
use Rattle.std.specs.Cmp.Lexicographic.{slice_cmp, nat_list_cmp_total}
use Rattle.std.specs.FinMap as names
use Rattle.std.specs.FinMap.{get-from_entries, len-empty, len-insert}
use Rattle.ods_base.specs.declared.file_id.FileId.{FileId}
use Rattle.ods_base.specs.Names.{NameMap}
use Rattle.ods_directory.specs.Entry.{Entry, is_used, entry_at, used_entries}
use Rattle.ods_directory.specs.Names.{AreDistinct, IsDirectory, names_of}
use Rattle.ods_directory.proofs.Used.{among_used, used_among, used_entries-is}
use Rattle.ods_directory.proofs.Keyed.{find, pairs, find_element, find_among}

abbrev pub entry_key : Entry → List ℕ
entry_key e = e.key

abbrev pub entry_file : Entry → FileId
entry_file e = e.file

abbrev pub entry_pairs : List Entry → List (List ℕ × FileId)
entry_pairs = pairs entry_key entry_file

pub get_names : (blocks : List (List ℕ)) (mark : ℕ) (q : List ℕ) → names.get (names_of blocks mark) q ≡ find q (entry_pairs (used_entries blocks mark))
unfolding names_of
get_names blocks mark q = get-from_entries nat_list_cmp_total (entry_pairs (used_entries blocks mark)) q

pub find_absent : (es : List Entry) (q : List ℕ) → ((i : ℕ) (e : Entry) → slice_get es i ≡ Some e → e.key ≢ q) → find q (entry_pairs es) ≡ None
find_absent es q absent = by (find q (entry_pairs es)) refl
  where
    by : (o : Option FileId) → find q (entry_pairs es) ≡ o → o ≡ None
    by None e = refl
    by (Some f) e = let h = find_element entry_key entry_file es q f e in absurd (absent h.at h.element h.there h.key_is)

len_pairs : (es : List Entry) → AreDistinct es → names.len (names.from_entries {R = slice_cmp nat_cmp} (entry_pairs es)) ≡ length es
len_pairs [] h = len-empty (slice_cmp nat_cmp) FileId
len_pairs (e ∷ es) h =
    let rest : NameMap = names.from_entries (entry_pairs es) in
    let tail : AreDistinct es = λ i j below d f there here. h (suc i) (suc j) (omega arith) d f there here in
    let absent : find e.key (entry_pairs es) ≡ None = find_absent es e.key (λ i d there same. h 0 (suc i) (omega arith) e d refl there (sym same)) in
    let new : names.contains_key rest e.key ≡ false = ap is_some (get-from_entries nat_list_cmp_total (entry_pairs es) e.key ∙ absent) in
    let more : length es + 1 ≡ suc (length es) = omega arith in
    len-insert nat_list_cmp_total rest e.key e.file ∙ ap (λ b. cond b (names.len rest) (names.len rest + 1)) new ∙ ap (λ n. n + 1) (len_pairs es tail) ∙ more

-- a directory has as many names as used entries
pub len_names : (blocks : List (List ℕ)) (mark : ℕ) → IsDirectory blocks mark → names.len (names_of blocks mark) ≡ length (used_entries blocks mark)
unfolding names_of
len_names blocks mark h = len_pairs (used_entries blocks mark) h.distinct

-- a used entry with this key and this file, before the mark
pub record IsEntered (entry : ℕ → Entry) (m : ℕ) (q : List ℕ) (f : FileId) : Type 0 where
  pub at : ℕ
  pub below : at < m
  pub used : is_used (entry at) ≡ true
  pub key : (entry at).key ≡ q
  pub file : (entry at).file ≡ f

-- what the map has is an entry
pub entry_of_name : (blocks : List (List ℕ)) (mark : ℕ) (q : List ℕ) (f : FileId) → names.get (names_of blocks mark) q ≡ Some f → IsEntered (entry_at blocks) (mark / 16) q f
entry_of_name blocks mark q f h =
    let found = find_element entry_key entry_file (used_entries blocks mark) q f (sym (get_names blocks mark q) ∙ h) in
    let g = used_among (entry_at blocks) 0 (mark / 16) found.element found.at (subst (λ es. slice_get es found.at ≡ Some found.element) (used_entries-is blocks mark) found.there) in
    record { at = g.at; below = omega (arith, g.below); used = g.used; key = ap (λ e. e.key) g.same ∙ found.key_is; file = ap (λ e. e.file) g.same ∙ found.file_is }

-- a used entry is in the map
pub name_of_entry : (blocks : List (List ℕ)) (mark : ℕ) (q : List ℕ) (f : FileId) → IsDirectory blocks mark → IsEntered (entry_at blocks) (mark / 16) q f → names.get (names_of blocks mark) q ≡ Some f
name_of_entry blocks mark q f directory h =
    let there = among_used (entry_at blocks) 0 (mark / 16) h.at (omega arith) (omega (arith, h.below)) h.used in
    let found = find_among entry_key entry_file (used_entries blocks mark) (entry_at blocks h.at) there.at directory.distinct (subst (λ es. slice_get es there.at ≡ Some (entry_at blocks h.at)) (sym (used_entries-is blocks mark)) there.there) in
    get_names blocks mark q ∙ subst (λ k. find k (entry_pairs (used_entries blocks mark)) ≡ Some (entry_at blocks h.at).file) h.key found ∙ ap Some h.file
