-- Lists of lines, and the names that they are.
use Rattle.std.proofs.Common.{◌++◌, filter, ◌&&◌, not, ◌≡◌, ℕ, suc, ◌+◌, ◌<◌, Bool, true, false, cond, List, [], ◌∷◌, map, length, drop, get_or, nat_eq, Some, None, refl, sym, ap, subst, ◌∙◌, arith, drop-cons, add-one}
use Rattle.std.specs.Prelude.{T}
use Rattle.std.specs.List.{list_all, insert}
use Rattle.std.proofs.lemmas.Bool.{eqb-true}
use Rattle.std.specs.declared.cmp.Ordering.{Ordering}
use Rattle.std.specs.declared.cmp.Ordering.TheVariants.{Less, Equal, Greater}
use Rattle.std.specs.Ordering.{nat_cmp, eq_by_cmp, is_eq, is_lt}
use Rattle.std.specs.Cmp.{eq_by_cmp_equiv}
use Rattle.std.specs.Cmp.Lexicographic.{slice_cmp, nat_list_cmp_total}
use Rattle.std.specs.FinMap as names
use Rattle.std.specs.FinMap.{slice_cmp-IsAntisymmetric, nat_cmp-IsAntisymmetric, find, put, is_sorted}
use Rattle.std.specs.FinMap.Entries.{by_order, where_key, find-where_key, is_sorted-where_key}
use lib.Pointwise.{pointwise, bytes_decides}
use Rattle.ods_request.proofs.FrameLaws.{is_none_some}
use Rattle.ods_base.proofs.Picks.{key_itself, keys_same}
use Rattle.ods_base.specs.declared.file_id.FileId.{FileId}
use Rattle.ods_base.specs.declared.listed.Listed.{Listed}
use Rattle.ods_base.specs.Name.{RadName, key_of}
use Rattle.ods_base.specs.Names.{name_of, version_of, versions_of, is_of, lines_of}
use Rattle.ods_plain.specs.Lines.{entry_of, entries_of, names_in, is_named, AreLines, versions_in, gap_for}

pub both_ways : (a b : Bool) → (a ≡ true → b ≡ true) → (b ≡ true → a ≡ true) → a ≡ b
both_ways true true f g = refl
both_ways true false f g = sym (f refl)
both_ways false true f g = g refl
both_ways false false f g = refl

-- keys in order
abbrev pub key_cmp : List ℕ → List ℕ → Ordering
key_cmp = slice_cmp nat_cmp

-- to tie is to be equal, number by number
pub same_key : (a b : List ℕ) → eq_by_cmp key_cmp a b ≡ pointwise nat_eq b a
same_key a b = both_ways _ _
    (λ h. (bytes_decides b a).1 (sym (keys_same a b h)))
    (λ h. subst (λ k. eq_by_cmp key_cmp a k ≡ true) (sym ((bytes_decides b a).0 h)) (key_itself a))

-- the lines that are left at a place
pub left_at : (ls : List Listed) (i : ℕ) (d : Listed) → i < length ls → drop i ls ≡ get_or ls i d ∷ drop (i + 1) ls
left_at ls i d h = drop-cons ls i d h ∙ ap (λ j. get_or ls i d ∷ drop j ls) (sym (add-one i))

-- a line that is found, and one that is passed over
pub found : (k : List ℕ) (x : Listed) (ls : List Listed) → pointwise nat_eq (key_of x.name x.version) k ≡ true → find key_cmp k (entries_of (x ∷ ls)) ≡ Some x.file
found k x ls h = ap (λ b. cond b (Some x.file) (find key_cmp k (entries_of ls))) (same_key k (key_of x.name x.version) ∙ h)

pub passed : (k : List ℕ) (x : Listed) (ls : List Listed) → pointwise nat_eq (key_of x.name x.version) k ≡ false → find key_cmp k (entries_of (x ∷ ls)) ≡ find key_cmp k (entries_of ls)
passed k x ls h = ap (λ b. cond b (Some x.file) (find key_cmp k (entries_of ls))) (same_key k (key_of x.name x.version) ∙ h)

-- the entries of the names are those of the lines
pub entries-names_in : (ls : List Listed) → AreLines ls → names.entries (names_in ls) ≡ entries_of ls
entries-names_in ls a = names.entries-from_sorted key_cmp (entries_of ls) a.rising

pub get-names_in : (ls : List Listed) (k : List ℕ) → AreLines ls → names.get (names_in ls) k ≡ find key_cmp k (entries_of ls)
get-names_in ls k a = names.get-from_sorted key_cmp (entries_of ls) k a.rising

pub len-names_in : (ls : List Listed) → AreLines ls → names.len (names_in ls) ≡ length ls
len-names_in ls a = names.len-entries (names_in ls) ∙ ap length (entries-names_in ls a) ∙ long ls
  where
    long : (xs : List Listed) → length (entries_of xs) ≡ length xs
    long [] = refl
    long (x ∷ xs) = ap (λ n. suc n) (long xs)

-- no lines are no names
pub no_names : names_in [] ≡ names.empty
no_names = names.empty_of_len (names_in []) (names.len-entries (names_in []) ∙ ap length (names.entries-from_sorted key_cmp [] tt))

-- where a key goes, by the first line
pub gap-here : (k : List ℕ) (x : Listed) (ls : List Listed) → is_lt (key_cmp k (key_of x.name x.version)) ≡ true → gap_for k (x ∷ ls) ≡ 0
gap-here k x ls h = ap (λ b. cond b 0 (suc (gap_for k ls))) h

pub gap-later : (k : List ℕ) (x : Listed) (ls : List Listed) → is_lt (key_cmp k (key_of x.name x.version)) ≡ false → gap_for k (x ∷ ls) ≡ suc (gap_for k ls)
gap-later k x ls h = ap (λ b. cond b 0 (suc (gap_for k ls))) h

-- a line put into the gap is an entry put in its place
module _ (k : List ℕ) (file : FileId) (line : Listed) (is : entry_of line ≡ (k, file)) where
  put-in_gap : (ls : List Listed) → find key_cmp k (entries_of ls) ≡ None → put key_cmp k file (entries_of ls) ≡ entries_of (insert ls (gap_for k ls) line)
  put-in_gap [] none = λ i. sym is i ∷ []
  put-in_gap (x ∷ ls) none = by (key_cmp k (key_of x.name x.version)) (put-in_gap ls) none
    where
      by : (r : Ordering) → (find key_cmp k (entries_of ls) ≡ None → put key_cmp k file (entries_of ls) ≡ entries_of (insert ls (gap_for k ls) line))
          → cond (is_eq r) (Some x.file) (find key_cmp k (entries_of ls)) ≡ None
          → by_order r ((k, file) ∷ entries_of (x ∷ ls)) ((key_of x.name x.version, file) ∷ entries_of ls) (entry_of x ∷ put key_cmp k file (entries_of ls))
          ≡ entries_of (insert (x ∷ ls) (cond (is_lt r) 0 (suc (gap_for k ls))) line)
      by Less rest h = ap (λ e. e ∷ entries_of (x ∷ ls)) (sym is)
      by Equal rest h = absurd (cc)
      by Greater rest h = ap (λ es. entry_of x ∷ es) (rest h)

all-insert : (p : Listed → Bool) (ls : List Listed) (at : ℕ) (x : Listed) → p x ≡ true → list_all p ls ≡ true → list_all p (insert ls at x) ≡ true
all-insert p [] Prim.Native.Nat.zero x h all = ap (λ b. b && true) h
all-insert p [] (suc at) x h all = ap (λ b. b && true) h
all-insert p (y ∷ ls) Prim.Native.Nat.zero x h all = ap (λ b. b && (p y && list_all p ls)) h ∙ all
all-insert p (y ∷ ls) (suc at) x h all = by (p y) (all-insert p ls at x h) all
  where
    by : (b : Bool) → (list_all p ls ≡ true → list_all p (insert ls at x) ≡ true) → (b && list_all p ls) ≡ true → (b && list_all p (insert ls at x)) ≡ true
    by true rest g = rest g
    by false rest g = absurd (cc)

-- a line was put in
pub record IsInserted (ls new : List Listed) (k : List ℕ) (file : FileId) : Type 0 where
  pub lines : AreLines new
  pub names : names_in new ≡ names.insert (names_in ls) k file

pub inserted : (ls : List Listed) (k : List ℕ) (file : FileId) (line : Listed) → AreLines ls → entry_of line ≡ (k, file) → is_named line ≡ true
    → names.contains_key (names_in ls) k ≡ false → IsInserted ls (insert ls (gap_for k ls) line) k file
inserted ls k file line a is named absent =
    let new = insert ls (gap_for k ls) line in
    let none : find key_cmp k (entries_of ls) ≡ None = sym (get-names_in ls k a) ∙ is_none_some (names.get (names_in ls) k) absent in
    let same : names.entries (names.insert (names_in ls) k file) ≡ entries_of new =
    names.entries-insert nat_list_cmp_total (names_in ls) k file ∙ ap (put key_cmp k file) (entries-names_in ls a) ∙ put-in_gap k file line is ls none in
    let lines : AreLines new = record {
      rising = subst (λ es. T (is_sorted key_cmp es)) same (names.entries_sorted (names.insert (names_in ls) k file));
      named = all-insert is_named ls (gap_for k ls) line named a.named;
    } in
    record { lines = lines; names = names.same_entries_map _ _ (entries-names_in new lines ∙ sym same) }

-- the lines without a key
abbrev pub without : List ℕ → List Listed → List Listed
without k ls = filter (λ l. not (pointwise nat_eq (key_of l.name l.version) k)) ls

abbrev other_key : List ℕ → List ℕ → Bool
other_key k q = not (eq_by_cmp key_cmp k q)

entries-without : (k : List ℕ) (ls : List Listed) → entries_of (without k ls) ≡ where_key key_cmp (other_key k) (entries_of ls)
entries-without k [] = refl
entries-without k (x ∷ ls) =
    by (pointwise nat_eq (key_of x.name x.version) k) (eq_by_cmp key_cmp k (key_of x.name x.version)) (sym (same_key k (key_of x.name x.version))) (entries-without k ls)
  where
    by : (a b : Bool) → a ≡ b → entries_of (without k ls) ≡ where_key key_cmp (other_key k) (entries_of ls)
        → entries_of (cond (not a) (x ∷ without k ls) (without k ls)) ≡ cond (not b) (entry_of x ∷ where_key key_cmp (other_key k) (entries_of ls)) (where_key key_cmp (other_key k) (entries_of ls))
    by true true e rest = rest
    by true false e rest = absurd (cc)
    by false true e rest = absurd (cc)
    by false false e rest = ap (λ es. entry_of x ∷ es) rest

all-filter : (p t : Listed → Bool) (ls : List Listed) → list_all p ls ≡ true → list_all p (filter t ls) ≡ true
all-filter p t [] all = refl
all-filter p t (x ∷ ls) all = by (p x) (t x) refl (all-filter p t ls) all
  where
    by : (b c : Bool) → p x ≡ b → (list_all p ls ≡ true → list_all p (filter t ls) ≡ true) → (b && list_all p ls) ≡ true → list_all p (cond c (x ∷ filter t ls) (filter t ls)) ≡ true
    by true true e rest g = ap (λ b. b && list_all p (filter t ls)) e ∙ rest g
    by true false e rest g = rest g
    by false c e rest g = absurd (cc)

-- a key was taken out
pub record IsRemoved (ls new : List Listed) (k : List ℕ) : Type 0 where
  pub lines : AreLines new
  pub names : names_in new ≡ names.remove (names_in ls) k

pub turned : {A : Type 0} (b : Bool) (x y : A) → cond (not b) x y ≡ cond b y x
turned true x y = refl
turned false x y = refl

pub removed : (ls : List Listed) (k : List ℕ) → AreLines ls → IsRemoved ls (without k ls) k
removed ls k a =
    let lines : AreLines (without k ls) = record {
      rising = subst (λ es. T (is_sorted key_cmp es)) (sym (entries-without k ls)) (is_sorted-where_key key_cmp (other_key k) (entries_of ls) a.rising);
      named = all-filter is_named (λ l. not (pointwise nat_eq (key_of l.name l.version) k)) ls a.named;
    } in
    record {
      lines = lines;
      names = names.same_map nat_list_cmp_total (slice_cmp-IsAntisymmetric nat_cmp-IsAntisymmetric) _ _ (λ q.
          get-names_in (without k ls) q lines ∙ ap (find key_cmp q) (entries-without k ls)
          ∙ find-where_key key_cmp (other_key k) q (λ x t. ap (other_key k) (sym (slice_cmp-IsAntisymmetric nat_cmp-IsAntisymmetric q x t))) (entries_of ls)
          ∙ turned (eq_by_cmp key_cmp k q) _ _
          ∙ (λ i. cond ((eq_by_cmp_equiv nat_list_cmp_total).symm k q i) None (sym (get-names_in ls q a) i))
          ∙ sym (names.get-remove nat_list_cmp_total (names_in ls) k q));
    }

-- a line from its key and its file
line_from : (ws : List ℕ) (e v : ℕ) (f : FileId) → length ws ≡ 3
    → ◌≡◌ {A = Listed} (record { name = name_of (ws ++ e ∷ v ∷ []); version = version_of (ws ++ e ∷ v ∷ []); file = f }) (record { name = record { words = ws; ext = e }; version = v; file = f })
line_from [] e v f h = absurd (cc)
line_from (a ∷ []) e v f h = absurd (omega (arith, h))
line_from (a ∷ b ∷ []) e v f h = absurd (omega (arith, h))
line_from (a ∷ b ∷ c ∷ []) e v f h = refl
line_from (a ∷ b ∷ c ∷ d ∷ ws) e v f h = absurd (omega (arith, h))

-- the line of an entry
abbrev line_of : List ℕ × FileId → Listed
line_of e = record { name = name_of e.0; version = version_of e.0; file = e.1 }

lines-back : (ls : List Listed) → list_all is_named ls ≡ true → map line_of (entries_of ls) ≡ ls
lines-back [] h = refl
lines-back (l ∷ ls) h = by (is_named l) refl (lines-back ls) h
  where
    by : (b : Bool) → is_named l ≡ b → (list_all is_named ls ≡ true → map line_of (entries_of ls) ≡ ls) → (b && list_all is_named ls) ≡ true → map line_of (entries_of (l ∷ ls)) ≡ l ∷ ls
    by true e rest g = λ i. line_from l.name.words l.name.ext l.version l.file (eqb-true _ _ e) i ∷ rest g i
    by false e rest g = absurd (cc)

-- the lines of the names that lines are
pub lines-names_in : (ls : List Listed) → AreLines ls → lines_of (names_in ls) ≡ ls
lines-names_in ls a = ap (λ es. map line_of es) (entries-names_in ls a) ∙ lines-back ls a.named

pub versions-names_in : (ls : List Listed) (n : RadName) → AreLines ls → versions_of (names_in ls) n ≡ versions_in ls n
versions-names_in ls n a = ap (λ es. map version_of (filter (is_of n) (map (λ e. e.0) es))) (entries-names_in ls a)
