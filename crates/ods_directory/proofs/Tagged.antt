-- Blocks that a pass need not read, by the tags of their entries.
use Rattle.std.proofs.Common.{◌≡◌, ◌≢◌, ℕ, ◌+◌, ◌-◌, ◌*◌, ◌/◌, ◌%◌, ◌<◌, ◌≤◌, min, Bool, true, false, cond, not, ◌||◌, List, [], ◌∷◌, ◌++◌, length, map, fold, refl, sym, ap, ◌∙◌, subst, arith, Some, is_none, ◌&&◌, below_more}
use Rattle.std.specs.Prelude.{slice_index, slice_index_or, slice_set, ◌==◌}
use Rattle.std.specs.List.{All, range_with_len}
use Rattle.std.proofs.lemmas.Bool.{and_parts, eq-eqb}
use Rattle.std.proofs.lemmas.List.{ext_get_or, get_or-map, get_or-set_other, get_or-set_same}
use Rattle.std.proofs.lemmas.List.FromFn.{get_or-map-range_with_len, length-map-range_with_len}
use lib.Pointwise.{bytes_decides}
use Rattle.ods_base.specs.Image.{block_at}
use Rattle.ods_base.specs.Name.{RadName, IsName}
use Rattle.ods_base.specs.Names.{is_of, version_of}
use Rattle.ods_directory.specs.declared.first.First.{First}
use Rattle.ods_directory.specs.declared.first.Kind.TheVariants.{Empty}
use Rattle.ods_directory.specs.declared.search.Search.{Search}
use Rattle.ods_directory.specs.declared.tags.Wanted.{Wanted}
use Rattle.ods_directory.specs.Entry.{Entry, entry_at, entry_in, is_used}
use Rattle.ods_directory.specs.First.{first_after, is_kind}
use Rattle.ods_directory.specs.Search.{is_named, is_better, search_after}
use Rattle.ods_directory.specs.Tags.{AreTags, WantsNoOther, block_tags, name_tag, tag_by, tag_of, wants}
use Rattle.ods_directory.proofs.Folds.{fold_kept_within, fold_onward}

-- the tags of a block, one by one
pub tags_by_place : (b tags : List ℕ) → length tags ≡ 32 → ((k : ℕ) → k < 32 → slice_index tags k ≡ tag_of (entry_in b k)) → tags ≡ block_tags b
unfolding block_tags
tags_by_place b tags long each =
    ext_get_or 0 tags (map (λ k. tag_of (entry_in b k)) (range_with_len 0 32)) (long ∙ sym (length-map-range_with_len (λ k. tag_of (entry_in b k)) 0 32))
    (λ k below. let within : k < 32 = omega (arith, long, below) in each k within ∙ sym (get_or-map-range_with_len (λ j. tag_of (entry_in b j)) 0 32 k k 0 within (omega arith)))

-- one tag more
pub tag_set : (b tags : List ℕ) (n tag : ℕ) → n < length tags → ((k : ℕ) → k < n → slice_index tags k ≡ tag_of (entry_in b k)) → tag ≡ tag_of (entry_in b n)
    → (k : ℕ) → k < n + 1 → slice_index (slice_set tags n tag) k ≡ tag_of (entry_in b k)
tag_set b tags n tag within each is = below_more (λ k. slice_index (slice_set tags n tag) k ≡ tag_of (entry_in b k)) n
    (λ k below. get_or-set_other tags n k tag 0 (λ e. absurd (omega arith)) ∙ each k below) (get_or-set_same tags n tag 0 within ∙ is)

pub tag_there : (b : List ℕ) (k : ℕ) → k < 32 → slice_index (block_tags b) k ≡ tag_of (entry_in b k)
unfolding block_tags
tag_there b k below = get_or-map-range_with_len (λ j. tag_of (entry_in b j)) 0 32 k k 0 below (omega arith)

pub tags_are_many : (b : List ℕ) → length (block_tags b) ≡ 32
unfolding block_tags
tags_are_many b = length-map-range_with_len (λ k. tag_of (entry_in b k)) 0 32

-- an entry that has a name has its tag
words_alike : (ws : List ℕ) (ext v : ℕ) (key : List ℕ) → length ws ≡ 3 → key ≡ ws ++ ext ∷ v ∷ []
    → tag_by (slice_index key 0) (slice_index key 1) (slice_index key 2) (slice_index key 3) ≡ tag_by (slice_index ws 0) (slice_index ws 1) (slice_index ws 2) ext
words_alike [] ext v key long e = absurd (cc)
words_alike (a ∷ []) ext v key long e = absurd (omega (arith, long))
words_alike (a ∷ b ∷ []) ext v key long e = absurd (omega (arith, long))
words_alike (a ∷ b ∷ c ∷ []) ext v key long e = ap (λ k. tag_by (slice_index k 0) (slice_index k 1) (slice_index k 2) (slice_index k 3)) e
words_alike (a ∷ b ∷ c ∷ d ∷ ws) ext v key long e = absurd (omega (arith, long))

pub named_tag : (n : RadName) (e : Entry) → IsName n → is_named n e ≡ true → tag_of e ≡ name_tag n
named_tag n e name named =
    let both = and_parts (is_used e) (is_of n e.key) named in
    ap (λ b. cond b (tag_by (slice_index e.key 0) (slice_index e.key 1) (slice_index e.key 2) (slice_index e.key 3)) 0) both.0
    ∙ words_alike n.words n.ext (version_of e.key) e.key name.three ((bytes_decides _ _).0 both.1)

-- an entry that is empty has the tag 0
pub empty_tag : (e : Entry) → is_used e ≡ false → tag_of e ≡ 0
empty_tag e unused = ap (λ b. cond b (tag_by (slice_index e.key 0) (slice_index e.key 1) (slice_index e.key 2) (slice_index e.key 3)) 0) unused

-- an entry that is not wanted has neither tag
wants_first : (w : Wanted) (tag : ℕ) → tag ≡ w.one → wants w tag ≡ true
wants_first w tag e = by w.all (tag == w.one) (tag == w.other) (eq-eqb tag w.one e)
  where
    by : (a b c : Bool) → b ≡ true → (a || b || c) ≡ true
    by true true c h = refl
    by false true c h = refl
    by a false c h = absurd (cc)

wants_second : (w : Wanted) (tag : ℕ) → tag ≡ w.other → wants w tag ≡ true
wants_second w tag e = by w.all (tag == w.one) (tag == w.other) (eq-eqb tag w.other e)
  where
    by : (a b c : Bool) → c ≡ true → (a || b || c) ≡ true
    by true b true h = refl
    by false true true h = refl
    by false false true h = refl
    by a b false h = absurd (cc)

pub not_first : (w : Wanted) (tag : ℕ) → wants w tag ≡ false → tag ≢ w.one
not_first w tag off e = let clash : true ≡ false = sym (wants_first w tag e) ∙ off in absurd (cc)

pub not_second : (w : Wanted) (tag : ℕ) → wants w tag ≡ false → tag ≢ w.other
not_second w tag off e = let clash : true ≡ false = sym (wants_second w tag e) ∙ off in absurd (cc)

-- an entry with another tag than the name's changes no search
pub search_idle : (s : Search) (k : ℕ) (e : Entry) → IsName s.name → tag_of e ≢ name_tag s.name → search_after s k e ≡ s
search_idle s k e name apart = by (is_named s.name e) refl
  where
    by : (b : Bool) → is_named s.name e ≡ b → search_after s k e ≡ s
    by true named = absurd (apart (named_tag s.name e name named))
    by false named =
        ap (λ b. cond (b && is_better s.pick s.found (version_of e.key)) (record s { found = Some (record { position = k; file = e.file; version = version_of e.key }) }) s) named

-- a used entry changes no search for an empty one
pub first_idle : (s : First) (k : ℕ) (e : Entry) → s.kind ≡ Empty → tag_of e ≢ 0 → first_after s k e ≡ s
first_idle s k e kind some = by (is_used e) refl
  where
    by : (b : Bool) → is_used e ≡ b → first_after s k e ≡ s
    by false unused = absurd (some (empty_tag e unused))
    by true used =
        ap (λ x. cond (is_none s.position && is_kind x e) (record s { position = Some k }) s) kind
        ∙ ap (λ b. cond (is_none s.position && b) (record s { position = Some k }) s) (not_empty used) ∙ never (is_none s.position)
      where
        never : (a : Bool) → cond (a && false) (record s { position = Some k }) s ≡ s
        never true = refl
        never false = refl

        not_empty : is_used e ≡ true → is_kind Empty e ≡ false
        not_empty h = ap not h

-- the blocks from i on and before j have no entry that is wanted, so their entries before the mark change nothing
pub skipped : {S : Type 0} (after : S → ℕ → Entry → S) (blocks tags : List (List ℕ)) (w : Wanted) (s t : S) (i j m : ℕ) → i ≤ j → m ≤ 32 * length blocks → AreTags blocks tags
    → ((x : ℕ) → i ≤ x → x < j → All (λ tag. wants w tag ≡ false) (slice_index_or tags x [])) → WantsNoOther after t w
    → t ≡ fold (λ s k. after s k (entry_at blocks k)) s (range_with_len 0 (min (32 * i) m)) → t ≡ fold (λ s k. after s k (entry_at blocks k)) s (range_with_len 0 (min (32 * j) m))
skipped after blocks tags w s t i j m up cut are none idle before =
    sym (fold_kept_within (λ u k. after u (a + k) (entry_at blocks (a + k))) t 0 n (λ k from below. idle (a + k) (entry_at blocks (a + k)) (unwanted (a + k) (omega arith) (omega arith))))
    ∙ ap (λ u. fold (λ v k. after v (a + k) (entry_at blocks (a + k))) u (range_with_len 0 n)) before
    ∙ fold_onward (λ u k. after u k (entry_at blocks k)) (λ u k. after u (a + k) (entry_at blocks (a + k))) s a n (λ u k _. refl)
    ∙ ap (λ k. fold (λ s k. after s k (entry_at blocks k)) s (range_with_len 0 k)) whole
  where
    a : ℕ
    a = min (32 * i) m

    n : ℕ
    n = min (32 * j) m - a

    whole : a + n ≡ min (32 * j) m
    whole = omega arith

    unwanted : (p : ℕ) → a ≤ p → p < min (32 * j) m → wants w (tag_of (entry_at blocks p)) ≡ false
    unwanted p from below =
        let x : ℕ = p / 32 in
        let low : p % 32 < 32 = omega arith in
        let within : x < length blocks = omega arith in
        let here : slice_index_or tags x [] ≡ block_tags (block_at blocks x) = ap (λ ts. slice_index_or ts x []) are ∙ get_or-map block_tags blocks x [] [] within in
        let is : slice_index (slice_index_or tags x []) (p % 32) ≡ tag_of (entry_at blocks p) = ap (λ ts. slice_index ts (p % 32)) here ∙ tag_there (block_at blocks x) (p % 32) low in
        subst (λ tag. wants w tag ≡ false) is (none x (omega arith) (omega arith) (p % 32) 0 (subst (λ ts. p % 32 < length ts) (sym here) (subst (λ y. p % 32 < y) (sym (tags_are_many (block_at blocks x))) low)))
