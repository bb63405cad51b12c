-- What appending leaves of a catalogue, request by request.
use Rattle.std.proofs.Common.{◌≡◌, ◌≢◌, ℕ, zero, suc, ◌+◌, ◌-◌, ◌*◌, ◌/◌, ◌%◌, ◌<◌, ◌≤◌, refl, ap, sym, ◌∙◌, subst, arith, inl, inr, Bool, true, false, cond, List, [], ◌∷◌, ◌++◌, length, map, take, drop, get_or, set, replicate, append_assoc, Some}
use Rattle.std.specs.Prelude.{◌⊎◌, ◌==◌, slice_set, unwrap_or, min}
use Rattle.std.specs.List.{range_with_len}
use Rattle.std.specs.FinMap as finmap
use Rattle.std.proofs.lemmas.Bool.{cases_lt, cases_eq, eqb-true}
use Rattle.std.proofs.lemmas.List.{append-nil, length-append, length-replicate, length-set, length-drop, get_or-set_same, get_or-set_other, get_or_append_left, take-append-le, drop-append-le}
use Rattle.ods_base.specs.declared.file_id.FileId.{FileId}
use Rattle.ods_base.specs.Block.{zeros}
use Rattle.ods_request.specs.declared.requests.Request.{Request}
use Rattle.ods_request.specs.declared.requests.Request.TheVariants.{Extend, SetUser, Write}
use Rattle.ods_request.specs.Catalogue.{Catalogue, File, Plain, blocks_of, attributes_of}
use Rattle.ods_request.specs.Steps.{after, file_at, grown, no_file, put, with_body, written, zero_blocks}
use Rattle.ods_state.proofs.Shown.{get_put, get_other, ids}
use Rattle.ods_filing.specs.Put.{block_count, block_with}
use Rattle.ods_shell.specs.declared.facts.Facts.{Facts}
use Rattle.ods_upkeep.specs.Appended.{BeginWith, HoldsBytes, IsLeftOf, appends, grows, part_of, writes}

-- another file has what it had
other_stays : (C : Catalogue) (id : FileId) (f : File) (q : FileId) → q ≢ id → finmap.get (put C id f).files q ≡ finmap.get C.files q
other_stays C id f q other = elim (ids q id) [
  | inl same ↦ absurd (other same)
  | inr apart ↦ get_other C id f q apart.1
]

-- the file has these attributes and blocks, and all else is as in the first catalogue
record IsOn (C : Catalogue) (id : FileId) (attributes : List ℕ) (blocks : List (List ℕ)) (D : Catalogue) : Type 0 where
  pub before : File
  pub was : finmap.get C.files id ≡ Some before
  pub file : File
  pub there : finmap.get D.files id ≡ Some file
  pub body : file.body ≡ Plain attributes blocks
  pub owner : file.owner ≡ before.owner
  pub protection : file.protection ≡ before.protection
  pub system : file.system_char ≡ before.system_char
  pub ident : file.ident ≡ before.ident
  pub others : (q : FileId) → q ≢ id → finmap.get D.files q ≡ finmap.get C.files q
  pub default : D.default ≡ C.default

module _ (C : Catalogue) (id : FileId) where
  at_file : (a : List ℕ) (bs : List (List ℕ)) (D : Catalogue) (o : IsOn C id a bs D) → file_at D id ≡ o.file
  at_file a bs D o = ap (λ x. unwrap_or x no_file) o.there

  -- another file of the same owner, protection and ident in its place
  put_on : (a b : List ℕ) (bs cs : List (List ℕ)) (D : Catalogue) (o : IsOn C id a bs D) (f : File) → f.body ≡ Plain b cs → f.owner ≡ o.file.owner → f.protection ≡ o.file.protection → f.system_char ≡ o.file.system_char → f.ident ≡ o.file.ident
      → IsOn C id b cs (put D id f)
  put_on a b bs cs D o f body owner protection system ident = record {
    before = o.before;
    was = o.was;
    file = f;
    there = get_put D id f;
    body = body;
    owner = owner ∙ o.owner;
    protection = protection ∙ o.protection;
    system = system ∙ o.system;
    ident = ident ∙ o.ident;
    others = λ q other. other_stays D id f q other ∙ o.others q other;
    default = o.default;
  }

  extend_on : (n : ℕ) (a : List ℕ) (bs : List (List ℕ)) (D : Catalogue) → IsOn C id a bs D → IsOn C id a (bs ++ zero_blocks n) (after D (Extend id n))
  unfolding after
  extend_on n a bs D o =
      let is : file_at D id ≡ o.file = at_file a bs D o in
      put_on a a bs (bs ++ zero_blocks n) D o (grown (file_at D id) n)
      (λ i. Plain (attributes_of ((ap (λ (f : File). f.body) is ∙ o.body) i)) (blocks_of ((ap (λ (f : File). f.body) is ∙ o.body) i) ++ zero_blocks n))
      (ap (λ (f : File). f.owner) is) (ap (λ (f : File). f.protection) is) (ap (λ (f : File). f.system_char) is) (ap (λ (f : File). f.ident) is)

  write_on : (k : ℕ) (b a : List ℕ) (bs : List (List ℕ)) (D : Catalogue) → IsOn C id a bs D → IsOn C id a (slice_set bs (k + 1 - 1) b) (after D (Write id (k + 1) b))
  unfolding after
  write_on k b a bs D o =
      let is : file_at D id ≡ o.file = at_file a bs D o in
      let body : (file_at D id).body ≡ Plain a bs = ap (λ (f : File). f.body) is ∙ o.body in
      put_on a a bs (slice_set bs (k + 1 - 1) b) D o (with_body (file_at D id) (written (file_at D id).body (k + 1) b))
      (λ i. Plain (attributes_of (body i)) (slice_set (blocks_of (body i)) (k + 1 - 1) b))
      (ap (λ (f : File). f.owner) is) (ap (λ (f : File). f.protection) is) (ap (λ (f : File). f.system_char) is) (ap (λ (f : File). f.ident) is)

  set_on : (b a : List ℕ) (bs : List (List ℕ)) (D : Catalogue) → IsOn C id a bs D → IsOn C id b bs (after D (SetUser id b))
  unfolding after
  set_on b a bs D o =
      let is : file_at D id ≡ o.file = at_file a bs D o in
      let body : (file_at D id).body ≡ Plain a bs = ap (λ (f : File). f.body) is ∙ o.body in
      put_on a b bs bs D o (with_body (file_at D id) (Plain b (blocks_of (file_at D id).body)))
      (ap (λ x. Plain b (blocks_of x)) body)
      (ap (λ (f : File). f.owner) is) (ap (λ (f : File). f.protection) is) (ap (λ (f : File). f.system_char) is) (ap (λ (f : File). f.ident) is)

-- what requests leave that make no file
abbrev pub afters : Catalogue → List Request → Catalogue
afters D [] = D
afters D (r ∷ rs) = afters (after D r) rs

afters_both : (D : Catalogue) (rs qs : List Request) → afters D (rs ++ qs) ≡ afters (afters D rs) qs
afters_both D [] qs = refl
afters_both D (r ∷ rs) qs = afters_both (after D r) rs qs

-- blocks that are there, and zeros behind them
zeros_both : (bs : List (List ℕ)) (m n : ℕ) → (bs ++ zero_blocks m) ++ zero_blocks n ≡ bs ++ zero_blocks (m + n)
zeros_both bs m n = append_assoc bs (zero_blocks m) (zero_blocks n) ∙ ap (λ l. bs ++ l) (joined m)
  where
    joined : (m : ℕ) → zero_blocks m ++ zero_blocks n ≡ zero_blocks (m + n)
    joined zero = ap zero_blocks (omega arith)
    joined (suc m) = ap (λ l. zeros ∷ l) (joined m) ∙ ap zero_blocks more
      where
        more : suc (m + n) ≡ suc m + n
        more = omega arith

many_on : (C : Catalogue) (id : FileId) (q : ℕ) (a : List ℕ) (bs : List (List ℕ)) (D : Catalogue) → IsOn C id a bs D → IsOn C id a (bs ++ zero_blocks (q * 65535)) (afters D (replicate q (Extend id 65535)))
many_on C id zero a bs D o = subst (λ l. IsOn C id a l D) (sym (append-nil bs) ∙ ap (λ n. bs ++ zero_blocks n) none) o
  where
    none : 0 ≡ 0 * 65535
    none = omega arith
many_on C id (suc q) a bs D o =
    let more : 65535 + q * 65535 ≡ suc q * 65535 = omega arith in
    subst (λ l. IsOn C id a l (afters (after D (Extend id 65535)) (replicate q (Extend id 65535)))) (zeros_both bs 65535 (q * 65535) ∙ ap (λ n. bs ++ zero_blocks n) more)
    (many_on C id q a (bs ++ zero_blocks 65535) (after D (Extend id 65535)) (extend_on C id 65535 a bs D o))

rest_on : (C : Catalogue) (id : FileId) (n : ℕ) (a : List ℕ) (bs : List (List ℕ)) (D : Catalogue) → IsOn C id a bs D → IsOn C id a (bs ++ zero_blocks n) (afters D (cond (n == 0) [] (Extend id n ∷ [])))
rest_on C id n a bs D o = by (n == 0) refl
  where
    by : (b : Bool) → (n == 0) ≡ b → IsOn C id a (bs ++ zero_blocks n) (afters D (cond b [] (Extend id n ∷ [])))
    by true e = subst (λ l. IsOn C id a l D) (sym (append-nil bs) ∙ ap (λ m. bs ++ zero_blocks m) (sym (eqb-true n 0 e))) o
    by false e = extend_on C id n a bs D o

grows_on : (C : Catalogue) (id : FileId) (n : ℕ) (a : List ℕ) (bs : List (List ℕ)) (D : Catalogue) → IsOn C id a bs D → IsOn C id a (bs ++ zero_blocks n) (afters D (grows id n))
grows_on C id n a bs D o =
    let first = many_on C id (n / 65535) a bs D o in
    let then = rest_on C id (n % 65535) a (bs ++ zero_blocks (n / 65535 * 65535)) (afters D (replicate (n / 65535) (Extend id 65535))) first in
    let whole : n / 65535 * 65535 + n % 65535 ≡ n = omega arith in
    let blocks : (bs ++ zero_blocks (n / 65535 * 65535)) ++ zero_blocks (n % 65535) ≡ bs ++ zero_blocks n = zeros_both bs (n / 65535 * 65535) (n % 65535) ∙ ap (λ m. bs ++ zero_blocks m) whole in
    subst (λ l. IsOn C id a l (afters D (grows id n))) blocks
    (subst (λ E. IsOn C id a ((bs ++ zero_blocks (n / 65535 * 65535)) ++ zero_blocks (n % 65535)) E) (sym (afters_both D (replicate (n / 65535) (Extend id 65535)) (cond (n % 65535 == 0) [] (Extend id (n % 65535) ∷ [])))) then)

-- the blocks after so many are written, from one on
wrote : List ℕ → List (List ℕ) → ℕ → ℕ → List (List ℕ)
wrote all bs first zero = bs
wrote all bs first (suc n) = wrote all (slice_set bs first (block_with all first)) (first + 1) n

writes_on : (C : Catalogue) (id : FileId) (all : List ℕ) (first n : ℕ) (a : List ℕ) (bs : List (List ℕ)) (D : Catalogue) → IsOn C id a bs D → IsOn C id a (wrote all bs first n) (afters D (writes id all first n))
unfolding wrote
writes_on C id all first zero a bs D o = o
writes_on C id all first (suc n) a bs D o =
    let at : first + 1 - 1 ≡ first = omega arith in
    let one : IsOn C id a (slice_set bs first (block_with all first)) (after D (Write id (first + 1) (block_with all first))) =
    subst (λ k. IsOn C id a (slice_set bs k (block_with all first)) (after D (Write id (first + 1) (block_with all first)))) at (write_on C id first (block_with all first) a bs D o) in
    writes_on C id all (first + 1) n a (slice_set bs first (block_with all first)) (after D (Write id (first + 1) (block_with all first))) one

wrote_length : (all : List ℕ) (bs : List (List ℕ)) (first n : ℕ) → length (wrote all bs first n) ≡ length bs
unfolding wrote
wrote_length all bs first zero = refl
wrote_length all bs first (suc n) = wrote_length all (slice_set bs first (block_with all first)) (first + 1) n ∙ length-set bs first (block_with all first)

-- a block before the first one stays
wrote_before : (all : List ℕ) (bs : List (List ℕ)) (first n k : ℕ) → k < first → get_or (wrote all bs first n) k [] ≡ get_or bs k []
unfolding wrote
wrote_before all bs first zero k low = refl
wrote_before all bs first (suc n) k low =
    wrote_before all (slice_set bs first (block_with all first)) (first + 1) n k (omega (arith, low)) ∙ get_or-set_other bs first k (block_with all first) [] other
  where
    other : k ≢ first
    other is = omega (arith, is, low)

-- one of those that are written is written
wrote_there : (all : List ℕ) (bs : List (List ℕ)) (first n k : ℕ) → first ≤ k → k < first + n → k < length bs → get_or (wrote all bs first n) k [] ≡ block_with all k
unfolding wrote
wrote_there all bs first zero k low high within = absurd (omega (arith, low, high))
wrote_there all bs first (suc n) k low high within = elim (cases_eq k first) [
  | inl is ↦
      wrote_before all (slice_set bs first (block_with all first)) (first + 1) n k (omega (arith, is))
      ∙ ap (λ j. get_or (slice_set bs first (block_with all first)) j []) is
      ∙ get_or-set_same bs first (block_with all first) [] (omega (arith, is, within))
      ∙ ap (block_with all) (sym is)
  | inr other ↦ wrote_there all (slice_set bs first (block_with all first)) (first + 1) n k (later other) (omega (arith, high)) (omega (arith, within, length-set bs first (block_with all first)))
]
  where
    later : (k ≡ first → ⊥) → first + 1 ≤ k
    later other = elim (cases_lt first k) [
      | inl less ↦ omega (arith, less)
      | inr more ↦ absurd (other (omega (arith, low, more)))
    ]

part_length : (bytes : List ℕ) (k : ℕ) → length (part_of bytes k) ≤ 512
part_length bytes k = omega (arith, length_take 512 (drop (512 * k) bytes))
  where
    length_take : (n : ℕ) (xs : List ℕ) → length (take n xs) ≤ n
    length_take zero xs = omega arith
    length_take (suc n) [] = omega arith
    length_take (suc n) (x ∷ xs) = omega (arith, length_take n xs)

-- a block that is written begins with its part
begins_written : (all : List ℕ) (k : ℕ) → take (length (part_of all k)) (block_with all k) ≡ part_of all k
begins_written all k = by (drop (512 * k) all) 512 zeros
  where
    by : (xs : List ℕ) (n : ℕ) (ys : List ℕ) → take (length (take n xs)) (take n (xs ++ ys)) ≡ take n xs
    by xs zero ys = refl
    by [] (suc n) ys = refl
    by (x ∷ xs) (suc n) ys = ap (λ l. x ∷ l) (by xs n ys)

-- a part that is whole is the same where more bytes follow
same_part : (held more : List ℕ) (k : ℕ) → 512 * k + 512 ≤ length held → part_of (held ++ more) k ≡ part_of held k
same_part held more k within =
    ap (take 512) (drop-append-le (512 * k) held more (omega (arith, within)))
    ∙ take-append-le 512 (drop (512 * k) held) more (omega (arith, within, length-drop (512 * k) held))

begin_all : (held all : List ℕ) (more : List ℕ) (bs : List (List ℕ)) → all ≡ held ++ more → BeginWith bs held → BeginWith (wrote all (bs ++ zero_blocks (block_count all - length bs)) (length held / 512) (block_count all - length held / 512)) all
begin_all held all more bs is begin k under = (
  omega (arith, under, wrote_length all blocks (length held / 512) (block_count all - length held / 512), size),
  elim (cases_lt k (length held / 512)) [
    | inl low ↦
        let old = begin k (omega (arith, low)) in
        let part : part_of all k ≡ part_of held k = ap (λ l. part_of l k) is ∙ same_part held more k (omega (arith, low)) in
        let block : get_or now k [] ≡ get_or bs k [] = wrote_before all blocks (length held / 512) (block_count all - length held / 512) k low ∙ get_or_append_left bs (zero_blocks (block_count all - length bs)) [] k old.0 in
        (λ i. take (length (part i)) (block i)) ∙ old.1 ∙ sym part
    | inr high ↦
        let block : get_or now k [] ≡ block_with all k = wrote_there all blocks (length held / 512) (block_count all - length held / 512) k high (omega (arith, under, high)) (omega (arith, under, size)) in
        ap (take (length (part_of all k))) block ∙ begins_written all k
  ],
)
  where
    blocks : List (List ℕ)
    blocks = bs ++ zero_blocks (block_count all - length bs)

    now : List (List ℕ)
    now = wrote all blocks (length held / 512) (block_count all - length held / 512)

    size : length blocks ≡ length bs + (block_count all - length bs)
    size = omega (arith, length-append bs (zero_blocks (block_count all - length bs)), length-replicate {A = List ℕ} (block_count all - length bs) zeros)

last_on : (C : Catalogue) (id : FileId) (b a : List ℕ) (bs : List (List ℕ)) (D : Catalogue) → IsOn C id a bs D → IsOn C id b bs (afters D (SetUser id b ∷ []))
last_on C id b a bs D o = set_on C id b a bs D o

-- all requests of an append
pub left_of : (C : Catalogue) (facts : Facts) (held more all attributes : List ℕ) → all ≡ held ++ more → HoldsBytes C facts.file facts.blocks held → IsLeftOf C facts.file attributes all (afters C (appends facts (length held) all attributes))
left_of C facts held more all attributes is holds =
    let id = facts.file in
    let count = facts.blocks in
    let first = length held / 512 in
    let n = block_count all - first in
    let bs = holds.blocks in
    let lacking : block_count all - length bs ≡ block_count all - count = ap (λ m. block_count all - m) holds.counted in
    let start : IsOn C id holds.attributes bs C = record { before = holds.file; was = holds.there; file = holds.file; there = holds.there; body = holds.body; owner = refl; protection = refl; system = refl; ident = refl; others = λ q other. refl; default = refl } in
    let gs = grows id (block_count all - count) in
    let ws = writes id all first n in
    let one = grows_on C id (block_count all - count) holds.attributes bs C start in
    let two = writes_on C id all first n holds.attributes (bs ++ zero_blocks (block_count all - count)) (afters C gs) one in
    let three = last_on C id attributes holds.attributes (wrote all (bs ++ zero_blocks (block_count all - count)) first n) (afters (afters C gs) ws) two in
    let whole : afters (afters (afters C gs) ws) (SetUser id attributes ∷ []) ≡ afters C (appends facts (length held) all attributes) =
    sym (afters_both (afters C gs) ws (SetUser id attributes ∷ [])) ∙ sym (afters_both C gs (ws ++ SetUser id attributes ∷ [])) in
    let blocks = wrote all (bs ++ zero_blocks (block_count all - count)) first n in
    let begin : BeginWith blocks all = subst (λ m. BeginWith (wrote all (bs ++ zero_blocks m) first n) all) lacking (begin_all held all more bs is holds.begin) in
    of_on C id attributes all blocks (afters C (appends facts (length held) all attributes)) begin (subst (λ E. IsOn C id attributes blocks E) whole three)
  where
    of_on : (C : Catalogue) (id : FileId) (a all : List ℕ) (bs : List (List ℕ)) (D : Catalogue) → BeginWith bs all → IsOn C id a bs D → IsLeftOf C id a all D
    of_on C id a all bs D begin o = record {
      before = o.before;
      was = o.was;
      file = o.file;
      there = o.there;
      blocks = bs;
      body = o.body;
      begin = begin;
      owner = o.owner;
      protection = o.protection;
      system = o.system;
      ident = o.ident;
      others = o.others;
      default = o.default;
    }
