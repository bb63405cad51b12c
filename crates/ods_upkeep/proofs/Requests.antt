-- The requests that put bytes behind others, one after another.
use Rattle.std.proofs.Common.{◌≡◌, ℕ, zero, suc, ◌+◌, ◌-◌, ◌<◌, ◌≤◌, refl, ap, sym, ◌∙◌, subst, arith, inl, inr, List, [], ◌∷◌, ◌++◌, length, map, replicate, append_assoc, Result, Ok, Err}
use Rattle.std.specs.Prelude.{IfErr, OnErr, OnOk, ◌^◌, ◌*◌}
use Rattle.std.specs.List.{range_with_len}
use Rattle.std.proofs.lemmas.List.{length-append}
use Rattle.ods_base.specs.declared.file_id.FileId.{FileId}
use Rattle.ods_request.specs.declared.requests.Request.{Request}
use Rattle.ods_request.specs.declared.requests.Request.TheVariants.{Extend, Write}
use Rattle.ods_records.specs.Written.{IsWritten as AreLinesWritten}
use Rattle.ods_filing.specs.Led.{IsObeyed}
use Rattle.ods_filing.specs.Put.{block_with}
use Rattle.ods_upkeep.specs.Pieces.{with_end}
use Rattle.ods_upkeep.specs.Refused.{IsRefusedBy, StopsAt}
use Rattle.ods_upkeep.specs.Removed.{Does}
use Rattle.ods_upkeep.specs.Appended.{AreBehind, grows, IsPadded, IsTextBehind, with_size, writes}
use Rattle.ods_filing.specs.Filed.{Filed}
use Rattle.ods_upkeep.specs.declared.failure.Why.{Why}
use Rattle.ods_upkeep.proofs.Doing.{does_one, does_same, then_does}
use Rattle.ods_upkeep.proofs.Stopping.{stops_first, stops_later, stops_one}

-- one more of the same
many_again : (r : Request) (k : ℕ) → replicate k r ++ r ∷ [] ≡ replicate (k + 1) r
many_again r zero = refl
many_again r (suc k) = ap (λ (l : List Request). r ∷ l) (many_again r k) ∙ ap (λ (n : ℕ). replicate n r) next
  where
    next : suc (k + 1) ≡ suc k + 1
    next = omega arith

pub one_again : (old mid new : Filed) (r : Request) (k : ℕ) → Does old (replicate k r) mid → IsObeyed mid r new → Does old (replicate (k + 1) r) new
one_again old mid new r k first done = does_same old new (replicate k r ++ r ∷ []) (replicate (k + 1) r) (many_again r k) (then_does old mid new (replicate k r) (r ∷ []) first (does_one mid new r done))

-- some of the same, and one behind them
many_split : (r : Request) (k more : ℕ) → replicate k r ++ r ∷ replicate more r ≡ replicate (k + (1 + more)) r
many_split r zero more = ap (λ (n : ℕ). replicate n r) next
  where
    next : suc more ≡ 0 + (1 + more)
    next = omega arith
many_split r (suc k) more = ap (λ (l : List Request). r ∷ l) (many_split r k more) ∙ ap (λ (n : ℕ). replicate n r) next
  where
    next : suc (k + (1 + more)) ≡ suc k + (1 + more)
    next = omega arith

-- the next of the same is refused, and nothing behind them is asked
pub stops_again : (old mid new : Filed) (r : Request) (k all : ℕ) (rest : List Request) (why : Why) → k < all → Does old (replicate k r) mid → new ≡ mid → IsRefusedBy mid r why → StopsAt old (replicate all r ++ rest) new why
stops_again old mid new r k all rest why under first same refused =
    let size : k + (1 + (all - k - 1)) ≡ all = omega (arith, under) in
    subst (λ (l : List Request). StopsAt old (l ++ rest) new why) (many_split r k (all - k - 1) ∙ ap (λ (n : ℕ). replicate n r) size)
    (stops_first old new (replicate k r ++ r ∷ replicate (all - k - 1) r) rest why
    (stops_later old mid new (replicate k r) (r ∷ replicate (all - k - 1) r) why first (stops_first mid new (r ∷ []) (replicate (all - k - 1) r) why (stops_one mid new r same why refused))))

-- those behind a list stop
pub rest_stops : {A : Type 0} (old mid new : Filed) (rs qs : List Request) (result : Result A Why) → Does old rs mid → IfErr result (StopsAt mid qs new) → IfErr result (StopsAt old (rs ++ qs) new)
rest_stops old mid new rs qs (Ok a) first stop = tt
rest_stops old mid new rs qs (Err why) first stop = stops_later old mid new rs qs why first stop

-- blocks that are written up to one, that one, and those behind it
writes_split : (file : FileId) (all : List ℕ) (first n more : ℕ) → writes file all first n ++ Write file (first + n + 1) (block_with all (first + n)) ∷ writes file all (first + n + 1) more ≡ writes file all first (n + (1 + more))
writes_split file all first zero more =
    (λ i. Write file (at i + 1) (block_with all (at i)) ∷ writes file all (at i + 1) more) ∙ ap (writes file all first) next
  where
    at : first + 0 ≡ first
    at = omega arith

    next : suc more ≡ 0 + (1 + more)
    next = omega arith
writes_split file all first (suc n) more =
    ap (λ (l : List Request). Write file (first + 1) (block_with all first) ∷ l)
    ((λ i. writes file all (first + 1) n ++ Write file (at i + 1) (block_with all (at i)) ∷ writes file all (at i + 1) more) ∙ writes_split file all (first + 1) n more)
    ∙ ap (writes file all first) next
  where
    at : first + suc n ≡ first + 1 + n
    at = omega arith

    next : suc (n + (1 + more)) ≡ suc n + (1 + more)
    next = omega arith

-- one more block is written
pub wrote_one : (old mid new : Filed) (file : FileId) (all block : List ℕ) (first k : ℕ) → first ≤ k → Does old (writes file all first (k - first)) mid → block ≡ block_with all k → IsObeyed mid (Write file (k + 1) block) new
    → Does old (writes file all first (k + 1 - first)) new
wrote_one old mid new file all block first k from before is done =
    let at : first + (k - first) ≡ k = omega (arith, from) in
    let size : k - first + (1 + 0) ≡ k + 1 - first = omega (arith, from) in
    let here : IsObeyed mid (Write file (k + 1) (block_with all k)) new = subst (λ (b : List ℕ). IsObeyed mid (Write file (k + 1) b) new) is done in
    let one : Does mid (Write file (first + (k - first) + 1) (block_with all (first + (k - first))) ∷ []) new = subst (λ (j : ℕ). Does mid (Write file (j + 1) (block_with all j) ∷ []) new) (sym at) (does_one mid new (Write file (k + 1) (block_with all k)) here) in
    does_same old new _ (writes file all first (k + 1 - first)) (writes_split file all first (k - first) 0 ∙ ap (writes file all first) size) (then_does old mid new (writes file all first (k - first)) _ before one)

-- the next block is refused
pub write_stops : (old mid new : Filed) (file : FileId) (all block : List ℕ) (first k count : ℕ) (why : Why) → first ≤ k → k < count → Does old (writes file all first (k - first)) mid → block ≡ block_with all k → new ≡ mid
    → IsRefusedBy mid (Write file (k + 1) block) why → StopsAt old (writes file all first (count - first)) new why
write_stops old mid new file all block first k count why from under before is same refused =
    let at : first + (k - first) ≡ k = omega (arith, from) in
    let size : k - first + (1 + (count - k - 1)) ≡ count - first = omega (arith, from, under) in
    let here : IsRefusedBy mid (Write file (k + 1) (block_with all k)) why = subst (λ (b : List ℕ). IsRefusedBy mid (Write file (k + 1) b) why) is refused in
    let rest = writes file all (first + (k - first) + 1) (count - k - 1) in
    let one : StopsAt mid (Write file (first + (k - first) + 1) (block_with all (first + (k - first))) ∷ rest) new why =
    subst (λ (j : ℕ). StopsAt mid (Write file (j + 1) (block_with all j) ∷ rest) new why) (sym at) (stops_first mid new (Write file (k + 1) (block_with all k) ∷ []) rest why (stops_one mid new (Write file (k + 1) (block_with all k)) same why here)) in
    subst (λ (l : List Request). StopsAt old l new why) (writes_split file all first (k - first) (count - k - 1) ∙ ap (writes file all first) size) (stops_later old mid new (writes file all first (k - first)) _ why before one)

-- those behind a list are done
pub rest_does : {A E : Type 0} (old mid new : Filed) (rs qs : List Request) (result : Result A E) → Does old rs mid → OnOk result (Does mid qs new) → OnOk result (Does old (rs ++ qs) new)
rest_does old mid new rs qs (Ok a) first done = then_does old mid new rs qs first done
rest_does old mid new rs qs (Err e) first done = tt

-- one request is done, or refused
pub one_done : {A E : Type 0} (old new : Filed) (r : Request) (result : Result A E) → OnOk result (IsObeyed old r new) → OnOk result (Does old (r ∷ []) new)
one_done old new r (Ok a) done = does_one old new r done
one_done old new r (Err e) done = tt

pub one_stops : {A : Type 0} (old new : Filed) (r : Request) (result : Result A Why) → OnErr result (new ≡ old) → IfErr result (IsRefusedBy old r) → IfErr result (StopsAt old (r ∷ []) new)
one_stops old new r (Ok a) same refused = tt
one_stops old new r (Err why) same refused = stops_one old new r same why refused

-- a text stands behind records
pub text_behind : (own old text joined seen attributes sized : List ℕ) (pad longest : ℕ) (records : List ℕ) → IsPadded old pad → AreLinesWritten text records longest → joined ≡ old ++ (replicate pad 0 ++ records) → seen ≡ joined → sized ≡ with_size own longest
    → (length seen < 512 * 2 ^ 20) × (attributes ≡ with_end sized (length seen)) → IsTextBehind own old text joined attributes
text_behind own old text joined seen attributes sized pad longest records padded lines behind same size ends = record {
  pad = pad;
  padded = padded;
  records = records;
  longest = longest;
  lines = lines;
  behind = behind;
  small = subst (λ (l : List ℕ). length l < 512 * 2 ^ 20) same ends.0;
  are = ends.1 ∙ (λ i. with_end (size i) (length (same i)));
}

-- a file does not get all its blocks
pub grow_stops : (old new : Filed) (file : FileId) (n m : ℕ) (rest : List Request) (why : Why) → n ≡ m → StopsAt old (grows file n) new why → StopsAt old (grows file m ++ rest) new why
grow_stops old new file n m rest why same stop = stops_first old new (grows file m) rest why (subst (λ (k : ℕ). StopsAt old (grows file k) new why) same stop)

-- all bytes are no fewer than the old ones, and few enough for a volume
pub longer : (own held bytes all attributes : List ℕ) → AreBehind own held bytes all attributes → length held ≤ length all
longer own held bytes all attributes (inl text) = omega (arith, ap length text.1.behind, length-append held (replicate text.1.pad 0 ++ text.1.records))
longer own held bytes all attributes (inr others) = omega (arith, ap length others.1.behind, length-append held bytes)

pub small : (own held bytes all attributes : List ℕ) → AreBehind own held bytes all attributes → length all < 512 * 2 ^ 20
small own held bytes all attributes (inl text) = text.1.small
small own held bytes all attributes (inr others) = others.1.small
