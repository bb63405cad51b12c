-- Lists that grow by one: the ways of a directory, the directories that entries name, and those to which a step leads.
use Rattle.std.proofs.Common.{◌≡◌, inl, inr, ℕ, suc, zero, ◌+◌, ◌<◌, refl, sym, ap, ◌∙◌, subst, false, List, [], ◌∷◌, ◌++◌, length, get_or, take, append_assoc, append-nil, arith}
use Rattle.std.specs.Prelude.{IsSortedByKey}
use Rattle.std.specs.List.{All, AllPairs}
use Rattle.std.specs.Ordering.{is_lt}
use Rattle.std.proofs.lemmas.List.{take_more}
use Rattle.std.proofs.lemmas.List.Elements.{All-cons, All-head, All-tail}
use Rattle.std.proofs.lemmas.List.Kept.{AllPairs-cons}
use Rattle.std.proofs.lemmas.List.Sorted.{ranks_by, sorted_far}
use Rattle.ods_base.specs.Name.{RadName}
use Rattle.ods_base.specs.declared.listed.Listed.{Listed}
use Rattle.ods_space.specs.Layout.{VolumeLayout}
use Rattle.ods_paths.specs.Order.{listing_cmp}
use Rattle.ods_paths.proofs.ListingOrder.{listing_total}
use Rattle.ods_paths.specs.Steps.{Step}
use Rattle.ods_walk.specs.Listing.{shown}
use Rattle.ods_shell.specs.Choosing.{AreEach, AreThose}
use Rattle.ods_shell.specs.Ways.{AreLedTo, AreMet, AreNamedIn, AreStarts, AreSteps, AreWays, CountAsClosed, IsBelow, IsStep, IsWayBy}
use Rattle.ods_shell.specs.Named.{AreEntries, AreLedBy}
use Rattle.ods_shell.specs.declared.folders.Directory.{Directory}
use Rattle.ods_shell.specs.declared.found.Found.{Found}
use Rattle.ods_shell.proofs.WaysShut.{counts_before, counts_with}

-- the front of a list, and the element behind it
pub front_more : {X : Type 0} (xs : List X) (i : ℕ) (x : X) → i < length xs → x ≡ get_or xs i x → take (i + 1) xs ≡ take i xs ++ x ∷ []
front_more xs i x within is = take_more xs i x within ∙ ap (λ y. take i xs ++ y ∷ []) (sym is)

-- what holds of all lines, holds of those that were chosen
those_all : (P Q : Listed → Type 0) (xs found : List Listed) → AreThose P xs found → All Q xs → All Q found
those_all P Q [] found are all = subst (All Q) (sym are) all
those_all P Q (x ∷ xs) found are all = elim are [
  | inl taken ↦ subst (All Q) (sym taken.2) (All-cons Q x taken.1 (All-head Q x xs all) (those_all P Q xs taken.1 taken.3 (All-tail Q x xs all)))
  | inr left ↦ those_all P Q xs found left.1 (All-tail Q x xs all)
]

-- and what holds of each two
those_pairs : (P : Listed → Type 0) (R : Listed → Listed → Type 0) (xs found : List Listed) → AreThose P xs found → AllPairs R xs → AllPairs R found
those_pairs P R [] found are all = subst (AllPairs R) (sym are) all
those_pairs P R (x ∷ xs) found are all =
    let first : All (R x) xs = λ k d within. all zero (suc k) d (omega arith) (omega arith) in
    let rest : AllPairs R xs = λ i j d less within. all (suc i) (suc j) d (omega arith) (omega arith) in
    elim are [
      | inl taken ↦ subst (AllPairs R) (sym taken.2) (AllPairs-cons R x taken.1 (those_all P (R x) xs taken.1 taken.3 first) (those_pairs P R xs taken.1 taken.3 rest))
      | inr left ↦ those_pairs P R xs found left.1 rest
    ]

-- so they stay in the order of a listing
pub those_sorted : (P : Listed → Type 0) (xs found : List Listed) → AreThose P xs found → IsSortedByKey shown listing_cmp xs → IsSortedByKey shown listing_cmp found
those_sorted P xs found are sorted k d low within =
    those_pairs P (λ x y. is_lt (listing_cmp (shown y) (shown x)) ≡ false) xs found are
    (λ i j e less inside. sorted_far (λ x y. is_lt (listing_cmp (shown x) (shown y))) (ranks_by listing_total shown) xs sorted i j e (omega arith) inside) k (k + 1) d (omega arith) within

-- one entry more, and the directory that it names
named_in_more : (names : List RadName) (entries : List Listed) (found : List Directory) (e : Listed) (d : Directory) → AreNamedIn names entries found → IsBelow names e d → AreNamedIn names (entries ++ e ∷ []) (found ++ d ∷ [])
named_in_more names [] found e d are below = (d, [], ap (λ ds. ds ++ d ∷ []) are, below, refl)
named_in_more names (first ∷ entries) found e d are below = (are.0, are.1 ++ d ∷ [], ap (λ ds. ds ++ d ∷ []) are.2, are.3, named_in_more names entries are.1 e d are.4 below)

pub named_next : (names : List RadName) (entries : List Listed) (n : ℕ) (e : Listed) (d : Directory) (start mid new : List Directory) → n < length entries → e ≡ get_or entries n e → IsBelow names e d → new ≡ mid ++ d ∷ []
    → ((more : List Directory) × (mid ≡ start ++ more) × AreNamedIn names (take n entries) more)
    → (more : List Directory) × (new ≡ start ++ more) × AreNamedIn names (take (n + 1) entries) more
named_next names entries n e d start mid new within is below added are = (
  are.0 ++ d ∷ [],
  added ∙ ap (λ ds. ds ++ d ∷ []) are.1 ∙ append_assoc start are.0 (d ∷ []),
  subst (λ (es : List Listed). AreNamedIn names es (are.0 ++ d ∷ [])) (sym (front_more entries n e within is)) (named_in_more names (take n entries) are.0 e d are.2 below),
)

-- one more, and what is said of it
each_more : {X Y : Type 0} (P : X → List Y → Type 0) (xs : List X) (found : List Y) (x : X) (next : List Y) → AreEach P xs found → P x next → AreEach P (xs ++ x ∷ []) (found ++ next)
each_more P [] found x next are is = (next, [], ap (λ ys. ys ++ next) are ∙ sym (append-nil next), is, refl)
each_more P (first ∷ xs) found x next are is = (
  are.0,
  are.1 ++ next,
  ap (λ ys. ys ++ next) are.2 ∙ append_assoc are.0 are.1 next,
  are.3,
  each_more P xs are.1 x next are.4 is,
)

-- the same behind those at the front of a list
pub each_next : {X Y : Type 0} (P : X → List Y → Type 0) (xs : List X) (n : ℕ) (x : X) (found next all : List Y) → n < length xs → x ≡ get_or xs n x → all ≡ found ++ next → AreEach P (take n xs) found → P x next → AreEach P (take (n + 1) xs) all
each_next {X} {Y} P xs n x found next all within is added are here =
    subst (λ (ys : List X). AreEach P ys all) (sym (front_more xs n x within is))
    (subst (λ (ys : List Y). AreEach P (take n xs ++ x ∷ []) ys) (sym added) (each_more P (take n xs) found x next are here))

-- the same past directories that count as closed: what was met is only added to
pub shut_next : {X Y : Type 0} (P : List ℕ → X → List Y → Type 0) (xs : List X) (n : ℕ) (x : X) (found next all : List Y) (closed numbers : List ℕ) (before after : List Directory) → n < length xs → x ≡ get_or xs n x → numbers ≡ closed
    → all ≡ found ++ next → AreMet numbers before after → ((shut : List ℕ) → CountAsClosed closed before shut → AreEach (P shut) (take n xs) found)
    → ((shut : List ℕ) → CountAsClosed numbers after shut → P shut x next)
    → (shut : List ℕ) → CountAsClosed closed after shut → AreEach (P shut) (take (n + 1) xs) all
shut_next P xs n x found next all closed numbers before after within is same added met so_far here shut counts =
    each_next (P shut) xs n x found next all within is added (so_far shut (counts_before closed numbers before after shut met counts)) (here shut (counts_with closed numbers after shut same counts))

module _ (I : List (List ℕ)) (L : VolumeLayout) where
  -- one step more
  pub starts_next : (all rest behind : List Step) (step : Step) (now lent next : List Directory) (closed numbers : List ℕ) (before after : List Directory) → rest ≡ step ∷ behind → lent ≡ now → numbers ≡ closed → AreMet numbers before after
      → ((shut : List ℕ) → CountAsClosed closed before shut → (last : List Directory) → AreLedTo I L shut rest now last → AreStarts I L shut all last)
      → ((shut : List ℕ) → CountAsClosed numbers after shut → AreSteps I L shut step lent next)
      → (shut : List ℕ) → CountAsClosed closed after shut → (last : List Directory) → AreLedTo I L shut behind next last → AreStarts I L shut all last
  starts_next all rest behind step now lent next closed numbers before after cut is same met so_far here shut counts last led =
      let on : AreSteps I L shut step now next = subst (λ (ds : List Directory). AreSteps I L shut step ds next) is (here shut (counts_with closed numbers after shut same counts)) in
      let more : AreLedTo I L shut (step ∷ behind) now last = (next, on, led) in
      so_far shut (counts_before closed numbers before after shut met counts) last (subst (λ (steps : List Step). AreLedTo I L shut steps now last) (sym cut) more)

  module _ (closed : List ℕ) (met : List Directory) (ways listed those named : List Listed) (same_ways : listed ≡ ways) (same_those : named ≡ those) where
    -- a step from one directory, part by part
    pub step_is : (names : List RadName) (step : Step) (from : Directory) (next : List Directory) → names ≡ from.names.items → ((shut : List ℕ) → CountAsClosed closed met shut → AreWays I L shut from.number ways)
        → AreThose (IsWayBy step listed) listed those → AreNamedIn names named next → (shut : List ℕ) → CountAsClosed closed met shut → IsStep I L shut step from next
    step_is names step from next same_names are chosen all_named shut counts = (
      ways,
      those,
      are shut counts,
      subst (λ (ls : List Listed). AreThose (IsWayBy step ls) ls those) same_ways chosen,
      subst (λ (ns : List RadName). AreNamedIn ns those next) same_names (subst (λ (ls : List Listed). AreNamedIn names ls next) same_those all_named),
    )

    -- the entries by which a step leads on from one directory, part by part
    pub led_is : (step : Step) (from : Directory) (next : List Found) → ((shut : List ℕ) → CountAsClosed closed met shut → AreWays I L shut from.number ways) → AreThose (IsWayBy step listed) listed those
        → AreEntries I L from named next → (shut : List ℕ) → CountAsClosed closed met shut → AreLedBy I L shut step from next
    led_is step from next are chosen all_named shut counts = (
      ways,
      those,
      are shut counts,
      subst (λ (ls : List Listed). AreThose (IsWayBy step ls) ls those) same_ways chosen,
      subst (λ (ls : List Listed). AreEntries I L from ls next) same_those all_named,
    )
