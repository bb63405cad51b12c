-- A tree of the host as it is listed.
use Rattle.std.specs.Prelude.{◌≡◌, ◌≢◌, ◌⊎◌, ◌==◌, ℕ, zero, suc, ◌+◌, ◌<◌, Bool, true, false, List, [], ◌∷◌, ◌++◌, reverse, length, drop, take, Option, Some, None, MatchOption, IfErr, OnOk, IsTrue, Result, Ok, Err, slice_index, string_bytes, unwrap_or, if◌then◌else◌}
use Rattle.std.specs.List.{All}
use Rattle.std.specs.Option.{option_map}
use Rattle.std.specs.Path.{rfind_below, rsplit_once}
use Rattle.std.proofs.Common.{refl, sym, ap, subst, ◌∙◌, arith, inl, inr}
use Rattle.std.proofs.lemmas.Bool.{cases_eq, eqb-false}
use Rattle.std.proofs.lemmas.List.{append_assoc, append-nil, get_or-drop, length-append, length-drop, reverse-append}
use Rattle.std.proofs.lemmas.List.Elements.{All-append, All-head, All-nil, All-pop, All-push, All-tail, All-weaker, Contains-append_left, Contains-push}
use Rattle.fs_host.specs.Faults.{is_reason}
use Rattle.fs_host.specs.Names.{LacksSlash}
use Rattle.fs_host.specs.Trees.{HasPath, HasReason, HaveFolder, IsEntry, IsTop, IsTree, LiesIn, ListsFolder, ListsName, Shows, WaitsIn, itself, kind_of_folder, with_one}
use Rattle.fs_host.specs.declared.host_fault.HostFault.{HostFault}
use Rattle.fs_host.specs.declared.host_tree.Pending.{Pending}
use Rattle.fs_host.specs.declared.host_tree.TreeEntry.{TreeEntry}
use Rattle.fs_host.specs.declared.host_tree.TreeKind.{TreeKind}
use Rattle.fs_host.specs.declared.host_tree.TreeKind.TheVariants.{Folder, File, Other, OwnTree, Unread}

-- behind the last of a character among the first n stands none
later : (c : ℕ) (text : List ℕ) (n : ℕ) → MatchOption (rfind_below c text n) ((k : ℕ) → k < n → slice_index text k ≢ c) (λ i. (k : ℕ) → i < k → k < n → slice_index text k ≢ c)
later c text zero = λ k low. absurd (omega (arith, low))
later c text (suc n) = by (slice_index text n == c) refl (rfind_below c text n) (later c text n)
  where
    by : (b : Bool) → (slice_index text n == c) ≡ b → (r : Option ℕ) → MatchOption r ((k : ℕ) → k < n → slice_index text k ≢ c) (λ i. (k : ℕ) → i < k → k < n → slice_index text k ≢ c)
        → MatchOption (if b then Some n else r) ((k : ℕ) → k < suc n → slice_index text k ≢ c) (λ i. (k : ℕ) → i < k → k < suc n → slice_index text k ≢ c)
    by true is r rest = λ k far low. absurd (omega (arith, far, low))
    by false is None rest = λ k low same. elim (cases_eq k n) [
      | inl e ↦ eqb-false (slice_index text n) c is (subst (λ j. slice_index text j ≡ c) e same)
      | inr apart ↦ rest k (omega (arith, low, apart)) same
    ]
    by false is (Some i) rest = λ k far low same. elim (cases_eq k n) [
      | inl e ↦ eqb-false (slice_index text n) c is (subst (λ j. slice_index text j ≡ c) e same)
      | inr apart ↦ rest k far (omega (arith, low, apart)) same
    ]

behind : (path : List ℕ) (r : Option ℕ) → MatchOption r ((k : ℕ) → k < length path → slice_index path k ≢ 47) (λ i. (k : ℕ) → i < k → k < length path → slice_index path k ≢ 47)
    → LacksSlash (unwrap_or (option_map (λ (split : List ℕ × List ℕ). split.1) (option_map (λ (i : ℕ). (take i path, drop (i + 1) path)) r)) path)
behind path None none = none
behind path (Some i) none = λ j low same. none (i + 1 + j) (omega arith) (omega (arith, low, length-drop (i + 1) path)) (sym (get_or-drop (i + 1) path j 0) ∙ same)

-- what follows the last slash of a path has none
pub last_alone : (path : List ℕ) → LacksSlash (unwrap_or (option_map (λ (split : List ℕ × List ℕ). split.1) (rsplit_once 47 path)) path)
unfolding rsplit_once
last_alone path = behind path (rfind_below 47 path (length path)) (later 47 path (length path))

-- the path of what is no folder is its name behind that of its folder
plain_path : (kind : TreeKind) (named path : List ℕ) → kind ≢ Folder → path ≡ named → HasPath kind named path
plain_path Folder named path apart same = absurd (apart refl)
plain_path File named path apart same = same
plain_path Other named path apart same = same
plain_path OwnTree named path apart same = same
plain_path (Unread fault) named path apart same = inl same

entry_lies : (folder name path : List ℕ) (kind : TreeKind) (entry : TreeEntry) → kind ≢ Folder → HasReason kind → LacksSlash name → path ≡ folder ++ name → IsEntry path (length folder) kind entry → LiesIn folder entry
entry_lies folder name path kind entry apart reason alone spelled is = (
  is.1,
  subst HasReason (sym is.2) reason,
  (name, alone, subst (λ k. HasPath k (folder ++ name) (string_bytes entry.path)) (sym is.2) (plain_path kind (folder ++ name) (string_bytes entry.path) apart (is.0 ∙ spelled))),
)

-- an entry that is no folder is listed under its name
pub entry_added : {A E : Type 0} (r : Result A E) (folder name path : List ℕ) (kind : TreeKind) (old new : List TreeEntry) (left : List Pending) → kind ≢ Folder → HasReason kind → LacksSlash name → path ≡ folder ++ name
    → OnOk r ((entry : TreeEntry) × IsEntry path (length folder) kind entry × (new ≡ old ++ entry ∷ [])) → OnOk r (ListsName folder old new left left)
entry_added (Ok a) folder name path kind old new left apart reason alone spelled added = inl (added.0, entry_lies folder name path kind added.0 apart reason alone spelled added.1, added.2, refl)
entry_added (Err e) folder name path kind old new left apart reason alone spelled added = tt

-- a folder is left for later under its name
pub folder_left : {A E : Type 0} (r : Result A E) (folder name path : List ℕ) (waiting : Pending) (listed : List TreeEntry) (left now_left : List Pending) → LacksSlash name → path ≡ folder ++ name
    → string_bytes waiting.path ≡ path ++ 47 ∷ [] → waiting.own ≡ length folder → OnOk r (now_left ≡ left ++ waiting ∷ []) → OnOk r (ListsName folder listed listed left now_left)
folder_left (Ok a) folder name path waiting listed left now_left alone spelled slashed own pushed = inr (waiting, (own, (name, alone, slashed ∙ ap (λ p. p ++ 47 ∷ []) spelled)), refl, pushed)
folder_left (Err e) folder name path waiting listed left now_left alone spelled slashed own pushed = tt

-- what is listed of a folder so far, behind the folder itself
abbrev pub IsListedSoFar : List ℕ → List TreeEntry → List TreeEntry → List Pending → Type 0
IsListedSoFar folder first listed left = (below : List TreeEntry) × (listed ≡ first ++ below) × All (LiesIn folder) below × All (WaitsIn folder) left

pub none_listed : (folder : List ℕ) (first : List TreeEntry) (left : List Pending) → left ≡ [] → IsListedSoFar folder first first left
none_listed folder first left none = ([], sym (append-nil first), All-nil (LiesIn folder), subst (All (WaitsIn folder)) (sym none) (All-nil (WaitsIn folder)))

pub name_listed : (folder : List ℕ) (first old new : List TreeEntry) (left now_left : List Pending) → IsListedSoFar folder first old left → ListsName folder old new left now_left → IsListedSoFar folder first new now_left
name_listed folder first old new left now_left so_far lists = elim lists [
  | inl one ↦ (
    so_far.0 ++ one.0 ∷ [],
    one.2 ∙ ap (λ l. l ++ one.0 ∷ []) so_far.1 ∙ append_assoc first so_far.0 (one.0 ∷ []),
    All-push (LiesIn folder) so_far.0 one.0 so_far.2 one.1,
    subst (All (WaitsIn folder)) (sym one.3) so_far.3,
  )
  | inr one ↦ (so_far.0, one.2 ∙ so_far.1, so_far.2, subst (All (WaitsIn folder)) (sym one.3) (All-push (WaitsIn folder) left one.0 so_far.3 one.1))
]

All-reverse : {X : Type 0} (P : X → Type 0) (xs : List X) → All P xs → All P (reverse xs)
All-reverse P [] all = all
All-reverse P (x ∷ xs) all = subst (All P) (sym (reverse-append (x ∷ []) xs)) (All-push P (reverse xs) x (All-reverse P xs (All-tail P x xs all)) (All-head P x xs all))

-- a folder and what is in it
pub folder_listed : {A E : Type 0} (r : Result A E) (own : ℕ) (folder : List ℕ) (entry : TreeEntry) (old first listed : List TreeEntry) (left pile now_pile : List Pending) → IsEntry folder own Folder entry
    → first ≡ old ++ entry ∷ [] → IsListedSoFar folder first listed left → OnOk r (now_pile ≡ pile ++ reverse left) → OnOk r (ListsFolder own folder old listed pile now_pile)
folder_listed (Ok a) own folder entry old first listed left pile now_pile is begun so_far piled = record {
  entry = entry;
  below = so_far.0;
  coming = reverse left;
  path = is.0;
  place = is.1;
  shows = subst (λ k. Shows k folder so_far.0 (reverse left)) (sym is.2) (so_far.2, All-reverse (WaitsIn folder) left so_far.3);
  listed = so_far.1 ∙ ap (λ l. l ++ so_far.0) begun ∙ append_assoc old (entry ∷ []) so_far.0;
  later = piled;
}
folder_listed (Err e) own folder entry old first listed left pile now_pile is begun so_far piled = tt

-- a folder that cannot be read
pub folder_unread : {A E : Type 0} (r : Result A E) (own : ℕ) (folder : List ℕ) (fault : HostFault) (old new : List TreeEntry) (pile : List Pending) → IsTrue (is_reason fault)
    → OnOk r ((entry : TreeEntry) × IsEntry folder own (Unread fault) entry × (new ≡ old ++ entry ∷ [])) → OnOk r (ListsFolder own folder old new pile pile)
folder_unread (Ok a) own folder fault old new pile reason added = record {
  entry = added.0;
  below = [];
  coming = [];
  path = added.1.0;
  place = added.1.1;
  shows = subst (λ k. Shows k folder [] []) (sym added.1.2) (reason, refl, refl);
  listed = added.2;
  later = sym (append-nil pile);
}
folder_unread (Err e) own folder fault old new pile reason added = tt

-- a folder that is still to be listed lies in one that is listed
abbrev pub Waits : List TreeEntry → Pending → Type 0
Waits listed waiting = (folder : List ℕ) × HaveFolder listed folder × WaitsIn folder waiting

-- Nothing is listed yet, and the tree itself is to be. Or it is, and each folder that is still to be listed lies in one that is.
abbrev pub IsOnTheWay : List TreeEntry → List Pending → Type 0
IsOnTheWay listed pile =
    ((listed ≡ []) × ((first : Pending) × (pile ≡ first ∷ []) × (string_bytes first.path ≡ []) × (first.own ≡ 0)))
    ⊎ (IsTree listed × All (Waits listed) pile)

have_more : (listed later : List TreeEntry) (folder : List ℕ) → HaveFolder listed folder → HaveFolder (listed ++ later) folder
have_more listed later folder have = (have.0, Contains-append_left listed later have.0 have.1, have.2, have.3)

wait_more : (listed later : List TreeEntry) (pile : List Pending) → All (Waits listed) pile → All (Waits (listed ++ later)) pile
wait_more listed later pile all = All-weaker (Waits listed) (Waits (listed ++ later)) (λ waiting waits. (waits.0, have_more listed later waits.0 waits.1, waits.2)) pile all

tree_more : (listed : List TreeEntry) (folder : List ℕ) (below : List TreeEntry) → IsTree listed → HaveFolder listed folder → All (LiesIn folder) below → IsTree (listed ++ below)
tree_more listed folder [] tree have lie = subst IsTree (sym (append-nil listed)) tree
tree_more listed folder (e ∷ below) tree have lie =
    subst IsTree (append_assoc listed (e ∷ []) below) (
    tree_more (listed ++ e ∷ []) folder below (with_one listed folder e tree have (All-head (LiesIn folder) e below lie)) (have_more listed (e ∷ []) folder have) (All-tail (LiesIn folder) e below lie)
    )

-- behind a folder that is listed comes what it shows
shown_on : (front : List TreeEntry) (entry : TreeEntry) (path : List ℕ) (below : List TreeEntry) (coming : List Pending) (kind : TreeKind) → entry.kind ≡ kind → string_bytes entry.path ≡ path → IsTree (front ++ entry ∷ [])
    → Shows kind path below coming → IsTree ((front ++ entry ∷ []) ++ below) × All (Waits ((front ++ entry ∷ []) ++ below)) coming
shown_on front entry path below coming Folder is spelled tree shows =
    let have : HaveFolder (front ++ entry ∷ []) path = (entry, Contains-push front entry, is, spelled) in (
      tree_more (front ++ entry ∷ []) path below tree have shows.0,
      All-weaker (WaitsIn path) (Waits ((front ++ entry ∷ []) ++ below)) (λ waiting waits. (path, have_more (front ++ entry ∷ []) below path have, waits)) coming shows.1,
    )
shown_on front entry path below coming File is spelled tree shows = absurd shows
shown_on front entry path below coming Other is spelled tree shows = absurd shows
shown_on front entry path below coming OwnTree is spelled tree shows = absurd shows
shown_on front entry path below coming (Unread fault) is spelled tree shows = (
  subst IsTree (sym (append-nil (front ++ entry ∷ [])) ∙ ap (λ l. (front ++ entry ∷ []) ++ l) (sym shows.1)) tree,
  subst (All (Waits ((front ++ entry ∷ []) ++ below))) (sym shows.2) (All-nil (Waits ((front ++ entry ∷ []) ++ below))),
)

folder_kind : (kind : TreeKind) (path named : List ℕ) (below : List TreeEntry) (coming : List Pending) → Shows kind path below coming
    → HasReason kind × ((kind ≡ Folder) ⊎ ((fault : HostFault) × (kind ≡ Unread fault))) × (path ≡ named ++ 47 ∷ [] → HasPath kind named path)
folder_kind Folder path named below coming shows = (tt, inl refl, λ same. same)
folder_kind File path named below coming shows = absurd shows
folder_kind Other path named below coming shows = absurd shows
folder_kind OwnTree path named below coming shows = absurd shows
folder_kind (Unread fault) path named below coming shows = (shows.0, inr (fault, refl), λ same. inr same)

alone : {X : Type 0} (rest : List X) (x y : X) → rest ++ x ∷ [] ≡ y ∷ [] → (rest ≡ []) × (x ≡ y)
alone [] x y e = (refl, cc)
alone (z ∷ rest) x y e = absurd (omega (arith, ap length e, length-append rest (x ∷ [])))

-- the tree itself is listed
first_on : (now : List TreeEntry) (rest now_pile : List Pending) (waiting : Pending) → rest ≡ [] → string_bytes waiting.path ≡ [] → waiting.own ≡ 0
    → ListsFolder waiting.own (string_bytes waiting.path) [] now rest now_pile → IsTree now × All (Waits now) now_pile
first_on now rest now_pile waiting none path own lists =
    let kinds = folder_kind lists.entry.kind (string_bytes waiting.path) [] lists.below lists.coming lists.shows in
    let is_top : IsTop lists.entry = (lists.path ∙ path, lists.place ∙ own, kinds.0, kinds.1) in
    let shown = shown_on [] lists.entry (string_bytes waiting.path) lists.below lists.coming lists.entry.kind refl lists.path (itself lists.entry is_top) lists.shows in
    let piled : now_pile ≡ lists.coming = lists.later ∙ ap (λ l. l ++ lists.coming) none in (
      subst IsTree (sym lists.listed) shown.0,
      subst (All (Waits now)) (sym piled) (subst (λ l. All (Waits l) lists.coming) (sym lists.listed) shown.1),
    )

-- a folder in the tree is listed
next_on : (listed now : List TreeEntry) (rest now_pile : List Pending) (waiting : Pending) → IsTree listed → All (Waits listed) rest → Waits listed waiting
    → ListsFolder waiting.own (string_bytes waiting.path) listed now rest now_pile → IsTree now × All (Waits now) now_pile
next_on listed now rest now_pile waiting tree wait waits lists =
    let entry = lists.entry in
    let folder = waits.0 in
    let name = waits.2.1.0 in
    let kinds = folder_kind entry.kind (string_bytes waiting.path) (folder ++ name) lists.below lists.coming lists.shows in
    let path : HasPath entry.kind (folder ++ name) (string_bytes entry.path) = subst (HasPath entry.kind (folder ++ name)) (sym lists.path) (kinds.2 waits.2.1.2) in
    let lies : LiesIn folder entry = (lists.place ∙ waits.2.0, kinds.0, (name, waits.2.1.1, path)) in
    let grown : IsTree (listed ++ entry ∷ []) = with_one listed folder entry tree waits.1 lies in
    let shown = shown_on listed entry (string_bytes waiting.path) lists.below lists.coming entry.kind refl lists.path grown lists.shows in
    let is : now ≡ (listed ++ entry ∷ []) ++ lists.below = lists.listed ∙ sym (append_assoc listed (entry ∷ []) lists.below) in
    let left : All (Waits ((listed ++ entry ∷ []) ++ lists.below)) rest = wait_more (listed ++ entry ∷ []) lists.below rest (wait_more listed (entry ∷ []) rest wait) in
    let all = All-append (Waits ((listed ++ entry ∷ []) ++ lists.below)) rest lists.coming left shown.1 in (
      subst IsTree (sym is) shown.0,
      subst (All (Waits now)) (sym lists.later) (subst (λ l. All (Waits l) (rest ++ lists.coming)) (sym is) all),
    )

pub way_begun : (pile : List Pending) (first : Pending) (listed : List TreeEntry) → listed ≡ [] → pile ≡ first ∷ [] → string_bytes first.path ≡ [] → first.own ≡ 0 → IsOnTheWay listed pile
way_begun pile first listed none one path own = inl (none, (first, one, path, own))

pub way_on : (listed now : List TreeEntry) (pile rest now_pile : List Pending) (waiting : Pending) → IsOnTheWay listed pile → pile ≡ rest ++ waiting ∷ [] → ListsFolder waiting.own (string_bytes waiting.path) listed now rest now_pile
    → IsOnTheWay now now_pile
way_on listed now pile rest now_pile waiting way popped lists = elim way [
  | inl begun ↦
      let one = alone rest waiting begun.1.0 (sym popped ∙ begun.1.1) in
      inr (first_on now rest now_pile waiting one.0 (ap (λ (p : Pending). string_bytes p.path) one.1 ∙ begun.1.2) (ap (λ (p : Pending). p.own) one.1 ∙ begun.1.3)
      (subst (λ l. ListsFolder waiting.own (string_bytes waiting.path) l now rest now_pile) begun.0 lists))
  | inr going ↦
      let parts = All-pop (Waits listed) pile rest (Some waiting) popped going.1 in
      inr (next_on listed now rest now_pile waiting going.0 parts.0 parts.1 lists)
]

pub way_ends : (listed : List TreeEntry) (pile : List Pending) → IsOnTheWay listed pile → length pile ≡ 0 → IsTree listed
way_ends listed pile way none = elim way [
  | inl begun ↦ absurd (omega (arith, none, ap length begun.1.1))
  | inr going ↦ going.0
]

-- an entry is added
pub entry_pushed : {A E : Type 0} (r : Result A E) (path : List ℕ) (own : ℕ) (kind : TreeKind) (entry : TreeEntry) (old new : List TreeEntry) → string_bytes entry.path ≡ path → entry.own ≡ own → entry.kind ≡ kind
    → OnOk r (new ≡ old ++ entry ∷ []) → OnOk r ((one : TreeEntry) × IsEntry path own kind one × (new ≡ old ++ one ∷ []))
entry_pushed (Ok a) path own kind entry old new spelled begins is pushed = (entry, (spelled, begins, is), pushed)
entry_pushed (Err e) path own kind entry old new spelled begins is pushed = tt

-- a folder of which it is not known whether it leads back has a reason
pub folder_reason : (r : Result Bool HostFault) (kind : TreeKind) → kind ≡ kind_of_folder r → IfErr r (λ fault. IsTrue (is_reason fault)) → HasReason kind
folder_reason (Ok false) kind is reason = subst HasReason (sym is) tt
folder_reason (Ok true) kind is reason = subst HasReason (sym is) tt
folder_reason (Err fault) kind is reason = subst HasReason (sym is) reason

pub none_on_top : {X : Type 0} (xs : List X) → length xs ≡ 0 → reverse xs ≡ []
none_on_top [] none = refl
none_on_top (x ∷ xs) none = absurd (omega (arith, none))
