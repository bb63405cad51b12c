-- What mv asks for, one name after another.
use Rattle.std.proofs.Common.{◌≡◌, ◌+◌, ◌<◌, ◌∙◌, sym, subst, inl, inr, ℕ, Bool, true, false, List, length, get_or, drop, Option, Some, Result, Ok, Err}
use Rattle.std.specs.Prelude.{unwrap_or, MatchBool, MatchResult}
use Rattle.std.specs.String.{string_bytes}
use Rattle.ods_base.specs.Name.{RadName}
use Rattle.ods_base.specs.declared.name.Pick.TheVariants.{Exact}
use Rattle.ods_request.specs.declared.requests.Request.TheVariants.{Enter, Remove}
use Rattle.ods_filing.specs.Filed.{Filed}
use Rattle.ods_filing.specs.Led.{IsObeyed}
use Rattle.ods_space.specs.Layout.{VolumeLayout}
use Rattle.ods_shell.specs.declared.facts.Facts.{Facts}
use Rattle.ods_shell.specs.declared.facts.Kind.TheVariants.{Directory}
use Rattle.ods_shell.specs.declared.found.EntryPlace.{EntryPlace}
use Rattle.ods_shell.specs.declared.found.Found.{Found}
use Rattle.ods_upkeep.specs.declared.target.Target.{Target}
use Rattle.ods_upkeep.specs.declared.failure.Failure.{Failure}
use Rattle.ods_upkeep.specs.declared.failure.Why.{Why}
use Rattle.ods_upkeep.specs.Moved.{AreMoved, GoesIntoItself, HasBelow, IsFree, IsFreeName, IsNotMoving, IsTakenName, StopsMoving, name_for, one_moved, version_for}
use Rattle.ods_upkeep.specs.Refused.{HasPath, IsNotDone, IsRefusedBy, no_memory}
use Rattle.ods_upkeep.specs.Removed.{Does}
use Rattle.ods_upkeep.proofs.Doing.{does_one}
use Rattle.ods_upkeep.proofs.Stopping.{left_from}

-- a name is entered anew, and then the entry goes that was found
pub name_moves : (old mid new : Filed) (to : Target) (p : EntryPlace) (name : RadName) (version : Option ℕ) → name ≡ unwrap_or to.name p.entry.name → version ≡ version_for to.version name
    → IsObeyed old (Enter to.directory name version p.entry.file) mid → IsObeyed mid (Remove p.directory p.entry.name (Exact p.entry.version)) new → Does old (one_moved to (Some p)) new
name_moves old mid new to p name version name_is version_is entered gone =
    let named : IsObeyed old (Enter to.directory (name_for to p) (version_for to.version (name_for to p)) p.entry.file) mid =
    subst (λ n. IsObeyed old (Enter to.directory n (version_for to.version n) p.entry.file) mid) name_is (subst (λ v. IsObeyed old (Enter to.directory name v p.entry.file) mid) version_is entered) in
    (mid, named, does_one mid new (Remove p.directory p.entry.name (Exact p.entry.version)) gone)

-- where the others move after one more, all that are left do
pub moved_on : (mid next new : Filed) (to : Target) (all : List Found) (i : ℕ) (x : Found) → i < length all → x ≡ get_or all i x → IsFree mid to x.place → Does mid (one_moved to x.place) next → AreMoved to (drop (i + 1) all) next new
    → AreMoved to (drop i all) mid new
moved_on mid next new to all i x within is free done moved = subst (λ l. AreMoved to l mid new) (sym (left_from all i x within is)) (next, free, done, moved)

-- where they stop then, all that are left do
pub stops_on : (mid next new : Filed) (to : Target) (all : List Found) (i : ℕ) (x : Found) (failure : Failure) → i < length all → x ≡ get_or all i x → IsFree mid to x.place → Does mid (one_moved to x.place) next
    → StopsMoving to (drop (i + 1) all) next new failure → StopsMoving to (drop i all) mid new failure
stops_on mid next new to all i x failure within is free done stop = subst (λ l. StopsMoving to l mid new failure) (sym (left_from all i x within is)) (inr (next, free, done, stop))

-- and where one does not move
pub stops_here : (mid new : Filed) (to : Target) (all : List Found) (i : ℕ) (x : Found) (failure : Failure) → i < length all → x ≡ get_or all i x → HasPath failure (string_bytes x.path) → IsNotMoving to x.place mid new failure.why
    → StopsMoving to (drop i all) mid new failure
stops_here mid new to all i x failure within is said stays = subst (λ l. StopsMoving to l mid new failure) (sym (left_from all i x within is)) (inl (said, stays))

-- the name that an entry gets is free
pub free_for : (f : Filed) (to : Target) (p : EntryPlace) (name : RadName) → name ≡ unwrap_or to.name p.entry.name → IsFreeName f to name → IsFree f to (Some p)
free_for f to p name is free = subst (IsFreeName f to) is free

-- or it is taken
pub taken_for : (old new : Filed) (to : Target) (p : EntryPlace) (name : RadName) (why : Why) → name ≡ unwrap_or to.name p.entry.name → IsTakenName to name old new why → IsNotMoving to (Some p) old new why
taken_for old new to p name why is taken = inl (subst (λ n. IsTakenName to n old new why) is taken)

-- the name is not entered
pub enter_stops : (old mid new : Filed) (to : Target) (p : EntryPlace) (name : RadName) (version : Option ℕ) (why : Why) → name ≡ unwrap_or to.name p.entry.name → version ≡ version_for to.version name → mid ≡ old → new ≡ mid
    → IsFreeName old to name → IsNotDone mid (Enter to.directory name version p.entry.file) why → IsNotMoving to (Some p) old new why
enter_stops old mid new to p name version why name_is version_is same still free refused =
    let asked : IsNotDone old (Enter to.directory (name_for to p) (version_for to.version (name_for to p)) p.entry.file) why =
    subst (λ n. IsNotDone old (Enter to.directory n (version_for to.version n) p.entry.file) why) name_is
    (subst (λ v. IsNotDone old (Enter to.directory name v p.entry.file) why) version_is (subst (λ f. IsNotDone f (Enter to.directory name version p.entry.file) why) same refused)) in
    inr (free_for old to p name name_is free, inl (still ∙ same, asked))

-- it is entered, and the entry does not go
pub remove_stops : (old mid new : Filed) (to : Target) (p : EntryPlace) (name : RadName) (version : Option ℕ) (why : Why) → name ≡ unwrap_or to.name p.entry.name → version ≡ version_for to.version name → IsFreeName old to name
    → IsObeyed old (Enter to.directory name version p.entry.file) mid → new ≡ mid → IsRefusedBy mid (Remove p.directory p.entry.name (Exact p.entry.version)) why → IsNotMoving to (Some p) old new why
remove_stops old mid new to p name version why name_is version_is free entered same refused =
    let named : IsObeyed old (Enter to.directory (name_for to p) (version_for to.version (name_for to p)) p.entry.file) mid =
    subst (λ n. IsObeyed old (Enter to.directory n (version_for to.version n) p.entry.file) mid) name_is (subst (λ v. IsObeyed old (Enter to.directory name v p.entry.file) mid) version_is entered) in
    inr (free_for old to p name name_is free, inr (mid, named, inl (same, inl refused)))

-- a directory would go into itself where what it has below says so
pub into_by : (I : List (List ℕ)) (L : VolumeLayout) (to : Target) (known : Option Facts) (facts : Facts) (has : Bool) → known ≡ Some facts → facts.kind ≡ Directory
    → MatchBool has (HasBelow I L facts.file.number to.directory.number) (¬ HasBelow I L facts.file.number to.directory.number) → MatchBool has (GoesIntoItself I L to known) (¬ GoesIntoItself I L to known)
into_by I L to known facts true is kind has = subst (GoesIntoItself I L to) (sym is) (kind, has)
into_by I L to known facts false is kind none = subst (λ k. ¬ GoesIntoItself I L to k) (sym is) (λ into. none into.1)

pub into_when : (I : List (List ℕ)) (L : VolumeLayout) (to : Target) (known : Option Facts) (facts : Facts) (result : Result Bool Why) → known ≡ Some facts → facts.kind ≡ Directory
    → MatchResult result (λ has. MatchBool has (HasBelow I L facts.file.number to.directory.number) (¬ HasBelow I L facts.file.number to.directory.number)) (λ why. why ≡ no_memory)
    → MatchResult result (λ has. MatchBool has (GoesIntoItself I L to known) (¬ GoesIntoItself I L to known)) (λ why. why ≡ no_memory)
into_when I L to known facts (Ok has) is kind leads = into_by I L to known facts has is kind leads
into_when I L to known facts (Err why) is kind none = none
