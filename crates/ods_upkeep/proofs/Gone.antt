-- What rm asks for, one after another.
use Rattle.std.proofs.Common.{◌≡◌, ◌≢◌, ◌+◌, ◌<◌, refl, sym, subst, inl, inr, ℕ, Bool, true, false, cond, List, [], ◌∷◌, ◌++◌, length, get_or, drop, Option, Some, None, eq-eqb}
use Rattle.std.specs.String.{string_bytes}
use Rattle.std.proofs.lemmas.Bool.{ne_eqb}
use Rattle.ods_request.specs.declared.requests.Request.TheVariants.{Delete}
use Rattle.ods_filing.specs.Filed.{Filed}
use Rattle.ods_filing.specs.Led.{IsObeyed}
use Rattle.ods_shell.specs.declared.facts.Facts.{Facts}
use Rattle.ods_shell.specs.declared.found.EntryPlace.{EntryPlace}
use Rattle.ods_shell.specs.declared.found.Found.{Found}
use Rattle.ods_upkeep.specs.declared.failure.Failure.{Failure}
use Rattle.ods_upkeep.specs.declared.failure.Why.{Why}
use Rattle.ods_upkeep.specs.declared.failure.Why.TheVariants.{Path, Request, Text, Put, BadName, IsDirectory, DirectoryType, DirectoryThere, IntoItself, IsId, Several, Versioned, IsNamed, PastEnd, Hidden}
use Rattle.ods_upkeep.specs.Pieces.{Stays}
use Rattle.ods_upkeep.specs.Refused.{HasPath, IsRefusedBy, StopsAt}
use Rattle.ods_upkeep.specs.Removed.{Does, HasNames, IsOfDirectory, MayNotGo, StopsGoing, entry_gone, file_gone, names_left, one_gone, removals}
use Rattle.ods_upkeep.proofs.Doing.{IsPartly, does_one, one_more, then_does}
use Rattle.ods_upkeep.proofs.Stopping.{left_from, stops_first, stops_later, stops_one}

-- the entry alone goes
pub entry_alone : (old new : Filed) (alone : Bool) (names : ℕ → ℕ) (place : Option EntryPlace) (known : Option Facts) → alone ≡ true → Does old (entry_gone place) new → Does old (one_gone alone names place known) new
entry_alone old new alone names place known is done = subst (λ b. Does old (one_gone b names place known) new) (sym is) done

-- the entry goes, and then the file that no entry names
pub and_file : (old mid new : Filed) (alone : Bool) (names left : ℕ → ℕ) (place : Option EntryPlace) (known : Option Facts) → alone ≡ false → left ≡ names_left names place known → Does old (entry_gone place) mid
    → Does mid (file_gone left known) new → Does old (one_gone alone names place known) new
and_file old mid new alone names left place known is are first last =
    let both : Does old (one_gone false names place known) new = then_does old mid new (entry_gone place) (file_gone (names_left names place known) known) first (subst (λ n. Does mid (file_gone n known) new) are last) in
    subst (λ b. Does old (one_gone b names place known) new) (sym is) both

-- no entry names the file, which is deleted
pub file_goes : (old new : Filed) (names : ℕ → ℕ) (facts : Facts) → names facts.file.number ≡ 0 → IsObeyed old (Delete facts.file) new → Does old (file_gone names (Some facts)) new
file_goes old new names facts none done =
    subst (λ b. Does old (cond b (Delete facts.file ∷ []) []) new) (sym (eq-eqb (names facts.file.number) 0 none)) (does_one old new (Delete facts.file) done)

-- an entry names it still
pub file_stays : (old : Filed) (names : ℕ → ℕ) (facts : Facts) → names facts.file.number ≢ 0 → Does old (file_gone names (Some facts)) old
file_stays old names facts some = subst (λ b. Does old (cond b (Delete facts.file ∷ []) []) old) (sym (ne_eqb (names facts.file.number) 0 some)) refl

-- one of those that are left goes
pub next_goes : (old mid new : Filed) (alone : Bool) (first names left : ℕ → ℕ) (all : List Found) (i : ℕ) (x : Found) → i < length all → x ≡ get_or all i x
    → IsPartly old mid (removals alone first all) (removals alone names (drop i all)) → Does mid (one_gone alone names x.place x.facts) new → left ≡ names_left names x.place x.facts
    → IsPartly old new (removals alone first all) (removals alone left (drop (i + 1) all))
next_goes old mid new alone first names left all i x within is so_far done are =
    let here : drop i all ≡ x ∷ drop (i + 1) all = left_from all i x within is in
    let left_here : IsPartly old mid (removals alone first all) (one_gone alone names x.place x.facts ++ removals alone (names_left names x.place x.facts) (drop (i + 1) all)) =
    subst (λ l. IsPartly old mid (removals alone first all) (removals alone names l)) here so_far in
    subst (λ n. IsPartly old new (removals alone first all) (removals alone n (drop (i + 1) all))) (sym are)
    (one_more old mid new (removals alone first all) (one_gone alone names x.place x.facts) (removals alone (names_left names x.place x.facts) (drop (i + 1) all)) left_here done)

-- where what is left of some stops after one more has gone, all stop
pub stops_on : (mid next new : Filed) (alone : Bool) (names left : ℕ → ℕ) (all : List Found) (i : ℕ) (x : Found) (failure : Failure) → i < length all → x ≡ get_or all i x
    → Does mid (one_gone alone names x.place x.facts) next → left ≡ names_left names x.place x.facts → StopsGoing alone left (drop (i + 1) all) next new failure → StopsGoing alone names (drop i all) mid new failure
stops_on mid next new alone names left all i x failure within is done are stop =
    subst (λ l. StopsGoing alone names l mid new failure) (sym (left_from all i x within is)) (inr (next, done, subst (λ n. StopsGoing alone n (drop (i + 1) all) next new failure) are stop))

-- and where one does not go
pub stops_here : (mid new : Filed) (alone : Bool) (names : ℕ → ℕ) (all : List Found) (i : ℕ) (x : Found) (failure : Failure) → i < length all → x ≡ get_or all i x → HasPath failure (string_bytes x.path)
    → StopsAt mid (one_gone alone names x.place x.facts) new failure.why → StopsGoing alone names (drop i all) mid new failure
stops_here mid new alone names all i x failure within is said stop = subst (λ l. StopsGoing alone names l mid new failure) (sym (left_from all i x within is)) (inl (said, stop))

-- the entry alone does not go
pub entry_stays : (old new : Filed) (alone : Bool) (names : ℕ → ℕ) (place : Option EntryPlace) (known : Option Facts) (why : Why) → StopsAt old (entry_gone place) new why → StopsAt old (one_gone alone names place known) new why
entry_stays old new true names place known why stop = stop
entry_stays old new false names place known why stop = stops_first old new (entry_gone place) (file_gone (names_left names place known) known) why stop

-- the entry goes, and its file does not
pub file_stops : (old mid new : Filed) (alone : Bool) (names left : ℕ → ℕ) (place : Option EntryPlace) (known : Option Facts) (why : Why) → alone ≡ false → left ≡ names_left names place known → Does old (entry_gone place) mid
    → StopsAt mid (file_gone left known) new why → StopsAt old (one_gone alone names place known) new why
file_stops old mid new alone names left place known why is are first stop =
    let both : StopsAt old (one_gone false names place known) new why = stops_later old mid new (entry_gone place) (file_gone (names_left names place known) known) why first (subst (λ n. StopsAt mid (file_gone n known) new why) are stop) in
    subst (λ b. StopsAt old (one_gone b names place known) new why) (sym is) both

-- no entry names the file, and it is not deleted
pub delete_stops : (old new : Filed) (names : ℕ → ℕ) (facts : Facts) (why : Why) → names facts.file.number ≡ 0 → new ≡ old → IsRefusedBy old (Delete facts.file) why → StopsAt old (file_gone names (Some facts)) new why
delete_stops old new names facts why none same refused =
    subst (λ b. StopsAt old (cond b (Delete facts.file ∷ []) []) new why) (sym (eq-eqb (names facts.file.number) 0 none)) (stops_one old new (Delete facts.file) same why refused)

-- What may go does not stay. Where the entry alone is meant it has one. Else its file is no directory, and is not named by an ID while entries name it.
pub may_go : (alone : Bool) (names : ℕ → ℕ) (f : Found) → ¬ Stays f.place f.facts → (alone ≡ true → f.place ≢ None) → (alone ≡ false → ¬ IsOfDirectory f.facts) → (alone ≡ false → f.place ≡ None → ¬ HasNames names f.facts)
    → (why : Why) → ¬ MayNotGo alone names f why
may_go alone names f free has plain unnamed (Request reason) kept = free kept.1
may_go alone names f free has plain unnamed IsId kept = has kept.0 kept.1
may_go alone names f free has plain unnamed IsDirectory kept = plain kept.0 kept.1
may_go alone names f free has plain unnamed IsNamed kept = unnamed kept.0 kept.1 kept.2
may_go alone names f free has plain unnamed (Path fault) kept = absurd kept
may_go alone names f free has plain unnamed (Text fault) kept = absurd kept
may_go alone names f free has plain unnamed (Put fault) kept = absurd kept
may_go alone names f free has plain unnamed BadName kept = absurd kept
may_go alone names f free has plain unnamed DirectoryType kept = absurd kept
may_go alone names f free has plain unnamed DirectoryThere kept = absurd kept
may_go alone names f free has plain unnamed IntoItself kept = absurd kept
may_go alone names f free has plain unnamed Several kept = absurd kept
may_go alone names f free has plain unnamed Versioned kept = absurd kept
may_go alone names f free has plain unnamed PastEnd kept = absurd kept
may_go alone names f free has plain unnamed Hidden kept = absurd kept
