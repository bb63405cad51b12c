-- Files that get another protection or owner, one after another.
use Rattle.std.proofs.Common.{◌≡◌, ◌+◌, ◌<◌, sym, subst, inl, inr, ℕ, List, length, get_or, drop, Option}
use Rattle.std.specs.String.{string_bytes}
use Rattle.ods_base.specs.declared.file_id.Uic.{Uic}
use Rattle.ods_filing.specs.Filed.{Filed}
use Rattle.ods_shell.specs.declared.found.Found.{Found}
use Rattle.ods_upkeep.specs.declared.failure.Failure.{Failure}
use Rattle.ods_filing.specs.Amended.{HasGiven}
use Rattle.ods_upkeep.specs.Given.{GetAccess, GetTheirs, GetsAccess, GetsNone, GetsNotIts, StopsGiving, StopsGivingTheirs}
use Rattle.ods_upkeep.specs.declared.giving.Access.{Access}
use Rattle.ods_upkeep.specs.Refused.{HasPath}
use Rattle.ods_upkeep.proofs.Stopping.{left_from}

module _ (owner : Option Uic) (protection : Option ℕ) (all : List Found) (i : ℕ) (x : Found) (within : i < length all) (is : x ≡ get_or all i x) where
  -- one of those that are left gets them, and then the others
  pub gets_next : (mid next new : Filed) → GetsAccess owner protection x.facts mid next → GetAccess owner protection (drop (i + 1) all) next new → GetAccess owner protection (drop i all) mid new
  gets_next mid next new got rest = subst (λ l. GetAccess owner protection l mid new) (sym (left_from all i x within is)) (next, got, rest)

  -- where what is left of some stops behind one, all stop
  pub stops_behind : (mid next new : Filed) (failure : Failure) → GetsAccess owner protection x.facts mid next → StopsGiving owner protection (drop (i + 1) all) next new failure → StopsGiving owner protection (drop i all) mid new failure
  stops_behind mid next new failure got stop = subst (λ l. StopsGiving owner protection l mid new failure) (sym (left_from all i x within is)) (inr (next, got, stop))

  -- and where one gets none
  pub stops_at : (mid new : Filed) (failure : Failure) → HasPath failure (string_bytes x.path) → new ≡ mid → GetsNone x.facts mid failure.why → StopsGiving owner protection (drop i all) mid new failure
  stops_at mid new failure said same none = subst (λ l. StopsGiving owner protection l mid new failure) (sym (left_from all i x within is)) (inl (said, same, none))

module _ (all : List Access) (i : ℕ) (x : Access) (within : i < length all) (is : x ≡ get_or all i x) where
  -- one of those that are left gets its own, and then the others
  pub theirs_next : (mid next new : Filed) → HasGiven mid x.file x.owner x.protection next → GetTheirs (drop (i + 1) all) next new → GetTheirs (drop i all) mid new
  theirs_next mid next new got rest = subst (λ l. GetTheirs l mid new) (sym (left_from all i x within is)) (next, got, rest)

  -- where what is left of some stops behind one, all stop
  pub theirs_behind : (mid next new : Filed) (failure : Failure) → HasGiven mid x.file x.owner x.protection next → StopsGivingTheirs (drop (i + 1) all) next new failure → StopsGivingTheirs (drop i all) mid new failure
  theirs_behind mid next new failure got stop = subst (λ l. StopsGivingTheirs l mid new failure) (sym (left_from all i x within is)) (inr (next, got, stop))

  -- and where one gets none
  pub theirs_at : (mid new : Filed) (failure : Failure) → HasPath failure (string_bytes x.path) → new ≡ mid → GetsNotIts x mid failure.why → StopsGivingTheirs (drop i all) mid new failure
  theirs_at mid new failure said same none = subst (λ l. StopsGivingTheirs l mid new failure) (sym (left_from all i x within is)) (inl (said, same, none))
