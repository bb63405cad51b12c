-- What chmod, chown and label leave, refused or not.
use Rattle.std.proofs.Common.{◌≡◌, ◌⊎◌, ℕ, List, [], ◌∷◌, Option, Some, None, Result, Ok, Err, inl, inr}
use Rattle.std.specs.Prelude.{IfErr, OnErr, OnOk}
use Rattle.std.specs.Borrow.{Bor}
use Rattle.ods_base.specs.declared.file_id.Uic.{Uic}
use Rattle.ods_filing.specs.Filed.{Filed}
use Rattle.ods_shell.specs.declared.facts.Facts.{Facts}
use Rattle.ods_shell.specs.declared.found.Found.{Found}
use Rattle.ods_upkeep.specs.Given.{AreGiven, AreNotGiven, GetAccess, GetsAccess, StopsGiving}
use Rattle.ods_upkeep.specs.declared.failure.Failure.{Failure}
use Rattle.f11fs.specs.Changed.{SomeGot}

module _ (owner : Option Uic) (protection : Option ℕ) where
  -- one file, and some behind it
  one_more : (facts : Option Facts) (old mid new : Filed) → GetsAccess owner protection facts old mid → SomeGot owner protection mid new → SomeGot owner protection old new
  one_more None old mid new got rest = absurd got
  one_more (Some facts) old mid new got rest = (facts.file ∷ rest.0, (mid, got, rest.1))

  all_got : (found : List Found) (old new : Filed) → GetAccess owner protection found old new → SomeGot owner protection old new
  all_got [] old new same = ([], same)
  all_got (f ∷ found) old new are = one_more f.facts old are.0 new are.1 (all_got found are.0 new are.2)

  some_before : (found : List Found) (old new : Filed) (failure : Failure) → StopsGiving owner protection found old new failure → SomeGot owner protection old new
  some_before [] old new failure stops = absurd stops
  some_before (f ∷ found) old new failure (inl here) = ([], here.1)
  some_before (f ∷ found) old new failure (inr later) = one_more f.facts old later.0 new later.1 (some_before found later.0 new failure later.2)

  refused_got : (paths : List (Bor (List ℕ))) (old new : Filed) (failure : Failure) → AreNotGiven owner protection paths old new failure → SomeGot owner protection old new
  refused_got paths old new failure (inl none) = ([], none.0)
  refused_got paths old new failure (inr some) = some_before some.0 old new failure some.2

  pub some_got : {A : Type 0} (paths : List (Bor (List ℕ))) (old new : Filed) (r : Result A Failure) → OnOk r (AreGiven owner protection paths old new) → IfErr r (AreNotGiven owner protection paths old new) → SomeGot owner protection old new
  some_got paths old new (Ok x) done refused = all_got done.0 old new done.2
  some_got paths old new (Err failure) done refused = refused_got paths old new failure refused

-- it is done, or nothing is
pub done_or_same : {A E : Type 0} (P : Type 0) (old new : Filed) (r : Result A E) → OnOk r P → OnErr r (new ≡ old) → (new ≡ old) ⊎ P
done_or_same P old new (Ok x) done kept = inr done
done_or_same P old new (Err e) done kept = inl kept
