-- Host files that are read early, one after another.
use Rattle.std.proofs.Common.{◌≡◌, ◌<◌, ◌+◌, ℕ, suc, List, length, sym, subst, get_or, drop, arith}
use Rattle.std.proofs.Math.Seq.{drop-cons}
use Rattle.std.specs.Borrow.{Bor}
use Rattle.f11fs.specs.Given.{HostGives}
use Rattle.f11fs.specs.Readings.{MayAddReading, MayAddReadings}
use Rattle.f11fs.specs.declared.early.Early.{Early}

-- the first of the rest is read, and then the rest of it
pub readings_on : (G : HostGives) (paths : List (Bor (List ℕ))) (i : ℕ) (d : Bor (List ℕ)) (old mid : Early) (goal : Early → Type 0) → i < length paths
    → ((new : Early) → MayAddReadings G (drop i paths) old new → goal new) → MayAddReading G (get_or paths i d).now old mid
    → (new : Early) → MayAddReadings G (drop (i + 1) paths) mid new → goal new
readings_on G paths i d old mid goal lt before one new rest =
    let place : i + 1 ≡ suc i = omega arith in
    before new (subst (λ l. MayAddReadings G l old new) (sym (drop-cons paths i d lt)) (mid, one, subst (λ k. MayAddReadings G (drop k paths) mid new) place rest))
