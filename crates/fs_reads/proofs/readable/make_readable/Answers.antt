use Rattle.std.proofs.Common.{ℕ, List, subst, sym}
use Rattle.ods_mount.specs.Faults.{FaultIsTrue}
use Rattle.fs_reads.proofs.readable.make_readable.Goals as goal

pub refused-requires : goal.refused-requires
refused-requires g c = λ other. subst (λ (I : List (List ℕ)). FaultIsTrue I c.in-Err.fault) (sym c.in-Err.ensures.unchanged) (c.in-Err.ensures.fault other)
