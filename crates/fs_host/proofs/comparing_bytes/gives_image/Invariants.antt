-- The blocks so far were given, but for those that are held back, and there is room for a block more.
use Rattle.std.proofs.Common.{◌≡◌, ◌+◌, ◌%◌, ◌≤◌, List, ℕ, ◌++◌, take}
use Rattle.std.specs.List.{concat}
use Rattle.fs_host.specs.Compared.{Gives}
use Rattle.fs_host.proofs.comparing_bytes.gives_image.Given as goal

abbrev pub invariant-loop-lbn : goal.invariant-loop-lbn
invariant-loop-lbn g l = record {
  room : l.held + 512 ≤ 65536;
  aligned : l.held % 512 ≡ 0;
  given : (given : List ℕ) × Gives l.ends_in_zeros (g.R.Read.remaining l.initial.reader) (g.R.Read.remaining l.reader) given × (given ++ take l.held l.piece ≡ concat (take l.lbn l.image));
}
