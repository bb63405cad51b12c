-- The file was given the blocks so far, and no other name has changed.
use Rattle.std.proofs.Common.{◌≡◌, ◌++◌, take}
use Rattle.std.specs.List.{concat}
use Rattle.fs_saving.specs.Folder.{OthersStay, OthersLast}
use Rattle.fs_saving.specs.Memory.{Holds, HeldOnce}
use Rattle.fs_saving.proofs.memory.MemoryFolder.write_all.Given as goal

abbrev pub invariant-loop-lbn : goal.invariant-loop-lbn
invariant-loop-lbn l = record {
  named : l.file.name.items ≡ l.initial.file.name.items;
  given : l.file.given.items ≡ l.initial.file.given.items ++ concat (take l.lbn l.image);
  others : OthersStay (Holds l.initial.self) (Holds l.self) l.initial.file.name.items;
  moments : OthersLast (HeldOnce l.initial.self) (HeldOnce l.self) l.initial.file.name.items;
}
