use Rattle.std.specs.Prelude.{String, string_bytes}
use Rattle.std.specs.List.{All}
use Rattle.std.specs.declared.alloc.Global.{Global}
use Rattle.fs_host.specs.Names.{LacksSlash}
use Rattle.fs_host.proofs.host_tree.names_in.Given as goal

-- no name has a slash
abbrev pub invariant-loop-entry : goal.invariant-loop-entry
invariant-loop-entry g l = All (λ (name : String Global). LacksSlash (string_bytes name)) l.names.items
