use Rattle.std.proofs.Common.{◌∙◌, sym, subst}
use Rattle.std.specs.Prelude.{String, string_bytes}
use Rattle.std.specs.List.{All}
use Rattle.std.specs.declared.alloc.Global.{Global}
use Rattle.std.proofs.lemmas.List.Elements.{All-push}
use Rattle.std.proofs.lemmas.List.Sorted.{All-permutation}
use Rattle.fs_host.specs.Names.{LacksSlash}
use Rattle.fs_host.proofs.ListedTrees.{last_alone}
use Rattle.fs_host.proofs.host_tree.names_in.Goals as goal

-- the text has no slash
abbrev IsAlone : String Global → Type 0
IsAlone name = LacksSlash (string_bytes name)

pub loop-entry-preserved : goal.loop-entry-preserved
loop-entry-preserved g c =
    let alone : IsAlone c.in_ok-name.name = subst LacksSlash (sym (c.in_ok-name.ensures.ok ∙ c.file_name.ensures)) (last_alone _) in
    subst (All IsAlone) (sym c.in_ok-push.ensures) (All-push IsAlone c.loop-entry.names.items c.in_ok-name.name c.loop-entry.invariant alone)

pub returns-clause-names : goal.returns-clause-names
returns-clause-names g c = All-permutation IsAlone c.loop-entry.names.items c.sort.new.self.items c.sort.ensures.permutation c.loop-entry.invariant
