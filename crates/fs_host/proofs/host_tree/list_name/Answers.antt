use Rattle.std.proofs.Common.{◌≡◌, ◌++◌, ◌∷◌, [], List, ℕ, length, refl, rules, subst}
use Rattle.std.specs.Prelude.{OnOk, string_bytes}
use Rattle.fs_host.specs.Trees.{IsEntry}
use Rattle.fs_host.specs.declared.host_tree.Pending.{Pending}
use Rattle.fs_host.specs.declared.host_tree.TreeEntry.{TreeEntry}
use Rattle.fs_host.proofs.ListedTrees.{entry_added, folder_left}
use Rattle.fs_host.proofs.host_tree.list_name.Goals as goal

pub returns-in-Folder : goal.returns-in-Folder
returns-in-Folder g c =
    let path = string_bytes c.in_ok-path.path in
    let waiting : Pending = record { path = c.in_ok-path-in-Folder.path; own = length c.args.folder.now } in
    let slashed : string_bytes c.in_ok-path-in-Folder.path ≡ path ++ 47 ∷ [] = subst (λ (p : List ℕ). string_bytes c.in_ok-path-in-Folder.path ≡ p ++ 47 ∷ []) c.as_str-in-Folder.ensures.value c.in_ok-path-in-Folder.ensures in
    folder_left c.push.result c.args.folder.now c.args.name.now path waiting c.args.listed.now.items c.args.below.now.items c.push.new.list.items c.requires c.in_ok-path.ensures slashed refl c.push.ensures

pub returns : goal.returns
returns g c =
    let path = string_bytes c.in_ok-path.path in
    let old = c.args.listed.now.items in
    let new = c.add.new.listed.items in
    let added : OnOk c.add.result ((entry : TreeEntry) × IsEntry path (length c.args.folder.now) c.kind_at.result entry × (new ≡ old ++ entry ∷ [])) = subst (λ (p : List ℕ). OnOk c.add.result ((entry : TreeEntry) × IsEntry p (length c.args.folder.now) c.kind_at.result entry × (new ≡ old ++ entry ∷ []))) c.as_str-in_default.ensures.value c.add.ensures in
    entry_added c.add.result c.args.folder.now c.args.name.now path c.kind_at.result old new c.args.below.now.items (search rules) c.kind_at.ensures c.requires c.in_ok-path.ensures added
