use Rattle.std.proofs.Common.{◌≡◌, refl, ap, subst, List, [], ◌∷◌, length, inl, inr, arith}
use Rattle.ods_paths.specs.Views.{folder}
use Rattle.ods_shell.specs.declared.folders.Directory.{Directory}
use Rattle.ods_shell.specs.Ways.{AreMeant}
use Rattle.ods_upkeep.proofs.Naming.{just_one, no_one}
use Rattle.ods_upkeep.proofs.targets.the_directory.Goals as goal

pub returns-in-Some : goal.returns-in-Some
returns-in-Some c =
    let I = c.args.volume.now.image in
    let L = c.args.volume.now.layout in
    let all : List Directory = c.in_ok-found.found.items in
    let meant : AreMeant I L [] (folder c.args.folder.now) all = c.in_ok-found.ensures in
    let one : all ≡ c.one-item.result ∷ [] = just_one c.as_slice.result.now all c.one-item.result c.as_slice.ensures.value c.in-len1.len_at_least c.in-len1.len_below c.one-item.is in
    record {
      directory = c.one-item.result;
      one = subst (AreMeant I L [] (folder c.args.folder.now)) one meant;
      facts = c.in-Some.facts;
      are = c.in-Some.ensures;
      same = refl;
    }

pub returns-in-empty : goal.returns-in-empty
returns-in-empty c =
    let all : List Directory = c.in_ok-found.found.items in
    let meant : AreMeant c.args.volume.now.image c.args.volume.now.layout [] (folder c.args.folder.now) all = c.in_ok-found.ensures in
    inl (refl, inl (subst (AreMeant c.args.volume.now.image c.args.volume.now.layout [] (folder c.args.folder.now)) (no_one c.as_slice.result.now all c.as_slice.ensures.value c.in-empty.len_below) meant))

pub returns-in-len1 : goal.returns-in-len1
returns-in-len1 c =
    let all : List Directory = c.in_ok-found.found.items in
    let meant : AreMeant c.args.volume.now.image c.args.volume.now.layout [] (folder c.args.folder.now) all = c.in_ok-found.ensures in
    let one : all ≡ c.one-item.result ∷ [] = just_one c.as_slice.result.now all c.one-item.result c.as_slice.ensures.value c.in-len1.len_at_least c.in-len1.len_below c.one-item.is in
    inl (refl, inr (c.one-item.result, subst (AreMeant c.args.volume.now.image c.args.volume.now.layout [] (folder c.args.folder.now)) one meant, c.in-None.ensures))

pub returns : goal.returns
returns c =
    let all : List Directory = c.in_ok-found.found.items in
    let meant : AreMeant c.args.volume.now.image c.args.volume.now.layout [] (folder c.args.folder.now) all = c.in_ok-found.ensures in
    inr (inl (refl, (all, meant, omega (arith, c.in_default.len_at_least, ap length c.as_slice.ensures.value))))
