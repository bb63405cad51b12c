use Rattle.std.proofs.Common.{◌≡◌, ◌≢◌, ◌∙◌, ◌++◌, ap, false, true, inl, inr, None, codes, refl, rules, sym, subst}
use Rattle.std.specs.Prelude.{MatchBool}
use Rattle.std.proofs.lemmas.Result.{err_from_is_err_and}
use Rattle.ods_base.specs.Name.{Spells}
use Rattle.ods_base.specs.declared.name.Pick.TheVariants.{Highest}
use Rattle.ods_paths.specs.Patterns.{capitals, has_wildcard}
use Rattle.ods_paths.specs.Views.{folder}
use Rattle.ods_paths.specs.declared.versions.Versions.TheVariants.{Every}
use Rattle.ods_shell.specs.declared.path_fault.PathFault.TheVariants.{Nothing}
use Rattle.ods_shell.specs.Named.{AreNotNamed}
use Rattle.ods_upkeep.specs.Hidden.{HidesEntries}
use Rattle.ods_upkeep.specs.Made.{directories_named}
use Rattle.ods_upkeep.proofs.MayBe.{wildcards_stay}
use Rattle.ods_upkeep.proofs.Meaning.{means_by}
use Rattle.ods_upkeep.specs.Target.{IsNoName}
use Rattle.ods_upkeep.proofs.Unmaking.{not_masters, other_fault, there}
use Rattle.ods_upkeep.proofs.Unmeaning.{means_none, no_place}
use Rattle.ods_upkeep.proofs.directories.new_place.Goals as goal

pub returns : goal.returns
returns c =
    let I = c.args.volume.now.image in
    let L = c.args.volume.now.layout in
    let up = folder c.in_ok-meant.meant.folder in
    let name = c.in_ok-meant.meant.name.items in
    let dir = c.in_ok-dir.dir.number in
    record {
      up = up;
      text = capitals name;
      means = means_by c.args.path.now c.as_bytes.result.now up (capitals name) c.as_bytes.ensures.value c.in_ok-meant.ensures;
      one = wildcards_stay name ∙ ap has_wildcard (sym c.deref.ensures.value) ∙ sym c.if-has_wildcard.ensures;
      above = c.in_ok-dir.ensures;
      spelled = subst (λ n. Spells (capitals n ++ codes ".DIR") c.in_ok-name.name Highest) c.deref-2.ensures.value c.in_ok-name.ensures;
      free = subst (AreNotNamed I L up (directories_named (capitals name) Every) None) c.in-Err-Nothing.field-0-is c.in-Err-Nothing.ensures.err;
      shows = subst (λ b. MatchBool b (HidesEntries I L dir) (¬ HidesEntries I L dir)) c.if-branch.false c.in_ok-hides_entries.ensures;
      other = λ four is. not_masters c.in_ok-dir.dir name c.deref-3.result.now c.deref-3.ensures.value c.if-is_master.ensures (four, is);
    }

pub returns-in_err-meant : goal.returns-in_err-meant
returns-in_err-meant c =
    let p = err_from_is_err_and c.from_residual.result c.from_residual.ensures.1 in
    rw (p.1, p.2) (inl (means_none c.args.path.now c.as_bytes.result.now c.in_err-meant.field-0.0 c.as_bytes.ensures.value c.in_err-meant.ensures))

pub returns-then-has_wildcard : goal.returns-then-has_wildcard
returns-then-has_wildcard c =
    let name = c.in_ok-meant.meant.name.items in
    no_place c.args.volume.now.image c.args.volume.now.layout c.args.path.now c.as_bytes.result.now (folder c.in_ok-meant.meant.folder) (capitals name) _ c.as_bytes.ensures.value c.in_ok-meant.ensures
    (inl (refl, wildcards_stay name ∙ ap has_wildcard (sym c.deref.ensures.value) ∙ sym c.if-has_wildcard.ensures))

pub returns-in_err-dir : goal.returns-in_err-dir
returns-in_err-dir c =
    let p = err_from_is_err_and c.from_residual-in_err-dir.result c.from_residual-in_err-dir.ensures.1 in
    rw (p.1, p.2)
    (no_place c.args.volume.now.image c.args.volume.now.layout c.args.path.now c.as_bytes.result.now (folder c.in_ok-meant.meant.folder) (capitals c.in_ok-meant.meant.name.items) _
    c.as_bytes.ensures.value c.in_ok-meant.ensures (inr (wildcards_stay c.in_ok-meant.meant.name.items ∙ ap has_wildcard (sym c.deref.ensures.value) ∙ sym c.if-has_wildcard.ensures, inl c.in_err-dir.ensures)))

pub returns-in_err-name : goal.returns-in_err-name
returns-in_err-name c =
    let p = err_from_is_err_and c.from_residual-in_err-name.result c.from_residual-in_err-name.ensures.1 in
    rw (p.1, p.2)
    (no_place c.args.volume.now.image c.args.volume.now.layout c.args.path.now c.as_bytes.result.now (folder c.in_ok-meant.meant.folder) (capitals c.in_ok-meant.meant.name.items) _
    c.as_bytes.ensures.value c.in_ok-meant.ensures
    (inr (
      wildcards_stay c.in_ok-meant.meant.name.items ∙ ap has_wildcard (sym c.deref.ensures.value) ∙ sym c.if-has_wildcard.ensures,
      inr (c.in_ok-dir.dir, c.in_ok-dir.ensures, inl (subst (λ n. IsNoName (capitals n) (codes "DIR") c.in_err-name.field-0.0) c.deref-2.ensures.value c.in_err-name.ensures)),
    )))

pub returns-then-is_master : goal.returns-then-is_master
returns-then-is_master c =
    let both = c.if-is_master.ensures.0 refl in
    no_place c.args.volume.now.image c.args.volume.now.layout c.args.path.now c.as_bytes.result.now (folder c.in_ok-meant.meant.folder) (capitals c.in_ok-meant.meant.name.items) _
    c.as_bytes.ensures.value c.in_ok-meant.ensures
    (inr (
      wildcards_stay c.in_ok-meant.meant.name.items ∙ ap has_wildcard (sym c.deref.ensures.value) ∙ sym c.if-has_wildcard.ensures,
      inr (c.in_ok-dir.dir, c.in_ok-dir.ensures, inr (inl (refl, (both.0, ap capitals (sym c.deref-3.ensures.value) ∙ both.1)))),
    ))

pub returns-in-Ok : goal.returns-in-Ok
returns-in-Ok c =
    let I = c.args.volume.now.image in
    let L = c.args.volume.now.layout in
    let up = folder c.in_ok-meant.meant.folder in
    let name = c.in_ok-meant.meant.name.items in
    no_place I L c.args.path.now c.as_bytes.result.now up (capitals name) _ c.as_bytes.ensures.value c.in_ok-meant.ensures
    (inr (
      wildcards_stay name ∙ ap has_wildcard (sym c.deref.ensures.value) ∙ sym c.if-has_wildcard.ensures,
      inr (
        c.in_ok-dir.dir,
        c.in_ok-dir.ensures,
        inr (inr (not_masters c.in_ok-dir.dir name c.deref-3.result.now c.deref-3.ensures.value c.if-is_master.ensures, inl (refl, there I L up (capitals name) c.in-Ok.field-0.items c.in-Ok.ensures.some c.in-Ok.ensures.named))),
      ),
    ))

pub returns-in-Err : goal.returns-in-Err
returns-in-Err c =
    let I = c.args.volume.now.image in
    let L = c.args.volume.now.layout in
    let up = folder c.in_ok-meant.meant.folder in
    let name = c.in_ok-meant.meant.name.items in
    let other : c.in-Err.fault ≢ Nothing = search rules in
    no_place I L c.args.path.now c.as_bytes.result.now up (capitals name) _ c.as_bytes.ensures.value c.in_ok-meant.ensures
    (inr (
      wildcards_stay name ∙ ap has_wildcard (sym c.deref.ensures.value) ∙ sym c.if-has_wildcard.ensures,
      inr (
        c.in_ok-dir.dir,
        c.in_ok-dir.ensures,
        inr (
            inr (
              not_masters c.in_ok-dir.dir name c.deref-3.result.now c.deref-3.ensures.value c.if-is_master.ensures,
              inr (inr (c.into.ensures ∙ other_fault I L up (capitals name) c.in-Err.fault c.in-Err.ensures.err other)),
            )
            ),
      ),
    ))

pub returns-in_err-hides_entries : goal.returns-in_err-hides_entries
returns-in_err-hides_entries c =
    let I = c.args.volume.now.image in
    let L = c.args.volume.now.layout in
    let up = folder c.in_ok-meant.meant.folder in
    let name = c.in_ok-meant.meant.name.items in
    let p = err_from_is_err_and c.from_residual-in_err-hides_entries.result c.from_residual-in_err-hides_entries.ensures.1 in
    rw (p.1, p.2)
    (no_place I L c.args.path.now c.as_bytes.result.now up (capitals name) _ c.as_bytes.ensures.value c.in_ok-meant.ensures
    (inr (
      wildcards_stay name ∙ ap has_wildcard (sym c.deref.ensures.value) ∙ sym c.if-has_wildcard.ensures,
      inr (c.in_ok-dir.dir, c.in_ok-dir.ensures, inr (inr (not_masters c.in_ok-dir.dir name c.deref-3.result.now c.deref-3.ensures.value c.if-is_master.ensures, inr (inr refl)))),
    )))

pub returns-then-branch : goal.returns-then-branch
returns-then-branch c =
    let I = c.args.volume.now.image in
    let L = c.args.volume.now.layout in
    let up = folder c.in_ok-meant.meant.folder in
    let name = c.in_ok-meant.meant.name.items in
    let dir = c.in_ok-dir.dir.number in
    no_place I L c.args.path.now c.as_bytes.result.now up (capitals name) _ c.as_bytes.ensures.value c.in_ok-meant.ensures
    (inr (
      wildcards_stay name ∙ ap has_wildcard (sym c.deref.ensures.value) ∙ sym c.if-has_wildcard.ensures,
      inr (
        c.in_ok-dir.dir,
        c.in_ok-dir.ensures,
        inr (
            inr (
              not_masters c.in_ok-dir.dir name c.deref-3.result.now c.deref-3.ensures.value c.if-is_master.ensures,
              inr (
                  inl (
                    refl,
                    subst (AreNotNamed I L up (directories_named (capitals name) Every) None) c.in-Err-Nothing.field-0-is c.in-Err-Nothing.ensures.err,
                    subst (λ b. MatchBool b (HidesEntries I L dir) (¬ HidesEntries I L dir)) c.if-branch.true c.in_ok-hides_entries.ensures,
                  )
                  ),
            )
            ),
      ),
    ))
