use Rattle.std.proofs.Common.{◌≡◌, ◌∙◌, refl, sym, inl, inr, true, false}
use Rattle.std.proofs.lemmas.Result.{err_from_is_err_and}
use Rattle.ods_paths.specs.Views.{files, folder}
use Rattle.ods_upkeep.proofs.Directing.{not_into}
use Rattle.ods_upkeep.proofs.MayBe.{wildcards_stay}
use Rattle.ods_upkeep.proofs.targets.named_within.Goals as goal
use Rattle.ods_upkeep.proofs.targets.named_within.Goals.{then-has_wildcard-via-then-has_wildcard, then-has_wildcard-via-else-has_wildcard+then-has_wildcard-2}

pub returns-in-Some-clause-exact : goal.returns-in-Some-clause-exact
returns-in-Some-clause-exact c = record { name = wildcards_stay c.args.files.name.now ∙ sym c.if-has_wildcard.ensures; kind = wildcards_stay c.args.files.kind.now ∙ sym c.if-has_wildcard-2.ensures }

pub returns-clause-exact : goal.returns-clause-exact
returns-clause-exact c = record { name = wildcards_stay c.args.files.name.now ∙ sym c.if-has_wildcard.ensures; kind = wildcards_stay c.args.files.kind.now ∙ sym c.if-has_wildcard-2.ensures }

pub returns-clause-target : goal.returns-clause-target
returns-clause-target c =
    let there = c.in_ok-directory-2.ensures in
    inr (
      not_into c.args.volume.now.image c.args.volume.now.layout c.args.text.now (folder c.args.folder.now) (files c.args.files) c.in_ok-directory.field-0 c.in_ok-directory-2.directory c.in_ok-directory.ensures c.in_default.is there,
      record { directory = there; name = c.in_ok-name.name; spelled = c.in_ok-name.ensures; given = refl; version = c.in_ok-version.ensures },
    )

pub returns-then-has_wildcard-clause-refused : goal.returns-then-has_wildcard-clause-refused
returns-then-has_wildcard-clause-refused c =
    inl (
      refl,
      inl (λ exact. elim c.then-has_wildcard.branch [
        | then-has_wildcard-via-then-has_wildcard w ↦ (let clash : true ≡ false = w.if-has_wildcard.ensures ∙ sym (wildcards_stay c.args.files.name.now) ∙ exact.name in absurd (cc))
        | then-has_wildcard-via-else-has_wildcard+then-has_wildcard-2 w ↦ (let clash : true ≡ false = w.if-has_wildcard-2.ensures ∙ sym (wildcards_stay c.args.files.kind.now) ∙ exact.kind in absurd (cc))
      ]),
    )

pub returns-in_err-name-clause-refused : goal.returns-in_err-name-clause-refused
returns-in_err-name-clause-refused c =
    let there = c.in_ok-directory-2.ensures in
    let p = err_from_is_err_and c.from_residual-in_err-name.result c.from_residual-in_err-name.ensures.1 in
    rw (p.1, p.2)
    (inr (inr (
      not_into c.args.volume.now.image c.args.volume.now.layout c.args.text.now (folder c.args.folder.now) (files c.args.files) c.in_ok-directory.field-0 c.in_ok-directory-2.directory c.in_ok-directory.ensures c.in_default.is there,
      (c.in_ok-directory-2.directory, there, c.in_err-name.ensures),
    )))
