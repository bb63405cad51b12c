use Rattle.std.proofs.Common.{◌≡◌, ◌∙◌, sym, subst, inl}
use Rattle.std.specs.Prelude.{IfErr}
use Rattle.std.proofs.lemmas.Result.{IfErr-weaker}
use Rattle.ods_request.specs.declared.requests.Request.{Request}
use Rattle.ods_request.specs.declared.requests.Request.TheVariants.{Enter}
use Rattle.ods_filing.specs.Led.{IsAsked}
use Rattle.ods_upkeep.specs.Refused.{IsNotDone, IsRefusedBy}
use Rattle.ods_upkeep.proofs.asking.enter.Goals as goal
use Rattle.ods_upkeep.proofs.asking.enter.Goals.{After-obey, in-Some+else-version-eq0+else-version-gt-LAST_VERSION, in_default}

-- the version is the one that is given
same : (c : After-obey) → c.match-version.version ≡ c.args.version
same c = elim c.match-version.branch [ in-Some+else-version-eq0+else-version-gt-LAST_VERSION w ↦ w.version-is ∙ sym w.in-Some.is | in_default w ↦ w.version-is ]

pub returns-clause-asked : goal.returns-clause-asked
returns-clause-asked c =
    subst (λ version. IsAsked c.args.filing.now (Enter c.args.dir c.args.name version c.args.file) c.obey.new.filing) (same (goal.at.returns-clause-asked c).After-obey) c.obey.ensures.asked

pub returns-clause-refused : goal.returns-clause-refused
returns-clause-refused c =
    let asked : Request = Enter c.args.dir c.args.name c.args.version c.args.file in
    IfErr-weaker c.obey.result (IsRefusedBy c.args.filing.now asked) (IsNotDone c.args.filing.now asked) (λ why refused. inl refused)
    (subst (λ version. IfErr c.obey.result (IsRefusedBy c.args.filing.now (Enter c.args.dir c.args.name version c.args.file))) (same (goal.at.returns-clause-refused c).After-obey) c.obey.ensures.refused)
