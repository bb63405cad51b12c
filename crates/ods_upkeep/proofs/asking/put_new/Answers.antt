use Rattle.std.proofs.Common.{◌∙◌, refl, sym, arith}
use Rattle.std.proofs.lemmas.Result.{err_from_is_err_and}
use Rattle.ods_filing.specs.Put.{heading_of}
use Rattle.ods_upkeep.specs.Unfiled.{named_as_directory, no_version}
use Rattle.ods_upkeep.proofs.Makings.{entering_stops, making_stops}
use Rattle.ods_upkeep.proofs.asking.put_new.Goals as goal
use Rattle.ods_upkeep.proofs.asking.put_new.Goals.{then-file-eq0-via-then-file-eq0, then-file-eq0-via-else-file-eq0+then-file-gt-LAST_VERSION}

pub returns-then-ext-eq-DIRECTORY_TYPE-clause-refused :
    goal.returns-then-ext-eq-DIRECTORY_TYPE-clause-refused
returns-then-ext-eq-DIRECTORY_TYPE-clause-refused c = named_as_directory (sym c.ext.ensures.value ∙ c.if-ext-eq-DIRECTORY_TYPE.true) refl

pub returns-then-file-eq0-clause-refused : goal.returns-then-file-eq0-clause-refused
returns-then-file-eq0-clause-refused c =
    no_version (λ is. elim c.then-file-eq0.branch [
      | then-file-eq0-via-then-file-eq0 w ↦ absurd (omega (arith, is.0, w.if-file-eq0.true))
      | then-file-eq0-via-else-file-eq0+then-file-gt-LAST_VERSION w ↦ absurd (omega (arith, is.1, w.if-file-gt-LAST_VERSION.true))
    ]) refl

pub returns-in_err-enter-in-Ok-clause-refused : goal.returns-in_err-enter-in-Ok-clause-refused
returns-in_err-enter-in-Ok-clause-refused c =
    let f = c.args.file.now in
    let p = err_from_is_err_and c.from_residual.result c.from_residual.ensures.1 in
    rw (p.1, p.2) (entering_stops c.args.placing c.args.owner c.user-user.result c.args.dir c.args.version (heading_of f) f.attributes f.bytes.now c.args.filing.now c.set_user.new.self c.store-made.new.filing c.set_user-2.new.self
    c.user-user.ensures c.set_user.ensures c.set_user-2.ensures _ c.in-Ok.id c.enter.new.filing c.in-Ok.ensures.stored c.in_err-enter-in-Ok.ensures.unchanged c.in_err-enter-in-Ok.ensures.refused)

pub returns-in-Err-clause-refused : goal.returns-in-Err-clause-refused
returns-in-Err-clause-refused c =
    let f = c.args.file.now in
    making_stops c.args.placing c.args.owner c.user-user.result c.args.dir c.args.version (heading_of f) f.attributes f.bytes.now c.args.filing.now c.set_user.new.self c.store-made.new.filing c.set_user-2.new.self
    c.user-user.ensures c.set_user.ensures c.set_user-2.ensures c.in-Err.why c.in-Err.ensures.refused
