use Rattle.std.proofs.Common.{◌∙◌, refl, sym}
use Rattle.std.proofs.lemmas.Result.{err_from_is_err_and}
use Rattle.ods_upkeep.specs.Unput.{nameless, of_directory, unwritten}
use Rattle.ods_upkeep.specs.Written.{bytes_of}
use Rattle.ods_upkeep.proofs.Hosts.{form_fails, not_put_of, remark_fails, store_fails}
use Rattle.ods_upkeep.proofs.putting.Putting.put_one.Goals as goal

pub returns-in_err-name-clause-refused : goal.returns-in_err-name-clause-refused
returns-in_err-name-clause-refused c =
    let p = err_from_is_err_and c.from_residual.result c.from_residual.ensures.1 in
    rw (p.1, p.2) (not_put_of _ c.args.host.now.name.now c.args.host.now.bytes.now c.args.filing.now c.args.filing.now c.self.view_is (nameless _ c.in_err-name.ensures refl))

pub returns-then-ext-eq-DIRECTORY_TYPE-clause-refused :
    goal.returns-then-ext-eq-DIRECTORY_TYPE-clause-refused
returns-then-ext-eq-DIRECTORY_TYPE-clause-refused c =
    not_put_of _ c.args.host.now.name.now c.args.host.now.bytes.now c.args.filing.now c.args.filing.now c.self.view_is
    (of_directory c.in_ok-name.name c.in_ok-name.ensures (sym c.ext.ensures.value ∙ c.if-ext-eq-DIRECTORY_TYPE.true) refl)

pub returns-in_err-form-clause-refused : goal.returns-in_err-form-clause-refused
returns-in_err-form-clause-refused c =
    let p = err_from_is_err_and c.from_residual-in_err-form.result c.from_residual-in_err-form.ensures.1 in
    rw (p.1, p.2) (not_put_of _ c.args.host.now.name.now c.args.host.now.bytes.now c.args.filing.now c.args.filing.now c.self.view_is
    (form_fails _ _ c.args.host.now.name.now c.args.host.now.bytes.now c.args.filing.now c.in_ok-name.name (record { named = c.in_ok-name.ensures; plain = λ is. c.if-ext-eq-DIRECTORY_TYPE.false (c.ext.ensures.value ∙ is) }) c.in_err-form.ensures.err))

pub returns-in_err-written-clause-refused : goal.returns-in_err-written-clause-refused
returns-in_err-written-clause-refused c =
    let p = err_from_is_err_and c.from_residual-in_err-written.result c.from_residual-in_err-written.ensures.1 in
    rw (p.1, p.2) (not_put_of _ c.args.host.now.name.now c.args.host.now.bytes.now c.args.filing.now c.args.filing.now c.self.view_is
    (unwritten _ c.in_ok-name.name c.in_ok-form.form c.in_ok-form.like (record { named = c.in_ok-name.ensures; plain = λ is. c.if-ext-eq-DIRECTORY_TYPE.false (c.ext.ensures.value ∙ is) }) c.in_ok-form.ensures.ok c.in_err-written.ensures.err refl))

pub returns-in_err-remark-clause-refused : goal.returns-in_err-remark-clause-refused
returns-in_err-remark-clause-refused c =
    let written = c.in_ok-written.written in
    let p = err_from_is_err_and c.from_residual-in_err-remark.result c.from_residual-in_err-remark.ensures.1 in
    rw (p.1, p.2) (not_put_of _ c.args.host.now.name.now c.args.host.now.bytes.now c.args.filing.now c.args.filing.now c.self.view_is
    (remark_fails _ _ c.args.host.now.name.now c.args.host.now.bytes.now c.args.filing.now c.in_ok-name.name c.in_ok-form.form c.in_ok-form.like c.in_ok-form.former written.attributes (bytes_of written) written.is_completed written.near
    (record { named = c.in_ok-name.ensures; plain = λ is. c.if-ext-eq-DIRECTORY_TYPE.false (c.ext.ensures.value ∙ is) }) c.in_ok-form.ensures.ok c.in_ok-form.ensures.former c.in_ok-written.ensures.ok c.in_ok-written.ensures.seen c.in_err-remark.ensures))

pub returns-in_err-put_written-clause-refused : goal.returns-in_err-put_written-clause-refused
returns-in_err-put_written-clause-refused c =
    let written = c.in_ok-written.written in
    let p = err_from_is_err_and c.from_residual-in_err-put_written.result c.from_residual-in_err-put_written.ensures.1 in
    rw (p.1, p.2) (store_fails _ c.args.host.now.name.now c.args.host.now.bytes.now c.args.filing.now c.put_written.new.filing c.in_ok-name.name c.in_ok-form.form c.in_ok-form.like written.attributes (bytes_of written) c.self.view_is
    (record { named = c.in_ok-name.ensures; plain = λ is. c.if-ext-eq-DIRECTORY_TYPE.false (c.ext.ensures.value ∙ is) }) c.in_ok-form.ensures.ok c.in_ok-written.ensures.ok c.in_err-put_written.ensures.refused)
