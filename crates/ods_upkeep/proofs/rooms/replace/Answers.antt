use Rattle.std.proofs.Common.{inl, inr}
use Rattle.std.proofs.lemmas.Result.{err_from_is_err_and}
use Rattle.ods_upkeep.proofs.Making.{name_goes, name_stays}
use Rattle.ods_upkeep.proofs.rooms.replace.Goals as goal

pub returns-in_err-held : goal.returns-in_err-held
returns-in_err-held c =
    let p = err_from_is_err_and c.from_residual.result c.from_residual.ensures.1 in
    rw (p.1, p.2) (inl c.in_err-held.ensures.err)

pub returns-in_err-remove : goal.returns-in_err-remove
returns-in_err-remove c =
    let p = err_from_is_err_and c.from_residual-in_err-remove.result c.from_residual-in_err-remove.ensures.1 in
    rw (p.1, p.2) (inr (c.in_ok-held.held, (c.shown_of.new.filing, c.in_ok-held.ensures.ok, inl (c.in_err-remove.ensures.unchanged, inl c.in_err-remove.ensures.refused))))

pub returns-in_err-take_name : goal.returns-in_err-take_name
returns-in_err-take_name c =
    let p = err_from_is_err_and c.from_residual-in_err-take_name.result c.from_residual-in_err-take_name.ensures.1 in
    rw (p.1, p.2) (name_stays c.args.dir c.args.name c.args.version c.args.file c.args.names.now c.args.filing.now c.shown_of.new.filing c.remove.new.filing c.take_name.new.filing c.in_ok-held.held c.is_some.result
    c.is_some.ensures c.in_ok-held.ensures.ok c.in_ok-remove.ensures.done _ c.in_err-take_name.ensures.err)

pub returns : goal.returns
returns c =
    name_goes c.args.dir c.args.name c.args.version c.args.file c.args.names.now c.args.filing.now c.shown_of.new.filing c.remove.new.filing c.take_name.new.filing c.in_ok-held.held c.is_some.result
    c.is_some.ensures c.in_ok-held.ensures.ok c.in_ok-remove.ensures.done c.take_name.new.names c.take_name.ensures.counted c.in_ok-take_name.ensures.gone
