use Rattle.std.proofs.Common.{rules, ◌≡◌, ◌≤◌, inl, inr, [], length, refl, sym, subst, arith}
use Rattle.std.specs.Prelude.{◌≢◌}
use Rattle.std.proofs.lemmas.Result.{err_from_is_err_and}
use Rattle.ods_upkeep.proofs.Grown.{grown, not_grown}
use Rattle.ods_upkeep.proofs.Requests.{longer}
use Rattle.ods_upkeep.proofs.appending.append.Goals as goal

pub returns-in_err-attributes-clause-refused : goal.returns-in_err-attributes-clause-refused
returns-in_err-attributes-clause-refused c =
    let p = err_from_is_err_and c.from_residual-in_err-attributes.result c.from_residual-in_err-attributes.ensures.1 in
    rw (p.1, p.2) (inr (c.in_ok-all.all.items, c.in_ok-all.ensures.ok, inl (refl, c.in_err-attributes.ensures.err)))

pub write_behind-requires-clause-longer : goal.write_behind-requires-clause-longer
write_behind-requires-clause-longer c =
    let more = longer c.args.facts.now.attributes c.in_ok-all.all.items c.args.bytes.now c.add.new.all.items c.in_ok-attributes.attributes c.in_ok-attributes.ensures.ok in
    let fits : length c.in_ok-all.all.items ≤ length c.as_slice.result.now = subst (λ l. length c.in_ok-all.all.items ≤ length l) (sym c.as_slice.ensures.value) more in
    omega (arith, fits, c.len-held.ensures)

pub returns-clause-done : goal.returns-clause-done
returns-clause-done c =
    let some : c.args.bytes.now ≢ [] = search rules in
    let size : c.len-held.result ≡ length c.in_ok-all.all.items = search rules in
    grown c.args.facts.now c.args.bytes.now c.in_ok-all.all.items c.add.new.all.items c.in_ok-attributes.attributes c.args.filing.now c.write_behind.new.filing c.len-held.result c.as_slice.result.now
    c.in_ok-all.ensures.ok c.in_ok-attributes.ensures.ok size c.as_slice.ensures.value c.write_behind.result some c.write_behind.ensures.done

pub returns-clause-refused : goal.returns-clause-refused
returns-clause-refused c =
    let size : c.len-held.result ≡ length c.in_ok-all.all.items = search rules in
    not_grown c.args.facts.now c.args.bytes.now c.in_ok-all.all.items c.add.new.all.items c.in_ok-attributes.attributes c.args.filing.now c.write_behind.new.filing c.len-held.result c.as_slice.result.now
    c.in_ok-all.ensures.ok c.in_ok-attributes.ensures.ok size c.as_slice.ensures.value c.write_behind.result c.write_behind.ensures.refused
