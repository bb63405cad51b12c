use Rattle.std.proofs.Common.{refl, subst, replicate, arith}
use Rattle.std.proofs.lemmas.Result.{err_from_is_err_and}
use Rattle.ods_request.specs.declared.requests.Request.TheVariants.{SetUser}
use Rattle.ods_request.specs.Catalogue.{Plain}
use Rattle.ods_request.specs.Steps.{zero_blocks}
use Rattle.ods_filing.specs.Put.{IsAdded, blocks_with, heading_of}
use Rattle.ods_filing.proofs.Added.{attributed}
use Rattle.ods_filing.proofs.Led.{then_led, then_obeyed}
use Rattle.ods_filing.proofs.Parts.{making_stops, then_filling_stops, then_growing_stops, then_setting_stops}
use Rattle.ods_filing.specs.Unput.{too_many}
use Rattle.ods_filing.proofs.put.put_file.Goals as goal

pub returns-clause-ok : goal.returns-clause-ok
returns-clause-ok c =
    let old = c.args.filing.now in
    let h = heading_of c.args.file.now in
    let id = c.in_ok-id.id in
    let none = replicate 32 0 in
    let grown_in = c.extend_to.new.filing in
    let filled_in = c.fill.new.filing in
    let set = c.in_ok-obey.ensures.ok in
    let grown = subst (λ n. IsAdded old h id (Plain none (zero_blocks n)) grown_in) c.blocks_for-count.ensures (c.in_ok-extend_to.ensures.ok old h c.in_ok-id.ensures.ok) in
    attributed old filled_in c.obey.new.filing h id set.0 c.args.file.now.attributes none (blocks_with c.args.file.now.bytes.now) (c.in_ok-fill.ensures.ok old h grown) set.1

pub returns-clause-led : goal.returns-clause-led
returns-clause-led c =
    let request = SetUser c.in_ok-id.id c.args.file.now.attributes in
    then_obeyed request tt (then_led c.in_ok-id.ensures.led (then_led c.in_ok-extend_to.ensures.led c.in_ok-fill.ensures.led)) c.in_ok-obey.ensures.ok

pub returns-then-count-clause-err : goal.returns-then-count-clause-err
returns-then-count-clause-err c = too_many (omega (arith, c.if-count.true, c.blocks_for-count.ensures)) refl

pub returns-in_err-id-clause-err : goal.returns-in_err-id-clause-err
returns-in_err-id-clause-err c =
    let f = c.args.file.now in
    let p = err_from_is_err_and c.from_residual.result c.from_residual.ensures.1 in
    rw (p.1, p.2) (making_stops (heading_of f) f.attributes f.bytes.now c.args.filing.now c.blocks_for-count.result c.min-first.result c.blocks_for-count.ensures c.min-first.ensures
    c.make.new.filing c.in_err-id.ensures.unchanged _ c.in_err-id.ensures.err)

pub returns-in_err-extend_to-clause-err : goal.returns-in_err-extend_to-clause-err
returns-in_err-extend_to-clause-err c =
    let f = c.args.file.now in
    let p = err_from_is_err_and c.from_residual-in_err-extend_to.result c.from_residual-in_err-extend_to.ensures.1 in
    rw (p.1, p.2) (then_growing_stops (heading_of f) f.attributes f.bytes.now c.args.filing.now c.blocks_for-count.result c.min-first.result c.blocks_for-count.ensures c.min-first.ensures
    c.in_ok-id.id c.make.new.filing c.extend_to.new.filing c.in_ok-id.ensures.ok c.in_ok-id.ensures.led _ c.in_err-extend_to.ensures.err)

pub returns-in_err-fill-clause-err : goal.returns-in_err-fill-clause-err
returns-in_err-fill-clause-err c =
    let f = c.args.file.now in
    let p = err_from_is_err_and c.from_residual-in_err-fill.result c.from_residual-in_err-fill.ensures.1 in
    rw (p.1, p.2) (then_filling_stops (heading_of f) f.attributes f.bytes.now c.args.filing.now c.blocks_for-count.result c.min-first.result c.blocks_for-count.ensures c.min-first.ensures
    c.in_ok-id.id c.extend_to.new.filing c.fill.new.filing (c.in_ok-extend_to.ensures.ok c.args.filing.now (heading_of f) c.in_ok-id.ensures.ok) (then_led c.in_ok-id.ensures.led c.in_ok-extend_to.ensures.led) _
    c.in_err-fill.ensures.err)

pub returns-in_err-obey-clause-err : goal.returns-in_err-obey-clause-err
returns-in_err-obey-clause-err c =
    let f = c.args.file.now in
    let old = c.args.filing.now in
    let h = heading_of f in
    let id = c.in_ok-id.id in
    let grown = subst (λ n. IsAdded old h id (Plain (replicate 32 0) (zero_blocks n)) c.extend_to.new.filing) c.blocks_for-count.ensures (c.in_ok-extend_to.ensures.ok old h c.in_ok-id.ensures.ok) in
    let p = err_from_is_err_and c.from_residual-in_err-obey.result c.from_residual-in_err-obey.ensures.1 in
    rw (p.1, p.2) (then_setting_stops h f.attributes f.bytes.now id old c.fill.new.filing c.obey.new.filing (c.in_ok-fill.ensures.ok old h grown)
    (then_led c.in_ok-id.ensures.led (then_led c.in_ok-extend_to.ensures.led c.in_ok-fill.ensures.led)) c.in_err-obey.ensures.unchanged _ c.in_err-obey.ensures.err)
