use Rattle.std.proofs.Common.{◌≡◌, ◌-◌, ◌/◌, ◌++◌, List, [], ◌∷◌, subst, arith}
use Rattle.std.proofs.lemmas.Result.{err_from_is_err_and}
use Rattle.ods_request.specs.declared.requests.Request.{Request}
use Rattle.ods_request.specs.declared.requests.Request.TheVariants.{SetUser}
use Rattle.ods_upkeep.specs.Appended.{grows, writes}
use Rattle.ods_upkeep.specs.Removed.{Does}
use Rattle.ods_filing.specs.Put.{block_count}
use Rattle.ods_upkeep.proofs.Requests.{grow_stops, one_done, one_stops, rest_does, rest_stops}
use Rattle.ods_upkeep.proofs.Stopping.{stops_first, stops_later}
use Rattle.ods_upkeep.proofs.appending.write_behind.Goals as goal
use Rattle.ods_upkeep.proofs.appending.write_behind.Goals.{In_ok-grow}

-- the file has its blocks
grown : (c : In_ok-grow) → Does c.args.filing.now (grows c.args.facts.now.file (block_count c.args.all.now - c.args.facts.now.blocks)) c.grow.new.filing
grown c =
    let count : c.saturating_sub.result ≡ block_count c.args.all.now - c.args.facts.now.blocks = omega (arith, c.saturating_sub.ensures, c.blocks_for.ensures) in
    subst (λ n. Does c.args.filing.now (grows c.args.facts.now.file n) c.grow.new.filing) count c.in_ok-grow.ensures.done

pub returns-in_err-grow-clause-refused : goal.returns-in_err-grow-clause-refused
returns-in_err-grow-clause-refused c =
    let p = err_from_is_err_and c.from_residual.result c.from_residual.ensures.1 in
    let count : c.saturating_sub.result ≡ block_count c.args.all.now - c.args.facts.now.blocks = omega (arith, c.saturating_sub.ensures, c.blocks_for.ensures) in
    rw (p.1, p.2) (grow_stops c.args.filing.now c.grow.new.filing c.args.facts.now.file c.saturating_sub.result (block_count c.args.all.now - c.args.facts.now.blocks) _ _ count c.in_err-grow.ensures.refused)

pub returns-in_err-write_from-clause-refused : goal.returns-in_err-write_from-clause-refused
returns-in_err-write_from-clause-refused c =
    let p = err_from_is_err_and c.from_residual-in_err-write_from.result c.from_residual-in_err-write_from.ensures.1 in
    rw (p.1, p.2) (stops_later c.args.filing.now c.grow.new.filing c.write_from.new.filing (grows c.args.facts.now.file (block_count c.args.all.now - c.args.facts.now.blocks)) _ _
    (grown (goal.at.returns-in_err-write_from-clause-refused c).In_ok-grow)
    (stops_first c.grow.new.filing c.write_from.new.filing (writes c.args.facts.now.file c.args.all.now (c.args.held / 512) (block_count c.args.all.now - c.args.held / 512)) _ _ c.in_err-write_from.ensures.refused))

pub returns-clause-done : goal.returns-clause-done
returns-clause-done c =
    let last : Request = SetUser c.args.facts.now.file c.args.attributes in
    let blocks : List Request = writes c.args.facts.now.file c.args.all.now (c.args.held / 512) (block_count c.args.all.now - c.args.held / 512) in
    rest_does c.args.filing.now c.grow.new.filing c.obey.new.filing (grows c.args.facts.now.file (block_count c.args.all.now - c.args.facts.now.blocks)) (blocks ++ last ∷ []) c.obey.result
    (grown (goal.at.returns-clause-done c).In_ok-grow)
    (rest_does c.grow.new.filing c.write_from.new.filing c.obey.new.filing blocks (last ∷ []) c.obey.result c.in_ok-write_from.ensures.done
    (one_done c.write_from.new.filing c.obey.new.filing last c.obey.result c.obey.ensures.done))

pub returns-clause-refused : goal.returns-clause-refused
returns-clause-refused c =
    let last : Request = SetUser c.args.facts.now.file c.args.attributes in
    let blocks : List Request = writes c.args.facts.now.file c.args.all.now (c.args.held / 512) (block_count c.args.all.now - c.args.held / 512) in
    rest_stops c.args.filing.now c.grow.new.filing c.obey.new.filing (grows c.args.facts.now.file (block_count c.args.all.now - c.args.facts.now.blocks)) (blocks ++ last ∷ []) c.obey.result
    (grown (goal.at.returns-clause-refused c).In_ok-grow)
    (rest_stops c.grow.new.filing c.write_from.new.filing c.obey.new.filing blocks (last ∷ []) c.obey.result c.in_ok-write_from.ensures.done
    (one_stops c.write_from.new.filing c.obey.new.filing last c.obey.result c.obey.ensures.unchanged c.obey.ensures.refused))
