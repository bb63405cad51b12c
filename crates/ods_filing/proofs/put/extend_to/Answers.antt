use Rattle.std.proofs.Common.{◌≡◌, subst, arith, replicate}
use Rattle.std.proofs.lemmas.Result.{err_from_is_err_and}
use Rattle.std.proofs.lemmas.List.{replicate-append-replicate}
use Rattle.ods_base.specs.Block.{zeros}
use Rattle.ods_request.specs.declared.requests.Request.TheVariants.{Extend}
use Rattle.ods_request.specs.Catalogue.{Plain}
use Rattle.ods_request.specs.Steps.{zero_blocks}
use Rattle.ods_filing.specs.Put.{IsAdded}
use Rattle.ods_filing.proofs.Added.{extended}
use Rattle.ods_filing.proofs.Led.{then_obeyed}
use Rattle.ods_filing.proofs.Parts.{growing_stops}
use Rattle.ods_filing.proofs.put.extend_to.Goals as goal

pub loop-have-preserved : goal.loop-have-preserved
loop-have-preserved c =
    let next = c.obey.new.filing in
    let more = c.min-more.result in
    let done = c.in_ok-obey.ensures.ok in (
      omega (arith, c.min-more.ensures, c.loop-have-test.true),
      omega (arith, c.loop-have.invariant.1),
      λ old heading start.
          subst (λ bs. IsAdded old heading c.args.id (Plain (replicate 32 0) bs) next) (replicate-append-replicate c.loop-have.have more zeros)
          (extended old c.loop-have.filing next heading c.args.id done.0 more (replicate 32 0) (zero_blocks c.loop-have.have) (c.loop-have.invariant.2 old heading start) done.1),
      then_obeyed (Extend c.args.id more) tt c.loop-have.invariant.3 done,
    )

pub returns-clause-ok : goal.returns-clause-ok
returns-clause-ok c = λ old heading start.
    let same : c.loop-have.have ≡ c.args.count = omega (arith, c.loop-have.invariant.0, c.loop-have-test.false) in
    subst (λ n. IsAdded old heading c.args.id (Plain (replicate 32 0) (zero_blocks n)) c.loop-have.filing) same (c.loop-have.invariant.2 old heading start)

pub returns-clause-led : goal.returns-clause-led
returns-clause-led c = c.loop-have.invariant.3

pub returns-in_err-obey-clause-err : goal.returns-in_err-obey-clause-err
returns-in_err-obey-clause-err c =
    let p = err_from_is_err_and c.from_residual.result c.from_residual.ensures.1 in
    rw (p.1, p.2) (growing_stops c.args.id c.args.first c.loop-have.have c.args.count c.min-more.result c.args.filing.now c.loop-have.filing c.obey.new.filing c.loop-have.invariant.1 c.loop-have-test.true
    c.loop-have.invariant.2 c.loop-have.invariant.3 c.min-more.ensures c.in_err-obey.ensures.unchanged _ c.in_err-obey.ensures.err)
