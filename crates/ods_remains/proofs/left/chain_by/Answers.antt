use Rattle.std.proofs.Common.{[], ◌∷◌, ◌++◌, ◌∙◌, refl, ap, arith}
use Rattle.ods_remains.specs.Deleted.{LeadsOn, former}
use Rattle.ods_remains.specs.Chains.{named_at}
use Rattle.ods_remains.proofs.Following.{begun_by, one_more, along}
use Rattle.ods_remains.proofs.left.chain_by.Goals as goal

pub loop-next-init : goal.loop-next-init
loop-next-init c =
    let I = c.args.disk.now.image.now in
    let L = c.args.disk.now.layout.now in
    let first = c.args.first in (
      begun_by (former I L) (LeadsOn I L) (LeadsOn I L) first c.take.new.chain.headers.items c.take.new.chain.is_cut
          (c.in_ok-take.ensures.headers ∙ ap (λ xs. xs ++ first ∷ []) c.new.ensures.items) c.in_ok-take.ensures.cut,
      c.requires.deleted.0,
    )

pub next_by-requires-clause-deleted : goal.next_by-requires-clause-deleted
next_by-requires-clause-deleted c = c.loop-next.invariant.1

pub loop-next-preserved : goal.loop-next-preserved
loop-next-preserved c =
    let I = c.args.disk.now.image.now in
    let L = c.args.disk.now.layout.now in
    let headers = c.loop-next.chain.headers.items in (
      one_more (former I L) (LeadsOn I L) (LeadsOn I L) c.args.first headers (named_at (former I L) headers) c.loop-next.chain.is_cut c.loop-next.at c.loop-next.invariant.0 c.in-Some.next c.in-Some.ensures.next
          c.take-in-Some.new.chain.headers.items c.take-in-Some.new.chain.is_cut c.in_ok-take-2.ensures.headers c.in_ok-take-2.ensures.cut,
      c.in-Some.ensures.next.there,
    )

pub loop-next-smaller : goal.loop-next-smaller
loop-next-smaller c =
    let small = c.in-Some.ensures.small in
    let further = c.in-Some.ensures.next.named.segment in
    omega (arith, small, further)

pub returns : goal.returns
returns c =
    let I = c.args.disk.now.image.now in
    let L = c.args.disk.now.layout.now in
    let so = c.loop-next.invariant.0 in
    let headers = c.loop-next.chain.headers.items in
    record {
      deleted = c.requires.deleted;
      others = so.passed;
      headers = so.whole;
      chain = along (former I L) (LeadsOn I L) (LeadsOn I L) c.args.first headers (named_at (former I L) headers) c.loop-next.chain.is_cut c.loop-next.at so c.in_default.ensures.next;
      blocks = refl;
    }
