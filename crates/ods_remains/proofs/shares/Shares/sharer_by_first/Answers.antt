use Rattle.std.proofs.Common.{sym, subst}
use Rattle.std.specs.List.{Contains}
use Rattle.ods_header.specs.Header.{blocks_of}
use Rattle.ods_remains.specs.Deleted.{IsDeleted, former}
use Rattle.ods_remains.specs.Summary.{AreLeft}
use Rattle.ods_remains.proofs.Summing.{first_shared}
use Rattle.ods_remains.proofs.shares.Shares.sharer_by_first.Goals as goal

pub left_at-left-requires-clause-all : goal.left_at-left-requires-clause-all
left_at-left-requires-clause-all c =
    let D = c.self.inside.disk in
    subst (AreLeft D.image.now D.layout.now) (sym c.deref.ensures.value) c.self.invariant.1

pub left_at-left-requires-clause-deleted : goal.left_at-left-requires-clause-deleted
left_at-left-requires-clause-deleted c = subst (λ d. IsDeleted d.image d.layout c.args.header) (sym c.self.view_is) c.requires

pub returns : goal.returns
returns c =
    let J = c.args.self.now in
    let D = c.self.inside.disk in
    let h = c.args.header in
    let left = c.left_at-left.result in
    let has : Contains (blocks_of (former J.image J.layout h)) left.first = subst (λ d. Contains (blocks_of (former d.image d.layout h)) left.first) c.self.view_is (c.left_at-left.ensures.first c.if-left-eq0.false) in
    first_shared J.image J.layout c.args.number h left.first c.sharer_at.result has c.sharer_at.ensures
