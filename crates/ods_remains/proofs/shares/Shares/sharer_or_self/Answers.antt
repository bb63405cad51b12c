use Rattle.std.proofs.Common.{◌≡◌, ◌++◌, ◌∙◌, sym, ap, inr, refl, subst, get_or, take, Some, None}
use Rattle.std.specs.Prelude.{nat_eq, MatchBool}
use Rattle.std.specs.List.{IsDistinct}
use Rattle.std.proofs.lemmas.List.{take_more, take_all}
use Rattle.std.proofs.lemmas.List.Elements.{Contains-get_or}
use Rattle.ods_header.specs.Header.{blocks_of}
use Rattle.ods_remains.specs.Chains.{named_at}
use Rattle.ods_remains.specs.Deleted.{IsDeleted, former}
use Rattle.ods_remains.specs.Shared.{IsSharer}
use Rattle.ods_remains.specs.Summary.{AreLeft}
use Rattle.ods_remains.proofs.Summing.{sharer_found, none_on, named_on}
use Rattle.ods_remains.proofs.shares.Shares.sharer_or_self.Goals as goal

pub named_by-requires-clause-all : goal.named_by-requires-clause-all
named_by-requires-clause-all c =
    let D = c.self.inside.disk in
    subst (AreLeft D.image.now D.layout.now) (sym c.deref.ensures.value) c.self.invariant.1

pub named_by-requires-clause-deleted : goal.named_by-requires-clause-deleted
named_by-requires-clause-deleted c =
    let headers = c.args.headers.now in
    let i = c.loop-header.header-index in
    let h = get_or headers i 0 in
    subst (λ d. IsDeleted d.image d.layout h) (sym c.self.view_is) (c.requires h (Contains-get_or headers i 0 c.loop-header-test.true))

pub sharer_by_first-requires : goal.sharer_by_first-requires
sharer_by_first-requires c =
    let headers = c.args.headers.now in
    let i = c.loop-header.header-index in
    c.requires (get_or headers i 0) (Contains-get_or headers i 0 c.loop-header-test.true)

pub returns-in-Some : goal.returns-in-Some
returns-in-Some c =
    let J = c.args.self.now in
    let headers = c.args.headers.now in
    let i = c.loop-header.header-index in
    sharer_found J.image J.layout c.args.number headers (get_or headers i 0) c.in-Some.other (Contains-get_or headers i 0 c.loop-header-test.true) c.in-Some.ensures

pub returns-in-Some-sharer : goal.returns-in-Some-sharer
returns-in-Some-sharer c =
    let J = c.args.self.now in
    let n = c.args.number in
    let headers = c.args.headers.now in
    let i = c.loop-header.header-index in
    let h = get_or headers i 0 in
    let other = c.in-Some-sharer.other in
    let there = c.deref-in-loop-header.ensures.value ∙ c.in_ok-blocks.ensures ∙ ap (λ d. blocks_of (former d.image d.layout h)) c.self.view_is in
    sharer_found J.image J.layout n headers h other (Contains-get_or headers i 0 c.loop-header-test.true) (subst (λ xs. IsSharer J.image J.layout n xs (Some other)) there c.in-Some-sharer.ensures)

pub loop-header-preserved : goal.loop-header-preserved
loop-header-preserved c =
    let J = c.args.self.now in
    let n = c.args.number in
    let headers = c.args.headers.now in
    let i = c.loop-header.header-index in
    let h = get_or headers i 0 in
    let so = c.loop-header.invariant in
    let named = c.loop-header.named.items in
    let blocks = c.in_ok-blocks.blocks.items in
    let new = c.extend_from_slice.new.self.items in
    let here : blocks ≡ blocks_of (former J.image J.layout h) = c.in_ok-blocks.ensures ∙ ap (λ d. blocks_of (former d.image d.layout h)) c.self.view_is in
    let none : IsSharer J.image J.layout n (blocks_of (former J.image J.layout h)) None = subst (λ xs. IsSharer J.image J.layout n xs None) (c.deref-in-loop-header.ensures.value ∙ here) c.in_default-sharer.ensures in
    let more : new ≡ named ++ blocks = c.in_ok-extend_from_slice.ensures.items ∙ ap (λ xs. named ++ xs) c.deref-in-loop-header-2.ensures.value in
    let on = sym (take_more headers i 0 c.loop-header-test.true) in (
      subst (λ xs. new ≡ named_at (former J.image J.layout) xs) on (named_on J.image J.layout (take i headers) named blocks new h so.0 here more),
      subst (λ xs. IsSharer J.image J.layout n (named_at (former J.image J.layout) xs) None) on (none_on J.image J.layout n (take i headers) h so.1 none),
    )

pub returns-then-twice : goal.returns-then-twice
returns-then-twice c =
    let J = c.args.self.now in
    let headers = c.args.headers.now in
    let all = take_all c.loop-header.header-index headers c.loop-header-test.false in
    let named = named_at (former J.image J.layout) headers in
    let same : c.deref-2.result.now ≡ named = c.deref-2.ensures.value ∙ c.loop-header.invariant.0 ∙ ap (named_at (former J.image J.layout)) all in
    let twice = subst (λ xs. MatchBool c.in_ok-twice.twice (¬ IsDistinct nat_eq xs) (IsDistinct nat_eq xs)) same c.in_ok-twice.ensures in
    inr (
      refl,
      subst (λ xs. IsSharer J.image J.layout c.args.number (named_at (former J.image J.layout) xs) None) all c.loop-header.invariant.1,
      subst (λ b. MatchBool b (¬ IsDistinct nat_eq named) (IsDistinct nat_eq named)) c.if-twice.true twice,
    )

pub returns : goal.returns
returns c =
    let J = c.args.self.now in
    let headers = c.args.headers.now in
    let all = take_all c.loop-header.header-index headers c.loop-header-test.false in
    let named = named_at (former J.image J.layout) headers in
    let same : c.deref-2.result.now ≡ named = c.deref-2.ensures.value ∙ c.loop-header.invariant.0 ∙ ap (named_at (former J.image J.layout)) all in
    let twice = subst (λ xs. MatchBool c.in_ok-twice.twice (¬ IsDistinct nat_eq xs) (IsDistinct nat_eq xs)) same c.in_ok-twice.ensures in (
      subst (λ xs. IsSharer J.image J.layout c.args.number (named_at (former J.image J.layout) xs) None) all c.loop-header.invariant.1,
      subst (λ b. MatchBool b (¬ IsDistinct nat_eq named) (IsDistinct nat_eq named)) c.if-twice.false twice,
    )
