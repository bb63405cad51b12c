use Rattle.std.proofs.Common.{◌≡◌, ◌∙◌, sym, ap, length, subst}
use Rattle.std.specs.List.{Contains}
use Rattle.ods_remains.specs.Chains.{named_at}
use Rattle.ods_remains.specs.Deleted.{IsDeleted, counted, former, used_again}
use Rattle.ods_remains.specs.Shared.{IsWhole}
use Rattle.ods_remains.specs.Summary.{AreLeft, IsSharerOrSelf, HasSummary}
use Rattle.ods_remains.specs.declared.summary.Summary.{Summary}
use Rattle.ods_remains.proofs.Summing.{all_deleted}
use Rattle.ods_remains.proofs.Wholeness.{answers_for, has_all, whole_from, whole_to}
use Rattle.ods_remains.proofs.shares.Shares.summary.Goals as goal

pub chain_by-requires-clause-all : goal.chain_by-requires-clause-all
chain_by-requires-clause-all c =
    let D = c.self.inside.disk in
    subst (AreLeft D.image.now D.layout.now) (sym c.deref.ensures.value) c.self.invariant.1

pub sum_headers-sums-requires-clause-all : goal.sum_headers-sums-requires-clause-all
sum_headers-sums-requires-clause-all c =
    let D = c.self.inside.disk in
    subst (AreLeft D.image.now D.layout.now) (sym c.deref-2.ensures.value) c.self.invariant.1

pub sum_headers-sums-requires-clause-deleted : goal.sum_headers-sums-requires-clause-deleted
sum_headers-sums-requires-clause-deleted c = λ h has.
    let D = c.self.inside.disk in
    let chain = c.in_ok-chain.chain in
    all_deleted D.image.now D.layout.now c.args.number chain.headers.items (named_at (former D.image.now D.layout.now) chain.headers.items) chain.is_cut c.in_ok-chain.ensures h (subst (λ xs. Contains xs h) c.deref-3.ensures.value has)

pub sharer_or_self-requires : goal.sharer_or_self-requires
sharer_or_self-requires c = λ h has.
    let D = c.self.inside.disk in
    let chain = c.in_ok-chain.chain in
    subst (λ d. IsDeleted d.image d.layout h) c.self.view_is
    (all_deleted D.image.now D.layout.now c.args.number chain.headers.items (named_at (former D.image.now D.layout.now) chain.headers.items) chain.is_cut c.in_ok-chain.ensures h (subst (λ xs. Contains xs h) c.deref-4.ensures.value has))

pub returns : goal.returns
returns c =
    let D = c.self.inside.disk in
    let I = D.image.now in
    let L = D.layout.now in
    let n = c.args.number in
    let chain = c.in_ok-chain.chain in
    let headers = chain.headers.items in
    let named = named_at (former I L) headers in
    let sums = c.sum_headers-sums in
    let sharer = c.in_ok-sharer.sharer in
    let here = subst (λ xs. IsSharerOrSelf c.args.self.now.image c.args.self.now.layout n (named_at (former c.args.self.now.image c.args.self.now.layout) xs) sharer) c.deref-4.ensures.value c.in_ok-sharer.ensures in
    let shared : IsSharerOrSelf I L n named sharer = subst (λ d. IsSharerOrSelf d.image d.layout n (named_at (former d.image d.layout) headers) sharer) (sym c.self.view_is) here in
    let used : sums.result.used ≡ counted (used_again I L named) = subst (λ xs. sums.result.used ≡ counted (used_again I L (named_at (former I L) xs))) c.deref-3.ensures.value sums.ensures.used in
    let known : Summary = record { blocks = sums.result.blocks; used = sums.result.used; missing = c.missing_header-missing.result; sharer = sharer; is_whole = c.is_whole-is_whole.result } in
    subst (λ d. HasSummary d.image d.layout n known) c.self.view_is (
      headers,
      named,
      chain.is_cut,
      record {
        follows = c.in_ok-chain.ensures;
        missing = c.missing_header-missing.ensures;
        blocks = subst (λ xs. sums.result.blocks ≡ counted (length (named_at (former I L) xs))) c.deref-3.ensures.value sums.ensures.blocks;
        used = used;
        shared = shared;
        complete = answers_for c.is_whole-is_whole.result (has_all I L n named chain.is_cut sums.result.used sharer) (IsWhole I L n named chain.is_cut)
            (whole_from I L n named chain.is_cut sums.result.used sharer used shared) (whole_to I L n named chain.is_cut sums.result.used sharer used shared) c.is_whole-is_whole.ensures;
      },
    )
