use Rattle.std.proofs.Common.{◌≡◌, ℕ, ◌*◌, ◌<◌, List, length, sym, ap, ◌∙◌, subst, arith}
use Rattle.ods_header.specs.Header.{attributes_of}
use Rattle.ods_space.specs.Layout.{header_at}
use Rattle.ods_space.specs.Chain.{index_for}
use Rattle.ods_space.proofs.Sizes.{chain_size}
use Rattle.ods_space.proofs.Surveyed.{same_blocks}
use Rattle.ods_check.specs.Findings.{IsEndPast, end_of}
use Rattle.ods_check.proofs.Telling.{match_as}
use Rattle.ods_check.proofs.ends.ends_past.Goals as goal

pub is_past-requires : goal.is_past-requires
is_past-requires c =
    let t = c.in-Some-block_count.ensures.count in
    let is = t.2 in
    let small = chain_size c.args.disk.now.image.now c.args.disk.now.layout.now.home (index_for c.args.disk.now.layout.now c.args.number) c.args.number t.1.others t.0 c.len.ensures.image t.1.whole.chain in
    omega arith

pub returns-in-Some-block_count : goal.returns-in-Some-block_count
returns-in-Some-block_count c =
    let I = c.args.disk.now.image.now in
    let L = c.args.disk.now.layout.now in
    let n = c.args.number in
    let t = c.in-Some-block_count.ensures.count in
    let count = c.in-Some-block_count.count in
    let own : c.attributes.result ≡ attributes_of (header_at I L n) = c.attributes.ensures ∙ ap attributes_of c.in-Some.ensures.some.1 in
    let Past : ℕ → List ℕ → Type 0 = λ k a. 512 * k < end_of a in
    let after = c.if-number-lt3.false in
    match_as c.is_past.result (Past count c.attributes.result) (IsEndPast I L n)
    (λ past. record {
      other = omega arith;
      plain = c.if-is_directory_file.ensures;
      blocks = t.0;
      has = t.1;
      past = subst (λ k. Past k (attributes_of (header_at I L n))) t.2 (subst (Past count) own past);
    })
    (λ h. let same : length h.blocks ≡ count = ap length (same_blocks I L n h.blocks t.0 h.has t.1) ∙ sym t.2 in
    subst (Past count) (sym own) (subst (λ k. Past k (attributes_of (header_at I L n))) same h.past))
    c.is_past.ensures

pub returns-in-None : goal.returns-in-None
returns-in-None c h = c.in-None.ensures.none h.blocks h.has
