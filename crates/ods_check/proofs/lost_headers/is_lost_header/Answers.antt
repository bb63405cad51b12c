use Rattle.std.proofs.Common.{◌≡◌, ℕ, true, false, List, sym, ap, ◌∙◌, subst}
use Rattle.ods_header.specs.Header.{IsValidHeader, segment_of}
use Rattle.ods_space.specs.Layout.{header_at}
use Rattle.ods_check.specs.Findings.{IsLostHeader}
use Rattle.ods_check.proofs.Reaching.{later_is}
use Rattle.ods_check.proofs.lost_headers.is_lost_header.Goals as goal
use Rattle.ods_check.proofs.lost_headers.is_lost_header.Goals.{then-not-in_use-via-then-not-in_use, then-not-in_use-via-else-not-in_use+then-contains}

pub returns-then-not-in_use : goal.returns-then-not-in_use
returns-then-not-in_use c h = elim c.then-not-in_use.branch [
  | then-not-in_use-via-then-not-in_use w ↦ (let clash : true ≡ false = sym h.in_use ∙ (sym c.in_use.ensures ∙ w.if-not-in_use.true) in cc)
  | then-not-in_use-via-else-not-in_use+then-contains w ↦
      let reached = c.requires.only c.args.number (sym w.contains.ensures ∙ w.if-contains.true) in
      h.lost reached.0 reached.1.0 reached.1.1
]

pub returns-then-is_valid_header : goal.returns-then-is_valid_header
returns-then-is_valid_header c =
    let I = c.args.disk.now.image.now in
    let L = c.args.disk.now.layout.now in
    let n = c.args.number in
    let same = c.in-Some.ensures.some in
    let segment : c.segment.result ≡ segment_of (header_at I L n) = c.segment.ensures ∙ ap segment_of same in
    let P : List ℕ → Type 0 = λ b. IsValidHeader b n in
    later_is c.segment.result (IsLostHeader I L n)
    (λ later. record {
      in_use = sym c.in_use.ensures ∙ c.if-not-in_use.false;
      valid = subst P same (c.is_valid_header.ensures.0 c.if-is_valid_header.true);
      later = λ e. later (segment ∙ e);
      lost = λ m v h. (let clash : true ≡ false = sym (c.requires.all n (m, (v, h))) ∙ (sym c.contains.ensures ∙ c.if-contains.false) in cc);
    })
    (λ h e. h.later (sym segment ∙ e))
