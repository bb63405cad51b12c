use Rattle.std.proofs.Common.{◌≡◌, true, false, sym, ◌∙◌, subst}
use Rattle.ods_header.specs.Header.{IsValidHeader}
use Rattle.ods_space.specs.Draft.{applied}
use Rattle.ods_space.specs.Layout.{header_at}
use Rattle.ods_alloc.proofs.Places.{place_inside}
use Rattle.ods_alloc.proofs.NewHeaders.{header_read}
use Rattle.ods_alloc.proofs.Written.{valid_has_place}
use Rattle.ods_alloc.proofs.end.valid_header.Goals as goal
use Rattle.ods_alloc.proofs.end.valid_header.Goals.{After-block-header}

pub block-header-requires : goal.block-header-requires
block-header-requires c = place_inside _ c.args.seen.now.disk.layout.now c.args.number c.in-Some.lbn c.requires.places (sym c.place.ensures ∙ c.in-Some.is)

-- what is read is the header
read : (c : After-block-header) → c.block-header.result.now ≡ header_at (applied c.args.seen.now.disk.image.now c.args.seen.now.draft.now) c.args.seen.now.disk.layout.now c.args.number
read c =
    let L = c.args.seen.now.disk.layout.now in
    let found = sym c.place.ensures ∙ c.in-Some.is in
    header_read c.args.seen.now.disk.image.now c.args.seen.now.draft.now L c.args.number c.in-Some.lbn c.block-header.result.now (place_inside _ L c.args.number c.in-Some.lbn c.requires.places found) found c.block-header.ensures.value

pub returns-in_default-clause-none : goal.returns-in_default-clause-none
returns-in_default-clause-none c = λ valid. valid_has_place _ c.args.seen.now.disk.layout.now c.args.number valid (sym c.place.ensures ∙ c.in_default.is)

pub returns-then-not-is_valid_header-clause-none : goal.returns-then-not-is_valid_header-clause-none
returns-then-not-is_valid_header-clause-none c = λ valid.
    let is = read (goal.at.returns-then-not-is_valid_header-clause-none c).After-block-header in
    let yes : c.is_valid_header.result ≡ true = c.is_valid_header.ensures.1 (subst (λ b. IsValidHeader b c.args.number) (sym is) valid) in
    let clash : true ≡ false = sym yes ∙ c.if-not-is_valid_header.true in
    absurd (cc)

pub returns-clause-some : goal.returns-clause-some
returns-clause-some c = record {
  is = read (goal.at.returns-clause-some c).After-block-header;
  valid = c.is_valid_header.ensures.0 c.if-not-is_valid_header.false;
}
