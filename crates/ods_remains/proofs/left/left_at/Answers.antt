use Rattle.std.proofs.Common.{◌≡◌, ◌≤◌, ◌∙◌, sym, subst, length, arith}
use Rattle.std.proofs.lemmas.Bool.{ltb-false}
use Rattle.std.proofs.lemmas.Option.{slice_get_within, get_or_from_slice_get}
use Rattle.ods_remains.specs.Summary.{IsLeft}
use Rattle.ods_remains.proofs.left.left_at.Goals as goal

pub unreachable-requires : goal.unreachable-requires
unreachable-requires c =
    let has = c.requires.all c.args.number c.requires.deleted in
    let within = slice_get_within c.args.all.now c.args.number has.0 has.1 in
    let past = ltb-false c.args.number (length c.args.all.now) (sym c.in-None.ensures.lookup.0) in
    omega (arith, within, past)

pub returns : goal.returns
returns c =
    let has = c.requires.all c.args.number c.requires.deleted in
    let same : c.in-Some.left.now ≡ has.0 = c.in-Some.ensures.lookup.1 ∙ get_or_from_slice_get c.args.all.now c.args.number has.0 c.in-Some.left.now has.1 in
    subst (IsLeft c.args.disk.now.image.now c.args.disk.now.layout.now c.args.number) (sym same) has.2
