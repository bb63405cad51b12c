use Rattle.std.proofs.Common.{◌≡◌, true, false, sym, ◌∙◌}
use Rattle.std.specs.Prelude.{IsTrue}
use Rattle.ods_header.specs.Header.{IsHeader, IsFormat1}
use Rattle.ods_space.specs.Layout.{header_at, is_in_use}
use Rattle.ods_check.proofs.Telling.{both}
use Rattle.ods_check.proofs.system.is_left_aside.Goals as goal

pub returns-then-in_use : goal.returns-then-in_use
returns-then-in_use c =
    let I = c.args.disk.now.image.now in
    let L = c.args.disk.now.layout.now in
    let n = c.args.number in
    both c.has_other_format.result (IsTrue (is_in_use I L.home n)) (IsHeader (header_at I L n) n) (IsFormat1 (header_at I L n)) (sym c.in_use.ensures ∙ c.if-in_use.true) c.has_other_format.ensures

pub returns : goal.returns
returns c = λ t. (let clash : true ≡ false = sym t.0 ∙ (sym c.in_use.ensures ∙ c.if-in_use.false) in absurd (cc))
