use Rattle.std.proofs.Common.{◌≡◌, false, true, subst}
use Rattle.std.specs.Prelude.{MatchBool}
use Rattle.ods_remains.specs.Shared.{IsWhole}
use Rattle.ods_shell.proofs.former.open_former.Goals as goal

pub returns-then-lacks-clause-err : goal.returns-then-lacks-clause-err
returns-then-lacks-clause-err c =
    let f = c.args.former.now in
    let Whole : Type 0 = IsWhole c.args.disk.now.image.now c.args.disk.now.layout.now f.known.file.number f.file.blocks.items f.file.is_cut in
    let lacks : (c.args.partial ≡ false) × (f.known.whole ≡ false) =
    subst (λ b. MatchBool b ((c.args.partial ≡ false) × (f.known.whole ≡ false)) (c.args.partial ≡ false → f.known.whole ≡ true)) c.if-lacks.true c.is_lacking-lacks.ensures in
    (lacks.0, f.file, c.requires.chain, c.requires.known, subst (λ b. MatchBool b Whole (¬ Whole)) lacks.1 c.requires.known.complete)

pub returns-in-Ok-clause-ok : goal.returns-in-Ok-clause-ok
returns-in-Ok-clause-ok c =
    let f = c.args.former.now in
    let Whole : Type 0 = IsWhole c.args.disk.now.image.now c.args.disk.now.layout.now f.known.file.number f.file.blocks.items f.file.is_cut in
    let enough : c.args.partial ≡ false → f.known.whole ≡ true =
    subst (λ b. MatchBool b ((c.args.partial ≡ false) × (f.known.whole ≡ false)) (c.args.partial ≡ false → f.known.whole ≡ true)) c.if-lacks.false c.is_lacking-lacks.ensures in
    let got = c.in-Ok.ensures.ok in (
      got.0,
      got.1,
      record {
        file = f.file;
        chain = c.requires.chain;
        whole = λ all. subst (λ b. MatchBool b Whole (¬ Whole)) (enough all) c.requires.known.complete;
        got = got.2;
      },
    )

pub returns-in-Err-clause-err : goal.returns-in-Err-clause-err
returns-in-Err-clause-err c =
    let f = c.args.former.now in
    let Whole : Type 0 = IsWhole c.args.disk.now.image.now c.args.disk.now.layout.now f.known.file.number f.file.blocks.items f.file.is_cut in
    let enough : c.args.partial ≡ false → f.known.whole ≡ true =
    subst (λ b. MatchBool b ((c.args.partial ≡ false) × (f.known.whole ≡ false)) (c.args.partial ≡ false → f.known.whole ≡ true)) c.if-lacks.false c.is_lacking-lacks.ensures in
    (f.file, c.requires.chain, (λ all. subst (λ b. MatchBool b Whole (¬ Whole)) (enough all) c.requires.known.complete), c.in-Err.ensures.err)
