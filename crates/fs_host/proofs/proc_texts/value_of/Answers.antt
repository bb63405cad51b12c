use Rattle.std.proofs.Common.{◌≡◌, length, take, drop}
use Rattle.std.proofs.lemmas.List.{take-append-drop}
use Rattle.std.specs.Cmp.Lexicographic.{bytes_decides}
use Rattle.fs_host.proofs.proc_texts.value_of.Goals as goal

pub returns-in-Some : goal.returns-in-Some
returns-in-Some c =
    let front : take (length c.args.key.now) c.args.line.now ≡ c.args.key.now = (bytes_decides _ _).0 c.in-Some.ensures.cases.0 in
    let back : c.in-Some.value.now ≡ drop (length c.args.key.now) c.args.line.now = c.in-Some.ensures.cases.1 in
    let whole = take-append-drop (length c.args.key.now) c.args.line.now in
    cc

pub returns-in-None : goal.returns-in-None
returns-in-None c = λ e. let same = (bytes_decides _ _).1 e in absurd (cc (same, c.in-None.ensures.cases))
