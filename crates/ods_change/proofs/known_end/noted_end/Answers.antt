use Rattle.std.proofs.Common.{[], ◌∷◌, ◌∙◌, ap, length, sym}
use Rattle.ods_space.specs.Chain.{index_for}
use Rattle.ods_space.proofs.Chains.{same_chain}
use Rattle.ods_change.proofs.known_end.noted_end.Goals as goal

pub returns : goal.returns
returns c = λ others blocks chain.
    let L = c.args.disk.now.layout.now in
    let n = c.args.number in
    let w = c.requires.whole in
    let is = same_chain c.args.disk.now.image.now L.home (index_for L n) [] 0 n others blocks w.0 w.1 chain w.2.chain in
    let m = c.of-end.ensures.end w.0 w.1 w.2 in
    (m.0 ∙ ap (λ l. length (n ∷ l)) (sym is.0), m.1 ∙ ap length (sym is.1), c.of-end.ensures.last.number others blocks chain)
