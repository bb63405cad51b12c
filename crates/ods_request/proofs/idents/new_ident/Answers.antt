use Rattle.std.proofs.Common.{◌∷◌, ◌++◌, replicate, ◌∙◌}
use Rattle.ods_request.proofs.IdentBytes.{from, bytes_of, ident_is}
use Rattle.ods_request.proofs.idents.new_ident.Goals as goal

pub returns : goal.returns
returns c =
    (λ i. c.low.ensures i ∷ c.high.ensures i ∷ c.low-2.ensures i ∷ c.high-2.ensures i ∷ c.low-3.ensures i ∷ c.high-3.ensures i
    ∷ c.low-4.ensures i ∷ c.high-4.ensures i ∷ c.low-5.ensures i ∷ c.high-5.ensures i ∷ 1 ∷ 0
    ∷ (from 13 0 c.text.result.now ++ from 13 0 c.text.result.now ++ replicate 8 0))
    ∙ (λ i. bytes_of (from 3 0 (c.words.ensures.value i)) (c.ext-ext.ensures.value i) c.args.version (from 13 0 (c.text.ensures.value i)))
    ∙ ident_is c.args.name.now.words c.args.name.now.ext c.args.version c.args.stamp.now c.words.ensures.name.three c.text.ensures.stamp
