use Rattle.std.proofs.Common.{◌/◌, ◌≡◌, ◌+◌, ◌*◌, get_or, [], ◌∷◌, ◌∙◌, ap}
use Rattle.ods_base.specs.Block.{byte, with_bytes}
use Rattle.ods_repair.specs.Repointed.{pointer_byte}
use Rattle.ods_repair.proofs.Repointed.{is_repointed, new_pointer}
use Rattle.ods_repair.proofs.repointing.repointed.Goals as goal

pub returns : goal.returns
returns c =
    let b = c.args.block.now in
    let at = c.args.at in
    let to = c.args.to in
    let count : c.byte-2.result ≡ byte b (pointer_byte b at + 1) = c.byte-2.ensures ∙ (λ i. byte b (2 * c.byte.ensures i + 10 + 4 * at + 1)) in
    let middle : c.set_bytes.new.self ≡ with_bytes b (pointer_byte b at) (new_pointer b at to) =
    c.set_bytes.ensures.changed ∙ (λ i. with_bytes b (2 * c.byte.ensures i + 10 + 4 * at) (to / 65536 ∷ count i ∷ get_or (c.to_le_bytes-low.ensures i) 0 0 ∷ get_or (c.to_le_bytes-low.ensures i) 1 0 ∷ [])) in
    is_repointed b c.set_bytes.new.self c.set_word.new.block at to c.requires.layout c.requires.inside c.requires.small c.bytes.ensures.block c.set_word.ensures.stays middle c.set_bytes.ensures.stays.size
    (c.set_word.ensures.changed ∙ ap (λ t. Rattle.ods_base.specs.Block.with_word c.set_bytes.new.self 255 t) c.sum-total.ensures)
