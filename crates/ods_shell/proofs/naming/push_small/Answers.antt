-- A letter more, and all letters.
use Rattle.std.proofs.Common.{◌≡◌, ◌∙◌, ◌++◌, sym, subst}
use Rattle.std.specs.List.{flat_map}
use Rattle.std.specs.Str.{chars}
use Rattle.std.specs.String.{string_bytes}
use Rattle.std.proofs.lemmas.Iterator.{YieldsList-from_chars}
use Rattle.std.proofs.lemmas.Iterator.Consumers.{YieldsList-end}
use Rattle.std.proofs.lemmas.List.{map-id}
use Rattle.ods_shell.specs.HostNames.{small_letter}
use Rattle.ods_shell.proofs.naming.push_small.Goals as goal

pub returns : goal.returns
returns c =
    let t = YieldsList-end (YieldsList-from_chars c.args.part.now c.utf8.part cc) c.loop-character.yielded _ c.loop-character.yielded_by _ _ c.in-None.is c.next.ensures.steps in
    let whole : c.loop-character.yielded ≡ chars c.args.part.now = sym (map-id c.loop-character.yielded) ∙ t.0 in
    subst (λ letters. string_bytes c.loop-character.text ≡ string_bytes c.args.text.now ++ flat_map small_letter letters) whole c.loop-character.invariant
