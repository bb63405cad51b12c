-- A letter more, and all letters.
use Rattle.std.proofs.Common.{◌≡◌, ◌∙◌, rules, sym, subst, []}
use Rattle.std.specs.Fmt.{HasWritten}
use Rattle.std.specs.List.{flat_map}
use Rattle.std.specs.Str.{chars}
use Rattle.std.proofs.Output.{has_written_append, has_written_of_eq}
use Rattle.std.proofs.lemmas.Iterator.{YieldsList-from_chars}
use Rattle.std.proofs.lemmas.Iterator.Consumers.{YieldsList-end}
use Rattle.std.proofs.lemmas.List.{flat_map_more, map-id}
use Rattle.fs_host.specs.Texts.{shown_letter}
use Rattle.fs_host.proofs.shown.write_text.Goals as goal

pub loop-letter-preserved : goal.loop-letter-preserved
loop-letter-preserved g c = λ p.
    has_written_of_eq _ _ _ _ _ (flat_map_more shown_letter [] c.loop-letter.yielded c.in-Some.letter) (has_written_append _ _ _ _ _ _ (c.loop-letter.invariant p) (search rules))

pub returns : goal.returns
returns g c =
    let t = YieldsList-end (YieldsList-from_chars c.args.text.now c.utf8.text cc) c.loop-letter.yielded _ c.loop-letter.yielded_by _ _ c.in-None.is c.next.ensures.steps in
    let whole : c.loop-letter.yielded ≡ chars c.args.text.now = sym (map-id c.loop-letter.yielded) ∙ t.0 in
    λ plain _. subst (λ letters. HasWritten g.W.Write.write_str_gives c.args.f.now (flat_map shown_letter letters) c.loop-letter.f) whole (c.loop-letter.invariant plain)
