use Rattle.std.proofs.Common.{◌≡◌, ◌∙◌, ap, sym, subst}
use Rattle.std.specs.Prelude.{max, unwrap_or}
use Rattle.ods_upkeep.specs.Versions.{IsNoted, Noted, version_in}
use Rattle.ods_upkeep.proofs.Noting.{noted_by}
use Rattle.ods_upkeep.proofs.versions.Highest.note.Goals as goal

pub returns : goal.returns
returns c =
    let inside : Noted = c.self.inside.versions.entries in
    let known : c.known.result ≡ version_in inside c.args.name.now = c.known.ensures ∙ ap (λ (n : Noted). version_in n c.args.name.now) (sym c.self.view_is) in
    let most : c.greater-highest.result ≡ max (unwrap_or (version_in inside c.args.name.now) 0) c.args.version =
    c.greater-highest.ensures ∙ ap (λ n. max n c.args.version) (c.unwrap_or.ensures ∙ ap (λ o. unwrap_or o 0) known) in
    let noted = noted_by c.self.inside.versions c.insert.new.self c.args.name.now c.args.version c.greater-highest.result c.key.result c.key.ensures most c.in_ok-insert.ensures.updates in
    subst (λ (n : Noted). IsNoted n c.args.name.now c.args.version c.insert.new.self.entries) c.self.view_is noted
