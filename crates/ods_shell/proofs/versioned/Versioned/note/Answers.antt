use Rattle.std.proofs.Common.{◌≡◌, ◌∙◌, ap, sym, subst}
use Rattle.ods_shell.specs.Versioned.{IsJoined, Known, joined, known_of, name_key, version_at}
use Rattle.ods_shell.proofs.Joining.{joined_by}
use Rattle.ods_shell.proofs.versioned.Versioned.note.Goals as goal

pub returns : goal.returns
returns c =
    let inside : Known = c.self.inside.versions.entries in
    let key = name_key c.args.place.now in
    let known : c.known.result ≡ known_of inside key = c.known.ensures ∙ ap (λ (n : Known). known_of n key) (sym c.self.view_is) in
    let now : c.joined-now.result ≡ joined (known_of inside key) (version_at c.args.place.now) =
    c.joined-now.ensures ∙ ap (λ v. joined c.known.result v) c.version_of.ensures ∙ ap (λ o. joined o (version_at c.args.place.now)) known in
    let noted = joined_by c.self.inside.versions c.insert.new.self key (version_at c.args.place.now) c.joined-now.result c.key.result c.key.ensures now c.in_ok-insert.ensures.updates in
    subst (λ (n : Known). IsJoined n key (version_at c.args.place.now) c.insert.new.self.entries) c.self.view_is noted
