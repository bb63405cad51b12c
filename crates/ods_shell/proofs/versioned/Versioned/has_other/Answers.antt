use Rattle.std.proofs.Common.{◌≡◌, ◌∙◌, ap, sym, subst}
use Rattle.std.specs.Prelude.{MatchBool}
use Rattle.ods_shell.specs.Versioned.{HasOther, IsKnownOf, is_other, known_of, name_key, version_at}
use Rattle.ods_shell.proofs.Joining.{tells_other}
use Rattle.ods_shell.proofs.versioned.Versioned.has_other.Goals as goal

pub returns : goal.returns
returns c = λ files are.
    let place = c.args.file.now.place in
    let known = known_of c.args.self.now (name_key place) in
    let is : c.is_other.result ≡ is_other known (version_at place) = c.is_other.ensures ∙ ap (λ v. is_other c.known.result v) c.version_of.ensures ∙ ap (λ o. is_other o (version_at place)) c.known.ensures in
    subst (λ b. MatchBool b (HasOther files place) (¬ HasOther files place)) (sym is) (tells_other files place known (are (name_key place)))
