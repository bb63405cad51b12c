use Rattle.std.proofs.Common.{◌∙◌, ◌++◌, map, sym, ap, subst}
use Rattle.ods_remains.specs.Candidates.{HasCandidate}
use Rattle.ods_remains.specs.Keys.{lbn_in}
use Rattle.ods_remains.specs.Scanned.{AreHeaders}
use Rattle.ods_remains.proofs.ListedKeys.{all_headers}
use Rattle.ods_remains.proofs.scan.Scan.candidates.Goals as goal

pub returns : goal.returns
returns c =
    let I = c.self.inside.image.now in
    let all = all_headers I c.len.ensures.image c.self.inside.keys.items c.self.invariant in
    let are = c.in_ok-push_lbns.ensures ∙ ap (λ xs. xs ++ map lbn_in c.deref.result.now) c.new-lbns.ensures.items ∙ ap (map lbn_in) c.deref.ensures.value in
    subst (λ J. AreHeaders J (HasCandidate J) c.push_lbns.new.lbns.items) c.self.view_is (subst (AreHeaders I (HasCandidate I)) (sym are) all)
