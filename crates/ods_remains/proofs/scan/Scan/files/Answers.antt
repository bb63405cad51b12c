use Rattle.std.proofs.Common.{◌∙◌, ◌++◌, map, sym, ap, subst}
use Rattle.std.specs.List.{filter}
use Rattle.ods_remains.specs.Candidates.{HasFirst}
use Rattle.ods_remains.specs.Keys.{lbn_in, is_first_key}
use Rattle.ods_remains.specs.Scanned.{AreHeaders}
use Rattle.ods_remains.proofs.ListedKeys.{first_headers}
use Rattle.ods_remains.proofs.scan.Scan.files.Goals as goal

pub returns : goal.returns
returns c =
    let I = c.self.inside.image.now in
    let firsts = first_headers I c.len.ensures.image c.self.inside.keys.items c.self.invariant in
    let are = c.in_ok-push_first_lbns.ensures ∙ ap (λ xs. xs ++ map lbn_in (filter is_first_key c.deref.result.now)) c.new-firsts.ensures.items ∙ ap (λ ks. map lbn_in (filter is_first_key ks)) c.deref.ensures.value in
    subst (λ J. AreHeaders J (HasFirst J) c.push_first_lbns.new.firsts.items) c.self.view_is (subst (AreHeaders I (HasFirst I)) (sym are) firsts)
