use denote.Enum.Bare.{same_false, same_true}
use Rattle.std.proofs.Common.{◌≡◌, ◌≢◌, ◌∙◌, refl, sym, subst, inl, inr, List, [], ◌∷◌, Some, rules}
use Rattle.std.proofs.lemmas.Result.{err_from_is_err_and}
use Rattle.ods_shell.specs.declared.alone.Alone.TheVariants as alone
use Rattle.ods_shell.specs.Named.{highest}
use Rattle.ods_shell.specs.contracts.facts.Kind.{the_type}
use Rattle.ods_shell.specs.declared.found.Found.{Found}
use Rattle.ods_upkeep.specs.Sources.{AreOfPath}
use Rattle.ods_upkeep.specs.Unbegun.{directory, not_one, not_there, reserved}
use Rattle.ods_upkeep.proofs.Naming.{just_one, no_source_by, of_path_by}
use Rattle.ods_upkeep.proofs.like_files.facts_at.Goals as goal

pub returns : goal.returns
returns c =
    let I = c.args.volume.now.image in
    let L = c.args.volume.now.layout in
    let found : List Found = c.in_ok-found.found.items in
    let named : AreOfPath I L (highest alone.Refused) c.args.path.now found = of_path_by I L c.highest.result (highest alone.Refused) c.args.path.now [] c.in_ok-found.field-0-1.items found c.highest.ensures refl c.in_ok-found.ensures.named in
    let one : found ≡ c.one-item.result ∷ [] = just_one c.as_slice.result.now found c.one-item.result c.as_slice.ensures.value c.in-len1.len_at_least c.in-len1.len_below c.one-item.is in
    record {
      found = c.one-item.result;
      one = subst (AreOfPath I L (highest alone.Refused) c.args.path.now) one named;
      known = c.in-Some.is;
      plain = same_false the_type _ _ (sym c.if-eq.ensures);
      above = c.if-facts-le2.false;
    }

pub returns-in_err-found : goal.returns-in_err-found
returns-in_err-found c =
    let p = err_from_is_err_and c.from_residual.result c.from_residual.ensures.1 in
    rw (p.1, p.2) (inl (no_source_by c.args.volume.now.image c.args.volume.now.layout _ _ c.args.path.now _ _ c.highest.ensures refl c.in_err-found.ensures.err))

pub returns-then-eq : goal.returns-then-eq
returns-then-eq c =
    let I = c.args.volume.now.image in
    let L = c.args.volume.now.layout in
    let found : List Found = c.in_ok-found.found.items in
    let named : AreOfPath I L (highest alone.Refused) c.args.path.now found = of_path_by I L c.highest.result (highest alone.Refused) c.args.path.now [] c.in_ok-found.field-0-1.items found c.highest.ensures refl c.in_ok-found.ensures.named in
    let one : found ≡ c.one-item.result ∷ [] = just_one c.as_slice.result.now found c.one-item.result c.as_slice.ensures.value c.in-len1.len_at_least c.in-len1.len_below c.one-item.is in
    inr (found, named, directory c.one-item.result c.in-Some.facts one c.in-Some.is (same_true the_type (search rules) _ _ (sym c.if-eq.ensures)))

pub returns-then-facts-le2 : goal.returns-then-facts-le2
returns-then-facts-le2 c =
    let I = c.args.volume.now.image in
    let L = c.args.volume.now.layout in
    let found : List Found = c.in_ok-found.found.items in
    let named : AreOfPath I L (highest alone.Refused) c.args.path.now found = of_path_by I L c.highest.result (highest alone.Refused) c.args.path.now [] c.in_ok-found.field-0-1.items found c.highest.ensures refl c.in_ok-found.ensures.named in
    let one : found ≡ c.one-item.result ∷ [] = just_one c.as_slice.result.now found c.one-item.result c.as_slice.ensures.value c.in-len1.len_at_least c.in-len1.len_below c.one-item.is in
    inr (found, named, reserved c.one-item.result c.in-Some.facts one c.in-Some.is c.if-facts-le2.true)

pub returns-in_default : goal.returns-in_default
returns-in_default c =
    let I = c.args.volume.now.image in
    let L = c.args.volume.now.layout in
    let found : List Found = c.in_ok-found.found.items in
    let named : AreOfPath I L (highest alone.Refused) c.args.path.now found = of_path_by I L c.highest.result (highest alone.Refused) c.args.path.now [] c.in_ok-found.field-0-1.items found c.highest.ensures refl c.in_ok-found.ensures.named in
    let other : (one : Found) → c.as_slice.result.now ≢ one ∷ [] = search rules in
    inr (found, named, not_one (λ one is. other one (c.as_slice.ensures.value ∙ is)))

pub returns-in_default-facts : goal.returns-in_default-facts
returns-in_default-facts c =
    let I = c.args.volume.now.image in
    let L = c.args.volume.now.layout in
    let found : List Found = c.in_ok-found.found.items in
    let named : AreOfPath I L (highest alone.Refused) c.args.path.now found = of_path_by I L c.highest.result (highest alone.Refused) c.args.path.now [] c.in_ok-found.field-0-1.items found c.highest.ensures refl c.in_ok-found.ensures.named in
    let one : found ≡ c.one-item.result ∷ [] = just_one c.as_slice.result.now found c.one-item.result c.as_slice.ensures.value c.in-len1.len_at_least c.in-len1.len_below c.one-item.is in
    inr (found, named, not_there c.one-item.result one c.in_default-facts.is)
