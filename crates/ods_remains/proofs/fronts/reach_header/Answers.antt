use Rattle.std.proofs.Common.{◌≡◌, ◌++◌, ◌∙◌, sym, ap, subst}
use Rattle.std.specs.List.{Contains}
use Rattle.ods_header.specs.Header.{blocks_of}
use Rattle.ods_remains.specs.Deleted.{former}
use Rattle.ods_remains.proofs.fronts.reach_header.Goals as goal

pub returns : goal.returns
returns c =
    let D = c.args.disk.now in
    let there : c.deref.result.now ≡ blocks_of (former D.image.now D.layout.now c.args.number) =
    c.deref.ensures.value ∙ c.in_ok-push_header.ensures ∙ ap (λ xs. xs ++ blocks_of c.in-Some.header) c.new-blocks.ensures.items ∙ ap blocks_of c.in-Some.ensures.1 in
    (c.past_all.ensures.kept, λ is lbn has. c.past_all.ensures.above lbn (subst (λ xs. Contains xs lbn) (sym there) has))
