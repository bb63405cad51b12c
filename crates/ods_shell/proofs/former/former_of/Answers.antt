use Rattle.std.proofs.Common.{rules, string_bytes, [], ◌++◌, ◌≡◌, ◌∙◌, ap, refl, sym, subst, Some, None}
use Rattle.ods_remains.proofs.FileFronts.{one_chain}
use Rattle.ods_shell.specs.Deleted.{IsDeletionBy}
use Rattle.ods_shell.specs.Former.{IsFormerBy}
use Rattle.ods_shell.specs.Texts.{shown_id}
use Rattle.ods_shell.specs.declared.former.Former.{Former}
use Rattle.ods_shell.proofs.former.former_of.Goals as goal

pub returns : goal.returns
returns c =
    let I = c.args.disk.now.image.now in
    let L = c.args.disk.now.layout.now in
    let left = c.in_ok-left.left in
    let facts = c.facts_left-facts in
    let f : Former = record {
      found = record { path = c.push_id.new.text; place = None; facts = Some facts.result };
      known = left;
      file = c.args.chain;
    } in
    let of = c.in_ok-left.ensures in
    let same : left.file ≡ c.args.file = of.3.id ∙ sym c.requires.chain.own in
    let n = c.args.file.number in
    let one = one_chain I L n of.0 of.1 c.args.chain.headers.items c.args.chain.blocks.items of.2 c.args.chain.is_cut of.3.follows c.requires.chain.follows in
    let none : string_bytes c.new-path.result ≡ [] = search rules in
    let is : IsFormerBy I L c.args.file f = record {
      chain = c.requires.chain;
      known = subst (λ b. IsDeletionBy I L n c.args.chain.headers.items c.args.chain.blocks.items b left) one.2
          (subst (λ bs. IsDeletionBy I L n c.args.chain.headers.items bs of.2 left) one.1 (subst (λ xs. IsDeletionBy I L n xs of.1 of.2 left) one.0 of.3));
      path = c.in_ok-push_id.ensures ∙ ap (λ text. text ++ shown_id c.args.file) none;
      place = refl;
      condition = facts.ensures.0;
      there = facts.ensures.1;
      facts = ap Some facts.ensures.2;
    } in
    (same, subst (λ id. IsFormerBy I L id f) (sym same) is)
