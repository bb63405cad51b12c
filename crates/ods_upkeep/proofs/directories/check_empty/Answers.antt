use denote.Enum.Bare.{differs_false}
use Rattle.std.proofs.Common.{◌≡◌, ◌≢◌, ◌∙◌, ap, arith, inl, inr, length, rules, refl, sym, subst, List, []}
use Rattle.std.specs.Prelude.{MatchBool}
use Rattle.std.proofs.lemmas.Bool.{eqb-false, eqb-true}
use Rattle.std.proofs.lemmas.List.{nil_from_length}
use Rattle.std.proofs.lemmas.Result.{err_from_is_err_and}
use Rattle.ods_base.specs.declared.listed.Listed.{Listed}
use Rattle.ods_walk.specs.Listing.{IsListing}
use Rattle.ods_shell.specs.contracts.facts.Kind.{the_type}
use Rattle.ods_upkeep.specs.Hidden.{HidesEntries}
use Rattle.ods_upkeep.proofs.Unemptying.{has_some}
use Rattle.ods_upkeep.proofs.directories.check_empty.Goals as goal

pub returns : goal.returns
returns c =
    let I = c.args.volume.now.image in
    let L = c.args.volume.now.layout in
    let n = c.in-Some.facts.file.number in
    let lines = c.in_ok-lines.lines.items in
    let zero : c.in_ok-lines.lines.len ≡ 0 = eqb-true c.in_ok-lines.lines.len 0 (sym c.if-not-is_empty.ensures) in
    let none : lines ≡ [] = nil_from_length lines (omega (arith, zero, c.in_ok-lines.lines.ok.0)) in
    record {
      facts = c.in-Some.facts;
      known = sym c.facts.ensures ∙ c.in-Some.is;
      is = differs_false the_type (search rules) _ _ (sym c.if-ne.ensures);
      directory = c.if-not-is_directory_file.ensures;
      above = c.if-facts-le-LAST_OWN.false;
      empty = (λ is. subst (IsListing I L n) none (c.in_ok-lines.ensures.there is), λ other. refl {A = List Listed} {a = []});
      shows = subst (λ b. MatchBool b (HidesEntries I L n) (¬ HidesEntries I L n)) c.if-branch.false c.in_ok-hides_entries.ensures;
    }

pub returns-then-facts-le-LAST_OWN : goal.returns-then-facts-le-LAST_OWN
returns-then-facts-le-LAST_OWN c =
    inr (c.in-Some.facts, sym c.facts.ensures ∙ c.in-Some.is, inr (differs_false the_type (search rules) _ _ (sym c.if-ne.ensures), c.if-not-is_directory_file.ensures, inl (refl, c.if-facts-le-LAST_OWN.true)))

pub returns-in_err-lines : goal.returns-in_err-lines
returns-in_err-lines c =
    let p = err_from_is_err_and c.from_residual.result c.from_residual.ensures.1 in
    rw (p.1, p.2)
    (has_some c.args.volume.now.image c.args.volume.now.layout c.args.found.now c.in-Some.facts _ (sym c.facts.ensures ∙ c.in-Some.is) (differs_false the_type (search rules) _ _ (sym c.if-ne.ensures))
    c.if-not-is_directory_file.ensures c.if-facts-le-LAST_OWN.false (inr (inr refl)))

pub returns-then-not-is_empty : goal.returns-then-not-is_empty
returns-then-not-is_empty c =
    let lines = c.in_ok-lines.lines.items in
    let some : lines ≢ [] = λ none.
    (let zero : length lines ≡ 0 = ap length none in
    eqb-false c.in_ok-lines.lines.len 0 (sym c.if-not-is_empty.ensures) (omega (arith, zero, c.in_ok-lines.lines.ok.0))) in
    has_some c.args.volume.now.image c.args.volume.now.layout c.args.found.now c.in-Some.facts _ (sym c.facts.ensures ∙ c.in-Some.is) (differs_false the_type (search rules) _ _ (sym c.if-ne.ensures))
    c.if-not-is_directory_file.ensures c.if-facts-le-LAST_OWN.false (inl (refl, (lines, (c.in_ok-lines.ensures.there, c.in_ok-lines.ensures.none), some)))

pub returns-in_err-hides_entries : goal.returns-in_err-hides_entries
returns-in_err-hides_entries c =
    let p = err_from_is_err_and c.from_residual-in_err-hides_entries.result c.from_residual-in_err-hides_entries.ensures.1 in
    rw (p.1, p.2)
    (has_some c.args.volume.now.image c.args.volume.now.layout c.args.found.now c.in-Some.facts _ (sym c.facts.ensures ∙ c.in-Some.is) (differs_false the_type (search rules) _ _ (sym c.if-ne.ensures))
    c.if-not-is_directory_file.ensures c.if-facts-le-LAST_OWN.false (inr (inr refl)))

pub returns-then-branch : goal.returns-then-branch
returns-then-branch c =
    let I = c.args.volume.now.image in
    let L = c.args.volume.now.layout in
    let n = c.in-Some.facts.file.number in
    let lines = c.in_ok-lines.lines.items in
    let zero : c.in_ok-lines.lines.len ≡ 0 = eqb-true c.in_ok-lines.lines.len 0 (sym c.if-not-is_empty.ensures) in
    let none : lines ≡ [] = nil_from_length lines (omega (arith, zero, c.in_ok-lines.lines.ok.0)) in
    has_some I L c.args.found.now c.in-Some.facts _ (sym c.facts.ensures ∙ c.in-Some.is) (differs_false the_type (search rules) _ _ (sym c.if-ne.ensures))
    c.if-not-is_directory_file.ensures c.if-facts-le-LAST_OWN.false
    (inr (inl (
      refl,
      (λ is. subst (IsListing I L n) none (c.in_ok-lines.ensures.there is), λ other. refl {A = List Listed} {a = []}),
      subst (λ b. MatchBool b (HidesEntries I L n) (¬ HidesEntries I L n)) c.if-branch.true c.in_ok-hides_entries.ensures,
    )))
