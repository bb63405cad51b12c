use Rattle.std.proofs.Common.{rules, ◌≡◌, ◌++◌, sym, ap, ◌∙◌, subst, [], ◌∷◌, append_assoc}
use Rattle.std.specs.Prelude.{reverse, MatchBool}
use Rattle.std.specs.List.{All}
use Rattle.std.proofs.lemmas.List.{reverse-append, append-nil}
use Rattle.std.proofs.lemmas.List.Elements.{All-push}
use Rattle.ods_walk.specs.Steps.{from_top}
use Rattle.ods_walk.specs.Walk.{IsWalkedInto}
use Rattle.ods_walk.proofs.walking.next_directory.Goals as goal
use Rattle.ods_walk.proofs.walking.next_directory.Goals.{After-is_walked_into}

-- the line at hand stood on top of the pile
top : (c : After-is_walked_into) → from_top c.lines.pile.items ≡ c.in-Some.line ∷ from_top c.pop.new.self.items
top c = ap reverse c.in-Some.ensures.items ∙ reverse-append c.pop.new.self.items (c.in-Some.line ∷ [])

-- what is passed is in order with what is left
pile_so : (c : After-is_walked_into) → from_top c.args.pile.now.items ≡ c.lines.invariant.0 ++ c.in-Some.line ∷ from_top c.pop.new.self.items
pile_so c = c.lines.invariant.2 ∙ ap (λ l. c.lines.invariant.0 ++ l) (top c)

lines_so : (c : After-is_walked_into) → c.push.new.self.items ≡ c.args.lines.now.items ++ (c.lines.invariant.0 ++ c.in-Some.line ∷ [])
lines_so c = c.in_ok-push.ensures.items ∙ ap (λ l. l ++ c.in-Some.line ∷ []) c.lines.invariant.3 ∙ append_assoc c.args.lines.now.items c.lines.invariant.0 (c.in-Some.line ∷ [])

pub returns-then-is_walked_into-clause-some : goal.returns-then-is_walked_into-clause-some
returns-then-is_walked_into-clause-some c =
    let here = (goal.at.returns-then-is_walked_into-clause-some c).After-is_walked_into in
    record {
      passed = c.lines.invariant.0;
      are = c.lines.invariant.1;
      order = pile_so here;
      lines = lines_so here;
      into = λ entered are. subst
          (λ b. MatchBool b (IsWalkedInto c.args.disk.now.image.now c.args.disk.now.layout.now entered c.in-Some.line.entry) (¬ IsWalkedInto c.args.disk.now.image.now c.args.disk.now.layout.now entered c.in-Some.line.entry))
          c.if-is_walked_into.true (c.is_walked_into.ensures entered are);
    }

pub lines-preserved : goal.lines-preserved
lines-preserved c =
    let here = (goal.at.lines-preserved c).After-is_walked_into in (
      c.lines.invariant.0 ++ c.in-Some.line ∷ [],
      (λ entered are. All-push (λ l. ¬ IsWalkedInto c.args.disk.now.image.now c.args.disk.now.layout.now entered l.entry) c.lines.invariant.0 c.in-Some.line (c.lines.invariant.1 entered are) (subst
          (λ b. MatchBool b (IsWalkedInto c.args.disk.now.image.now c.args.disk.now.layout.now entered c.in-Some.line.entry) (¬ IsWalkedInto c.args.disk.now.image.now c.args.disk.now.layout.now entered c.in-Some.line.entry))
          c.if-is_walked_into.false (c.is_walked_into.ensures entered are))),
      pile_so here ∙ sym (append_assoc c.lines.invariant.0 (c.in-Some.line ∷ []) (from_top c.pop.new.self.items)),
      lines_so here,
    )

pub returns-clause-none : goal.returns-clause-none
returns-clause-none c =
    let none : c.lines.pile.items ≡ [] = search rules in
    let all : from_top c.args.pile.now.items ≡ c.lines.invariant.0 = c.lines.invariant.2 ∙ ap (λ p. c.lines.invariant.0 ++ from_top p) none ∙ append-nil c.lines.invariant.0 in
    record {
      are = λ entered are. subst (λ l. All (λ p. ¬ IsWalkedInto c.args.disk.now.image.now c.args.disk.now.layout.now entered p.entry) l) (sym all) (c.lines.invariant.1 entered are);
      lines = c.lines.invariant.3 ∙ ap (λ l. c.args.lines.now.items ++ l) (sym all);
    }
