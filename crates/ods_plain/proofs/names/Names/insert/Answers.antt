use Rattle.std.proofs.Common.{◌≡◌, refl, sym, ap, subst, ◌∙◌, false}
use Rattle.std.specs.List.{insert}
use Rattle.std.specs.FinMap as names
use Rattle.std.proofs.lemmas.Bool.{eq-eqb}
use Rattle.ods_base.specs.declared.listed.Listed.{Listed}
use Rattle.ods_base.specs.Name.{key_of}
use Rattle.ods_plain.specs.Lines.{names_in, gap_for, AreLines}
use Rattle.ods_plain.proofs.LineLists.{IsInserted, inserted}
use Rattle.ods_plain.proofs.names.Names.insert.Goals as goal
use Rattle.ods_plain.proofs.names.Names.insert.Goals.{In_ok-insert}

-- the lines before and the line that goes in
abbrev line : In_ok-insert → Listed
line c = record { name = c.args.name; version = c.args.version; file = c.args.file }

put_in : (c : In_ok-insert) → IsInserted c.self.inside.lines.items (insert c.self.inside.lines.items (gap_for (key_of c.args.name c.args.version) c.self.inside.lines.items) (line c)) (key_of c.args.name c.args.version) c.args.file
put_in c = inserted c.self.inside.lines.items (key_of c.args.name c.args.version) c.args.file (line c) c.self.invariant refl (eq-eqb _ _ c.key.ensures.named)
    (subst (λ m. names.contains_key m (key_of c.args.name c.args.version) ≡ false) (sym c.self.view_is) c.requires)

place_is : (c : In_ok-insert) → c.gap-at.result ≡ gap_for (key_of c.args.name c.args.version) c.self.inside.lines.items
place_is c = c.gap-at.ensures.value ∙ (λ i. gap_for (c.key.ensures.value i) (c.as_slice.ensures.value i))

new_is : (c : In_ok-insert) → c.insert.new.self.items ≡ insert c.self.inside.lines.items (gap_for (key_of c.args.name c.args.version) c.self.inside.lines.items) (line c)
new_is c = c.in_ok-insert.ensures.items ∙ ap (λ at. insert c.self.inside.lines.items at (line c)) (place_is c)

pub invariant_of-self-2 : goal.invariant_of-self-2
invariant_of-self-2 c = subst AreLines (sym (new_is c)) (put_in c).lines

pub returns-clause-ok : goal.returns-clause-ok
returns-clause-ok c = ap names_in (new_is c) ∙ (put_in c).names ∙ ap (λ m. names.insert m (key_of c.args.name c.args.version) c.args.file) c.self.view_is
