-- Why the test of two lists of lines is a lawful `==`.
use Rattle.std.specs.Cmp.{IsEquivalence, IsPartialEquivalence, partial_equiv_from_equiv, and_equiv, on_equiv, nat_eq_equiv}
use Rattle.std.specs.Cmp.Lexicographic.{lists_equiv}
use lib.Pointwise.{pointwise}
use Rattle.ods_base.specs.declared.file_id.FileId.{FileId}
use Rattle.ods_base.specs.declared.listed.Listed.{Listed}
use Rattle.ods_base.specs.Name.{RadName}
use Rattle.ods_request.specs.Equal.{same_id, same_name, same_line}

same_id-equivalence : IsEquivalence same_id
same_id-equivalence = and_equiv (on_equiv (λ (f : FileId). f.number) nat_eq_equiv) (on_equiv (λ (f : FileId). f.sequence) nat_eq_equiv)

same_name-equivalence : IsEquivalence same_name
same_name-equivalence = and_equiv (on_equiv (λ (n : RadName). n.words) (lists_equiv nat_eq_equiv)) (on_equiv (λ (n : RadName). n.ext) nat_eq_equiv)

same_line-equivalence : IsEquivalence same_line
same_line-equivalence =
    and_equiv (on_equiv (λ (l : Listed). l.name) same_name-equivalence)
    (and_equiv (on_equiv (λ (l : Listed). l.version) nat_eq_equiv) (on_equiv (λ (l : Listed). l.file) same_id-equivalence))

pub lines_equivalence : IsEquivalence (pointwise same_line)
lines_equivalence = lists_equiv same_line-equivalence

pub lines_partial_equivalence : IsPartialEquivalence (pointwise same_line)
lines_partial_equivalence = partial_equiv_from_equiv lines_equivalence
