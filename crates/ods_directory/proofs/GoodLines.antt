-- The good lines among rows of which each is one or none.
use Rattle.std.proofs.Common.{◌≡◌, ◌≤◌, ℕ, List, [], ◌∷◌, length, map, Option, Some, None, refl, sym, ap, ◌∙◌, subst, arith}
use Rattle.std.specs.List.{filter_map, cons_option}
use Rattle.ods_base.specs.declared.listed.Listed.{Listed}
use Rattle.ods_directory.specs.Entry.{Entry}
use Rattle.ods_directory.specs.Lines.{good_line, good_lines}

-- the rows that are there, of the rows of entries
pub good_rows : (es : List Entry) → filter_map (λ row. row) (map good_line es) ≡ good_lines es
good_rows [] = refl
good_rows (e ∷ es) = ap (cons_option (good_line e)) (good_rows es)

-- no more than there are rows
pub few_rows : (rows : List (Option Listed)) → length (filter_map (λ row. row) rows) ≤ length rows
few_rows [] = omega arith
few_rows (Some line ∷ rows) = let rest = few_rows rows in omega (arith, rest)
few_rows (None ∷ rows) = let rest = few_rows rows in omega (arith, rest)
