use Rattle.std.proofs.Common.{◌+◌, ◌-◌, ◌≤◌, List, ℕ, [], length, sym, subst}
use Rattle.std.proofs.lemmas.List.{get_or_past}
use Rattle.ods_header.specs.declared.header.HeaderFault.TheVariants.{WrongNumber}
use Rattle.ods_header.specs.Header.{IsFirstFault}
use Rattle.ods_header.proofs.Missing.{wrong_number}
use Rattle.ods_header.proofs.line.header_line.Goals as goal

pub returns-then-lbn-len-clause-err : goal.returns-then-lbn-len-clause-err
returns-then-lbn-len-clause-err c =
    let image = c.args.image.now in
    let home = c.args.home.now in
    let past : length image ≤ home.index_bitmap_lbn + home.index_bitmap_size + c.args.number - 1 = rw (← c.len.ensures.value) c.if-lbn-len.true in
    let P : List ℕ → Type 0 = λ b. IsFirstFault b c.args.number WrongNumber in
    subst P (sym (get_or_past image (home.index_bitmap_lbn + home.index_bitmap_size + c.args.number - 1) [] past)) (wrong_number c.args.number c.requires.some)
