use Rattle.std.proofs.Common.{◌++◌, ◌∷◌, [], ◌∙◌, sym, ap, map, append_assoc}
use Rattle.std.proofs.lemmas.List.{map-append}
use Rattle.ods_directory.specs.Entry.{entry_in}
use Rattle.ods_directory.proofs.Used.{used_from}
use Rattle.ods_directory.proofs.Blockwise.{used_from_used, used_from_unused}
use Rattle.ods_directory.proofs.lines.push_rows.Goals as goal
use Rattle.ods_directory.proofs.lines.push_rows.Goals.{then-is_used+in_ok-push, else-is_used}

pub loop-k-preserved : goal.loop-k-preserved
loop-k-preserved g c =
    let entry = entry_in c.args.block.now in
    let old = c.args.rows.now.items in
    let k = c.loop-k.k in
    elim c.if-is_used.branch [
      | then-is_used+in_ok-push w ↦
          let more = used_from_used entry k (sym c.is_used.ensures ∙ w.if-is_used.true) in
          let here = used_from entry 0 k in
          ap (λ v. v.items) w.rows-is ∙ w.in_ok-push.ensures.items ∙ ap (λ l. l ++ w.of.result ∷ []) c.loop-k.invariant
          ∙ append_assoc old (map g.R.Row.row_of here) (w.of.result ∷ [])
          ∙ ap (λ l. old ++ l) (ap (λ x. map g.R.Row.row_of here ++ x ∷ []) w.of.ensures ∙ sym (map-append g.R.Row.row_of here (entry k ∷ [])) ∙ ap (map g.R.Row.row_of) (sym more))
      | else-is_used w ↦
          let same = used_from_unused entry k (sym c.is_used.ensures ∙ w.if-is_used.false) in
          ap (λ v. v.items) w.rows-is ∙ c.loop-k.invariant ∙ ap (λ es. old ++ map g.R.Row.row_of es) (sym same)
    ]
