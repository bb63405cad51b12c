use Rattle.std.proofs.Common.{◌++◌, ◌∙◌, ◌∷◌, [], ap, sym, List, ℕ, append_assoc}
use Rattle.fs_reads.proofs.file_paths.text_of_one.Goals as goal

pub returns : goal.returns
returns c = c.in_ok-text.ensures.ok ∙ ap (λ (l : List ℕ). c.args.line.now ++ l) (sym (append_assoc c.args.gap.now c.args.path.now (10 ∷ [])))
