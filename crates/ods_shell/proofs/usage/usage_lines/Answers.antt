use Rattle.std.proofs.Common.{◌∙◌, length, slice_get}
use Rattle.std.specs.List.{flat_map, range_with_len}
use Rattle.std.proofs.lemmas.Result.{IfOk-weaker}
use Rattle.ods_shell.specs.Usage.{blocks_at, directory_use}
use Rattle.ods_shell.proofs.usage.usage_lines.Goals as goal

pub returns : goal.returns
returns c =
    let directories = c.deref.ensures.value in
    let uses = c.deref-2.ensures.value in
    IfOk-weaker c.directory_lines.result _ _ (λ text is. (
      c.in_ok-all.all.items,
      c.in_ok-all.ensures,
      is ∙ (λ i. flat_map (λ place. directory_use c.args.json c.args.image.now (slice_get (directories i) place) (blocks_at (uses i) place)) (range_with_len 0 (length (directories i)))),
    )) c.directory_lines.ensures
