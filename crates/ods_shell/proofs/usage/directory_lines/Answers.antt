use Rattle.std.proofs.Common.{rules, ◌≡◌, ◌∙◌, ◌<◌, ◌++◌, ap, length}
use Rattle.std.specs.Prelude.{slice_get, slice_index}
use Rattle.std.specs.String.{string_bytes}
use Rattle.ods_shell.specs.Usage.{blocks_at, directory_use}
use Rattle.ods_shell.proofs.Uses.{flat_next}
use Rattle.ods_shell.proofs.usage.directory_lines.Goals as goal

pub loop-place-preserved : goal.loop-place-preserved
loop-place-preserved c =
    let k = c.loop-place.place in
    let dirs = c.args.directories.now in
    let within : k < length dirs = search rules in
    let read : c.sum_at-blocks.result ≡ slice_index c.deref.result.now k = c.sum_at-blocks.ensures in
    let sums : slice_index c.deref.result.now k ≡ slice_index c.in_ok-sums.sums.items k = ap (λ l. slice_index l k) c.deref.ensures.value in
    let blocks : c.sum_at-blocks.result ≡ blocks_at c.args.uses.now k = read ∙ sums ∙ c.in_ok-sums.ensures k within in
    flat_next (λ place. directory_use c.args.json c.args.image.now (slice_get dirs place) (blocks_at c.args.uses.now place)) k (string_bytes c.loop-place.text) (string_bytes c.push_directory_use.new.text)
    (c.in_ok-push_directory_use.ensures ∙ ap (λ b. string_bytes c.loop-place.text ++ directory_use c.args.json c.args.image.now (slice_get dirs k) b) blocks) c.loop-place.invariant
