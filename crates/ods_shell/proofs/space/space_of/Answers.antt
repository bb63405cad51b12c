use Rattle.std.proofs.Common.{ap, subst}
use Rattle.ods_shell.specs.declared.space.Space.{Space}
use Rattle.ods_shell.specs.Space.{IsSpaceOf}
use Rattle.ods_shell.proofs.space.space_of.Goals as goal

pub returns : goal.returns
returns c =
    let space : Space = record { blocks = c.len.result; free = c.free_count.result; longest = c.longest_free.result; numbers = c.numbers_in_use.result; ready = c.number_count.result; most = c.home.result.max_files } in
    let here : IsSpaceOf c.disk-disk.result.image.now c.disk-disk.result.layout.now space = record {
      all = c.len.ensures.value;
      unused = c.free_count.ensures;
      run = c.longest_free.ensures;
      in_use = c.numbers_in_use.ensures;
      at_hand = c.number_count.ensures;
      greatest = ap (λ h. h.max_files) c.home.ensures;
    } in
    subst (λ I. IsSpaceOf I c.args.volume.now.layout space) c.disk-disk.ensures.image (subst (λ L. IsSpaceOf c.disk-disk.result.image.now L space) c.disk-disk.ensures.layout here)
