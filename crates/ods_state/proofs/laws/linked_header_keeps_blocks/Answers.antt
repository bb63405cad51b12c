use Rattle.ods_state.proofs.HeaderChange.{has_blocks}
use Rattle.ods_state.proofs.laws.linked_header_keeps_blocks.Goals as goal

pub returns : goal.returns
returns c = λ I L n lbn b S place to back m blocks h. has_blocks I L S n lbn b place to back m blocks h
