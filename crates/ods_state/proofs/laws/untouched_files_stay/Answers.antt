use Rattle.std.specs.List.{Contains}
use Rattle.std.proofs.Common.{sym}
use Rattle.ods_state.proofs.Chains.{blocks_stay}
use Rattle.ods_state.proofs.Links.{linked_same}
use Rattle.ods_state.proofs.laws.untouched_files_stay.Goals as goal

pub returns : goal.returns
returns c = λ I J L changed S long agree apart n blocks far b. blocks_stay I J L S (λ m. Contains changed m) (record {
  long = long;
  linked = λ m free. linked_same I J L.home L.index m (agree m free).0 (agree m free).1;
  back = λ m free. linked_same J I L.home L.index m (sym (agree m free).0) (sym (agree m free).1);
  apart = apart;
}) n blocks far b
