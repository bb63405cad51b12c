use Rattle.ods_state.proofs.Served.{refused_by_fault, refused_by_memory, short_of_memory, fault_alone}
use Rattle.ods_state.proofs.laws.refusal_is_one.Goals as goal

pub returns : goal.returns
returns c = λ I L who r f. record {
  by_fault = refused_by_fault I L who r f;
  by_memory = refused_by_memory I L who r f;
  of_memory = short_of_memory I L who r f;
  of_fault = fault_alone I L who r f;
}
