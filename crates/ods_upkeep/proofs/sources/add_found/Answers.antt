use Rattle.std.proofs.Common.{refl}
use Rattle.std.proofs.lemmas.Result.{err_from_is_err_and}
use Rattle.ods_shell.specs.declared.path_fault.PathFault.TheVariants.{NoMemory}
use Rattle.ods_upkeep.proofs.sources.add_found.Goals as goal

pub returns-in_err-append : goal.returns-in_err-append
returns-in_err-append c = let p = err_from_is_err_and c.from_residual-in_err-append.result c.from_residual-in_err-append.ensures.1 in rw (p.1, p.2) (NoMemory, refl, tt)
