use Rattle.std.proofs.Common.{subst}
use Rattle.ods_space.specs.Faults.{IsChainFault}
use Rattle.ods_space.specs.declared.fault.ChainFault.{ChainFault}
use Rattle.ods_check.proofs.SharedHeaders.{no_headers, none_distinct}
use Rattle.ods_check.proofs.shared_headers.header_numbers.Goals as goal

pub returns-in-Err-BadChain-clause-headers : goal.returns-in-Err-BadChain-clause-headers
returns-in-Err-BadChain-clause-headers c =
    let P : ChainFault → Type 0 = λ f. IsChainFault c.args.disk.now.image.now c.args.disk.now.layout.now c.args.number f in
    no_headers c.args.disk.now.image.now c.args.disk.now.layout.now c.args.number c.new.result.items c.new.ensures.items (subst P c.in-Err-BadChain.field-0-is c.in-Err-BadChain.ensures.err)

pub returns-in-Err-BadChain-clause-distinct : goal.returns-in-Err-BadChain-clause-distinct
returns-in-Err-BadChain-clause-distinct c = none_distinct c.new.result.items c.new.ensures.items
