use Rattle.ods_alloc.proofs.extend.extend_chain.Given as goal

-- the chain that was handed in
abbrev pub ghost-extend_from : goal.ghost-extend_from
ghost-extend_from g a = g.chain
