use Rattle.cu_sweep.proofs.Readying.{chain_keeps}
use Rattle.cu_sweep.proofs.linking.ChainLinking.set.Goals as goal

pub set-requires-clause-place : goal.set-requires-clause-place
set-requires-clause-place c = c.requires.place chain_keeps

pub set-requires-clause-from : goal.set-requires-clause-from
set-requires-clause-from c = c.requires.from chain_keeps
