use Rattle.rx_chunk.proofs.pikevm.all.best_of_all.Goals as goal

pub returns-clause-engine : goal.returns-clause-engine
returns-clause-engine g c = c.program.ensures.engine

pub returns-clause-bound : goal.returns-clause-bound
returns-clause-bound g c = c.position-at.ensures.holds.lawful.bound
