use Rattle.rx_chunk.proofs.pikevm.seek_first.Goals as goal

pub returns-clause-engine : goal.returns-clause-engine
returns-clause-engine g c = c.program.ensures.engine

pub returns-clause-bound : goal.returns-clause-bound
returns-clause-bound g c = c.position-at.ensures.holds.lawful.bound
