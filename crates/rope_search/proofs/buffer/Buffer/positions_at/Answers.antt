use Rattle.rope_search.proofs.buffer.Buffer.positions_at.Goals as goal

pub returns-in_default-clause-range : goal.returns-in_default-clause-range
returns-in_default-clause-range c = λ start stop there. c.in_default.ensures.range (start.line, start.column) there.starts

pub returns-in_default-position_at-clause-range : goal.returns-in_default-position_at-clause-range
returns-in_default-position_at-clause-range c = λ start stop there. c.in_default-position_at.ensures.range (stop.line, stop.column) there.ends

pub returns-clause-at : goal.returns-clause-at
returns-clause-at c = record { starts = c.in-Ok.ensures.at; ends = c.in-Ok-position_at.ensures.at }
