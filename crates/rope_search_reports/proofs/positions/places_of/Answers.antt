use Rattle.ropey.specs.Chunks.{text_of}
use Rattle.rope_search_reports.proofs.positions.places_of.Goals as goal

pub returns-in_err-line-clause-scalars : goal.returns-in_err-line-clause-scalars
returns-in_err-line-clause-scalars c = c.of.ensures.scalars

pub place_at-requires : goal.place_at-requires
place_at-requires c = (text_of c.args.text.now, c.args.from.line, c.in_ok-line.ensures.line)

pub place_at-requires-then-to-from : goal.place_at-requires-then-to-from
place_at-requires-then-to-from c = (text_of c.args.text.now, c.args.from.line, c.in_ok-line.ensures.line)
