use Rattle.ropey.specs.Chunks.{text_of}
use Rattle.rope_search_reports.proofs.ColumnPlaces.{place-at, place-chars}
use Rattle.rope_search_reports.proofs.SpotsInLines.{no_line}
use Rattle.rope_search_reports.proofs.TextPlaces.{places}
use Rattle.rope_search_reports.proofs.positions.place_of.Goals as goal

pub returns-in_err-line-clause-scalars : goal.returns-in_err-line-clause-scalars
returns-in_err-line-clause-scalars c = c.of.ensures.scalars

pub returns-in_err-line-clause-at : goal.returns-in_err-line-clause-at
returns-in_err-line-clause-at c =
    rw (c.from_residual.ensures) (no_line places (text_of c.args.text.now) c.of.ensures.scalars c.args.position.line c.args.position.column c.in_err-line.ensures.none)

pub place_at-requires : goal.place_at-requires
place_at-requires c = (text_of c.args.text.now, c.args.position.line, c.in_ok-line.ensures.line)

pub returns-clause-at : goal.returns-clause-at
returns-clause-at c =
    let text = text_of c.args.text.now in
    place-at c.place_at.result text c.args.position.line c.args.position.column (c.place_at.ensures text c.args.position.line c.in_ok-line.ensures.line)

pub returns-clause-scalars : goal.returns-clause-scalars
returns-clause-scalars c = c.of.ensures.scalars

pub returns-clause-chars : goal.returns-clause-chars
returns-clause-chars c =
    let text = text_of c.args.text.now in
    place-chars c.place_at.result text c.args.position.line c.args.position.column (c.place_at.ensures text c.args.position.line c.in_ok-line.ensures.line)
