use Rattle.ropey.specs.Chunks.{text_of}
use Rattle.rope_search.proofs.PartLaws.{marked_between, none_between, stands, unmarked}
use Rattle.rope_search.proofs.parts.Part.between.Goals as goal

pub returns-in_err-start-clause-none : goal.returns-in_err-start-clause-none
returns-in_err-start-clause-none c = rw (c.from_residual.ensures) (none_between (text_of c.args.text.now) c.args.from c.args.to c.in_err-start.ensures.none)

pub returns-then-end-start-clause-none : goal.returns-then-end-start-clause-none
returns-then-end-start-clause-none c =
    let text = text_of c.args.text.now in
    let starts = stands text c.args.from c.in_ok-start.start c.in_ok-start.ensures.starts in
    let ends = stands text c.args.to c.in_ok-start.end c.in_ok-start.ensures.ends in
    unmarked c.one_place.ensures text c.args.from c.args.to c.in_ok-start.start c.in_ok-start.end starts ends c.if-end-start.true

pub returns-clause-part : goal.returns-clause-part
returns-clause-part c =
    let text = text_of c.args.text.now in
    let starts = stands text c.args.from c.in_ok-start.start c.in_ok-start.ensures.starts in
    let ends = stands text c.args.to c.in_ok-start.end c.in_ok-start.ensures.ends in
    marked_between text c.args.from c.args.to (record { start = c.in_ok-start.start; end = c.in_ok-start.end }) c.places_of.ensures.scalars starts ends c.if-end-start.false
