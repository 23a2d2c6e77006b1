use Rattle.std.proofs.Common.{get_or, sym, ◌∙◌}
use Rattle.std.proofs.lemmas.Str.{encode_same}
use Rattle.ropey_walk.specs.Slices.{slice_pieces, slice_text}
use Rattle.ropey_walk.proofs.Reading.{IsCharAt, char_read, no_char_left}
use Rattle.ropey_walk.proofs.slice.RopeSlice.char.Goals as goal
use Rattle.ropey_walk.proofs.slice.RopeSlice.char.Goals.{After-byte_of_char-at}

read : (c : After-byte_of_char-at) → IsCharAt c.chunk-chunk.result.text.now c.byte_of_char-at.result (get_or (slice_text c.args.self.now) c.args.char_idx 0)
read c =
    let r = c.chunk-chunk.result in
    let e = c.chunk-chunk.ensures in
    rw c.byte_of_char-at.ensures
    (char_read (slice_pieces c.args.self.now) c.args.char_idx r.text.now r.start e.utf8 e.stands e.cut c.requires)

pub range_from-requires : goal.range_from-requires
range_from-requires c = λ _. (read (goal.at.range_from-requires c).After-byte_of_char-at).boundary

pub unreachable-requires : goal.unreachable-requires
unreachable-requires c =
    let at = read (goal.at.unreachable-requires c).After-byte_of_char-at in
    no_char_left c.chars.result.rest.now at.rest (get_or (slice_text c.args.self.now) c.args.char_idx 0) (c.chars.ensures.rest ∙ c.range_from.ensures.value ∙ at.reads) c.in-None.ensures.steps.0.0

pub returns : goal.returns
returns c =
    let at = read (goal.at.returns c).After-byte_of_char-at in
    let text = c.chars.ensures.rest ∙ c.range_from.ensures.value ∙ at.reads in
    (encode_same c.in-Some.character (get_or (slice_text c.args.self.now) c.args.char_idx 0) c.next.new.self.rest.now at.rest (sym c.in-Some.ensures.steps.0 ∙ text)).0

pub byte_of_char-at-requires : goal.byte_of_char-at-requires
byte_of_char-at-requires c = c.chunk-chunk.result.ascii
