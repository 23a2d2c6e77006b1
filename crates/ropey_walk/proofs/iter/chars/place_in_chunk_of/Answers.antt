use Rattle.ropey_walk.specs.Slices.{slice_pieces, slice_text}
use Rattle.ropey_walk.proofs.CharWalks.{HoldsChar, char_held}
use Rattle.ropey_walk.proofs.iter.chars.place_in_chunk_of.Goals as goal
use Rattle.ropey_walk.proofs.iter.chars.place_in_chunk_of.Goals.{After-byte_of_char}

held : (c : After-byte_of_char) → HoldsChar (slice_text c.args.slice.now) c.args.in_char c.args.char_idx c.chunk-chunk.result.text.now c.byte_of_char.result
held c =
    let chunk = c.chunk-chunk.result in
    let e = c.chunk-chunk.ensures in
    rw c.byte_of_char.ensures
    (char_held (slice_pieces c.args.slice.now) c.args.in_char c.args.char_idx chunk.text.now chunk.start e.utf8 e.stands e.cut c.requires.low c.requires.high c.requires.within)

pub returns-clause-place : goal.returns-clause-place
returns-clause-place c = (held (goal.at.returns-clause-place c).After-byte_of_char).place

pub returns-clause-ahead : goal.returns-clause-ahead
returns-clause-ahead c = (held (goal.at.returns-clause-ahead c).After-byte_of_char).ahead

pub returns-clause-behind : goal.returns-clause-behind
returns-clause-behind c = (held (goal.at.returns-clause-behind c).After-byte_of_char).behind

pub byte_of_char-requires : goal.byte_of_char-requires
byte_of_char-requires c = c.chunk-chunk.result.ascii
