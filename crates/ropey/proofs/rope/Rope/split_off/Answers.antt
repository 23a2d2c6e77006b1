use Rattle.std.proofs.Common.{◌∙◌}
use Rattle.ropey.specs.Chunks.{text_of}
use Rattle.ropey.proofs.Editing.{place_of, boundary_of, split_front, split_back}
use Rattle.ropey.proofs.rope.Rope.split_off.Goals as goal

pub split_off_at-requires : goal.split_off_at-requires
split_off_at-requires c =
    let t = text_of c.args.self.now in
    boundary_of t c.args.char_idx c.char_to_byte-byte_idx.result (c.char_to_byte-byte_idx.ensures ∙ place_of t c.args.char_idx c.requires)

pub returns-clause-front : goal.returns-clause-front
returns-clause-front c =
    let t = text_of c.args.self.now in
    let place = c.char_to_byte-byte_idx.ensures ∙ place_of t c.args.char_idx c.requires in
    split_front c.split_off_at.result text_of (text_of c.split_off_at.new.self) t c.args.char_idx c.char_to_byte-byte_idx.result place c.split_off_at.ensures.text c.split_off_at.ensures.place

pub returns-clause-back : goal.returns-clause-back
returns-clause-back c =
    let t = text_of c.args.self.now in
    let place = c.char_to_byte-byte_idx.ensures ∙ place_of t c.args.char_idx c.requires in
    split_back c.split_off_at.result text_of (text_of c.split_off_at.new.self) t c.args.char_idx c.char_to_byte-byte_idx.result place c.split_off_at.ensures.text c.split_off_at.ensures.place
