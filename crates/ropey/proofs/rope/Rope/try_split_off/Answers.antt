use Rattle.std.proofs.Common.{◌∙◌}
use Rattle.ropey.specs.Chunks.{text_of}
use Rattle.ropey.proofs.Editing.{place_of, boundary_of, split_front, split_back}
use Rattle.ropey.proofs.rope.Rope.try_split_off.Goals as goal

pub split_off_at-requires : goal.split_off_at-requires
split_off_at-requires c =
    let known = c.in_ok-byte_idx.ensures in
    let t = text_of c.args.self.now in
    boundary_of t c.args.char_idx c.in_ok-byte_idx.byte_idx (known.value.1 ∙ place_of t c.args.char_idx known.value.0)

pub returns-clause-front : goal.returns-clause-front
returns-clause-front c =
    let known = c.in_ok-byte_idx.ensures in
    let t = text_of c.args.self.now in
    let place = known.value.1 ∙ place_of t c.args.char_idx known.value.0 in
    split_front c.split_off_at.result text_of (text_of c.split_off_at.new.self) t c.args.char_idx c.in_ok-byte_idx.byte_idx place c.split_off_at.ensures.text c.split_off_at.ensures.place

pub returns-clause-back : goal.returns-clause-back
returns-clause-back c =
    let known = c.in_ok-byte_idx.ensures in
    let t = text_of c.args.self.now in
    let place = known.value.1 ∙ place_of t c.args.char_idx known.value.0 in
    split_back c.split_off_at.result text_of (text_of c.split_off_at.new.self) t c.args.char_idx c.in_ok-byte_idx.byte_idx place c.split_off_at.ensures.text c.split_off_at.ensures.place
