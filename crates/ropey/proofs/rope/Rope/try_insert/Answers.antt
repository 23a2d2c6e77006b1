use Rattle.std.proofs.Common.{◌∙◌}
use Rattle.std.specs.Str.{chars}
use Rattle.ropey.specs.Chunks.{text_of}
use Rattle.ropey.proofs.Editing.{place_of, boundary_of, inserted_is, on_ok}
use Rattle.ropey.proofs.rope.Rope.try_insert.Goals as goal

pub insert_at-requires : goal.insert_at-requires
insert_at-requires c =
    let known = c.in_ok-byte_idx.ensures in
    let t = text_of c.args.self.now in
    boundary_of t c.args.char_idx c.in_ok-byte_idx.byte_idx (known.value.1 ∙ place_of t c.args.char_idx known.value.0)

pub returns-clause-text : goal.returns-clause-text
returns-clause-text c =
    let known = c.in_ok-byte_idx.ensures in
    let t = text_of c.args.self.now in
    let place = known.value.1 ∙ place_of t c.args.char_idx known.value.0 in
    on_ok c.insert_at.result (inserted_is t c.args.char_idx c.in_ok-byte_idx.byte_idx (chars c.args.text.now) (text_of c.insert_at.new.self) place) c.insert_at.ensures.text
