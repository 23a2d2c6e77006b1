use Rattle.std.proofs.Common.{◌∙◌}
use Rattle.std.specs.Str.{chars}
use Rattle.ropey.specs.Chunks.{text_of}
use Rattle.ropey.proofs.Editing.{place_of, boundary_of, inserted_is, on_ok}
use Rattle.ropey.proofs.rope.Rope.insert.Goals as goal

pub insert_at-requires : goal.insert_at-requires
insert_at-requires c =
    let t = text_of c.args.self.now in
    boundary_of t c.args.char_idx c.char_to_byte-at.result (c.char_to_byte-at.ensures ∙ place_of t c.args.char_idx c.requires)

pub returns-clause-text : goal.returns-clause-text
returns-clause-text c =
    let t = text_of c.args.self.now in
    let place = c.char_to_byte-at.ensures ∙ place_of t c.args.char_idx c.requires in
    on_ok c.insert_at.result (inserted_is t c.args.char_idx c.char_to_byte-at.result (chars c.args.text.now) (text_of c.insert_at.new.self) place) c.insert_at.ensures.text
