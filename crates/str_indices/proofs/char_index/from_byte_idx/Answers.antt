use Rattle.str_indices.proofs.Indices.{first_bytes-up_to, RoundsDown}
use Rattle.str_indices.proofs.char_index.from_byte_idx.Goals as goal

pub returns : goal.returns
returns g c =
    let found = c.floor_char_boundary-end.ensures in
    let rounded : RoundsDown c.args.text.now c.args.byte_idx c.floor_char_boundary-end.result = record { bound = found.bound; boundary = found.boundary; nearest = found.nearest } in
    let e = first_bytes-up_to _ _ g.met.M.CharMeasure.at_first_bytes c.args.text.now c.utf8.text c.args.byte_idx c.floor_char_boundary-end.result rounded in cc
