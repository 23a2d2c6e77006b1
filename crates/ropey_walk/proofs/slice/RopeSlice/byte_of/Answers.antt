use Rattle.std.proofs.Common.{arith}
use Rattle.std.specs.Str.{chars}
use Rattle.ropey_walk.specs.Slices.{slice_text}
use Rattle.ropey_walk.proofs.Placing.{byte_fits}
use Rattle.ropey_walk.proofs.slice.RopeSlice.byte_of.Goals as goal

pub overflow_add-result : goal.overflow_add-result
overflow_add-result c =
    let place = c.args.place.now in
    let fits = byte_fits (slice_text c.args.self.now) (chars place.text.now) place.start place.at c.requires in
    omega (arith, fits)
