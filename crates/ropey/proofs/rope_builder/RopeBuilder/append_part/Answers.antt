use Rattle.std.proofs.Common.{length, ap, arith}
use Rattle.std.specs.Str.{chars}
use Rattle.std.proofs.lemmas.Str.{encodes-chars}
use Rattle.ropey.proofs.Pieces.{byte_len-append}
use Rattle.ropey.proofs.rope_builder.RopeBuilder.append_part.Goals as goal

pub returns-clause-size : goal.returns-clause-size
returns-clause-size c e =
    let over = c.append.ensures.size.0 e in
    omega (arith, over, byte_len-append c.args.self.now (chars c.args.part.now), ap length (encodes-chars c.args.part.now c.utf8.part))
