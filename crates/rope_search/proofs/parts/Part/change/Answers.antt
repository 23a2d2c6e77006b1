use Rattle.std.proofs.Common.{length, refl, ap, arith}
use Rattle.std.specs.Str.{chars}
use Rattle.std.proofs.lemmas.Str.{encodes-chars}
use Rattle.rope_search.proofs.PatchLemmas.{change_of}
use Rattle.rope_search.proofs.parts.Part.change.Goals as goal

pub returns-clause-changes : goal.returns-clause-changes
returns-clause-changes c = λ text marked.
    let bytes = ap length (encodes-chars c.args.inserted.now c.utf8.inserted) in
    change_of text (chars c.args.inserted.now) c.args.self _ marked refl refl (omega (arith, bytes))
