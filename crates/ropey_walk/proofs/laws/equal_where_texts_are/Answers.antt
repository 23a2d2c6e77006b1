use Rattle.std.proofs.Common.{ap}
use Rattle.std.specs.Prelude.{encode_utf8_all}
use Rattle.std.specs.Cmp.Lexicographic.{bytes_decides}
use Rattle.std.proofs.lemmas.Str.{encodes_same}
use Rattle.ropey_walk.proofs.laws.equal_where_texts_are.Goals as goal

pub returns : goal.returns
returns c =
    λ text text'.
    let decides = bytes_decides (encode_utf8_all text) (encode_utf8_all text') in
    (λ equal. encodes_same text text' (decides.0 equal), λ same. decides.1 (ap encode_utf8_all same))
