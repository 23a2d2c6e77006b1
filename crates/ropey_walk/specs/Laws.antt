-- Laws of the definitions, for every text in chunks.
use Rattle.std.specs.Prelude.{◌≡◌, ◌↔◌, ℕ, false, List, ◌++◌, encode_utf8_all, nat_eq, IsTrue}
use Rattle.std.specs.Cmp.Lexicographic.{pointwise}
use Rattle.ropey_tree.specs.Cutting.{IsCutting, cuts_cr_lf}
use Rattle.ropey_walk.specs.Chunks.{text_of}

-- no CR LF spans two chunks of a rope
abbrev pub NoCuttingCutsCrLf : Type 0
NoCuttingCutsCrLf = (front rest : List (List ℕ)) → IsCutting (front ++ rest) → cuts_cr_lf (text_of front) (text_of rest) ≡ false

-- texts have equal bytes exactly if they are equal
abbrev pub EqualWhereTextsAre : Type 0
EqualWhereTextsAre = (text text' : List ℕ) → IsTrue (pointwise nat_eq (encode_utf8_all text) (encode_utf8_all text')) ↔ (text ≡ text')
