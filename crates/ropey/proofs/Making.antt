-- Texts that a rope is made of, and its chunks.
use Rattle.std.proofs.Common.{◌≡◌, ℕ, ◌^◌, ◌<◌, ◌≤◌, List, [], ◌∷◌, ◌++◌, length, ap, arith, ◌∙◌}
use Rattle.std.specs.List.{concat}
use Rattle.std.specs.Borrow.{Bor}
use Rattle.std.specs.Str.{IsUtf8, chars}
use Rattle.std.proofs.lemmas.Grind.{flat_map-append}
use Rattle.std.proofs.lemmas.List.{append-nil}
use Rattle.std.proofs.lemmas.List.Concat.{flat_map-cons}
use Rattle.std.proofs.lemmas.Iterator.Consumers.{YieldsList-from_shown}
use Rattle.std.proofs.lemmas.Iterator.{YieldsList}
use Rattle.std.proofs.lemmas.Str.{encodes-chars}
use Rattle.str_indices.specs.Text.{byte_len}
use Rattle.ropey_tree.specs.Cutting.{IsCutting, IsRopeText}
use Rattle.ropey.proofs.Pieces.{bytes-concat, byte_len-append, first_piece, rest_cut}
use Rattle.ropey.specs.Chunks.{text_of, joined}
use Rattle.ropey.specs.Iter.{TwoWay, GivesChunk}

-- pieces of a text that fits
pub fits_in : (ps : List (List ℕ)) (text : List ℕ) → IsCutting ps → concat ps ≡ chars text → IsUtf8 text → length text < 2 ^ 63 → IsRopeText ps
fits_in ps text cut joined utf8 fits = record { cut = cut; fits = omega (arith, bytes-concat ps, ap byte_len joined, ap length (encodes-chars text utf8), fits) }

-- one part more
pub joined-last : (parts : List (Bor (List ℕ))) (part : Bor (List ℕ)) → joined (parts ++ part ∷ []) ≡ joined parts ++ chars part.now
joined-last parts part =
    flat_map-append (λ p. chars p.now) parts (part ∷ []) ∙ ap (λ t. joined parts ++ t) (flat_map-cons (λ p. chars p.now) part [] ∙ append-nil (chars part.now))

-- ---- the chunks of a rope
-- what a loop over them gets
pub chunks_given : (chunks : TwoWay (List ℕ)) → YieldsList GivesChunk (λ (chunk : Bor (List ℕ)). chars chunk.now) chunks chunks.ahead
chunks_given chunks = YieldsList-from_shown GivesChunk (λ (chunk : Bor (List ℕ)). chars chunk.now) (λ place. place.ahead) (λ s t h. ap length h.0.0) (λ s chunk t h. h.0.0) chunks

-- each piece has a byte
pub pieces-le-bytes : (pieces : List (List ℕ)) → IsCutting pieces → length pieces ≤ byte_len (text_of pieces)
pieces-le-bytes [] cut = omega arith
pieces-le-bytes (p ∷ ps) cut = omega (arith, (first_piece p ps cut).not_empty, byte_len-append p (concat ps), pieces-le-bytes ps (rest_cut p ps cut))
