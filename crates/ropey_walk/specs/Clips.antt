-- Parts of a text, and of its chunks, from one character up to another.
use Rattle.std.specs.Prelude.{ℕ, ◌-◌, ◌==◌, nat_lt, if◌then◌else◌, List, [], ◌∷◌, length, take, drop}

-- the characters or bytes of a text from an index up to another
abbrev pub between : ℕ → ℕ → List ℕ → List ℕ
between start end text = drop start (take end text)

-- the chunks from a character on: the one that contains it loses its start
abbrev pub pieces_from_char : ℕ → List (List ℕ) → List (List ℕ)
pieces_from_char start [] = []
pieces_from_char start (p ∷ ps) = if nat_lt start (length p) then drop start p ∷ ps else pieces_from_char (start - length p) ps

-- the chunks up to a character: the one that contains it loses its end
abbrev pub pieces_to_char : ℕ → List (List ℕ) → List (List ℕ)
pieces_to_char end [] = []
pieces_to_char end (p ∷ ps) = if end == 0 then [] else take end p ∷ pieces_to_char (end - length p) ps

-- the chunks from a character up to another
abbrev pub clip : ℕ → ℕ → List (List ℕ) → List (List ℕ)
clip start end pieces = pieces_from_char start (pieces_to_char end pieces)
