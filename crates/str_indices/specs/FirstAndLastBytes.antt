-- How the weights of a text's bytes count its characters: each at one of its bytes.
use Rattle.std.specs.Prelude.{◌≡◌, ℕ, ◌-◌, List, [], ◌∷◌, ◌++◌, length, replicate, encode_utf8_all}
use Rattle.std.specs.Char.{len_utf8}

-- a weight at the first of n bytes
abbrev pub first_block : ℕ → ℕ → List ℕ
first_block n w = w ∷ replicate (n - 1) 0

-- a weight at the last of n bytes
abbrev pub last_block : ℕ → ℕ → List ℕ
last_block n w = replicate (n - 1) 0 ++ w ∷ []

-- the weights of a text's bytes if each character counts at its first byte
abbrev pub at_first_bytes : (ℕ → List ℕ → ℕ) → List ℕ → List ℕ
at_first_bytes count [] = []
at_first_bytes count (c ∷ cs) = first_block (len_utf8 c) (count c cs) ++ at_first_bytes count cs

-- the weights of a text's bytes if each character counts at its last byte
abbrev pub at_last_bytes : (ℕ → List ℕ → ℕ) → List ℕ → List ℕ
at_last_bytes count [] = []
at_last_bytes count (c ∷ cs) = last_block (len_utf8 c) (count c cs) ++ at_last_bytes count cs

-- `weights` counts each character at its first byte
pub record CountsFirstBytes (weights : List ℕ → List ℕ) (count : ℕ → List ℕ → ℕ) : Type 0 where
  pub of_text : (text : List ℕ) → weights (encode_utf8_all text) ≡ at_first_bytes count text
  pub len : (bytes : List ℕ) → length (weights bytes) ≡ length bytes

-- `weights` counts each character at its last byte
pub record CountsLastBytes (weights : List ℕ → List ℕ) (count : ℕ → List ℕ → ℕ) : Type 0 where
  pub of_text : (text : List ℕ) → weights (encode_utf8_all text) ≡ at_last_bytes count text
  pub len : (bytes : List ℕ) → length (weights bytes) ≡ length bytes
