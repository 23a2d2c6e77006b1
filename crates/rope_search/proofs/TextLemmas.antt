-- Texts and the bytes that spell them.
use Rattle.std.proofs.Common.{List, ℕ, IsUtf8}
use Rattle.std.proofs.lemmas.Str.{encodes-chars, scalars-chars}
use Rattle.std.specs.Str.{chars}
use Rattle.rope_search_reports.specs.Text.{Encodes}

-- the text that UTF-8 spells
pub Encodes-chars : (bytes : List ℕ) → IsUtf8 bytes → Encodes (chars bytes) bytes
Encodes-chars bytes utf8 = record { scalars = scalars-chars bytes utf8; spelled = encodes-chars bytes utf8 }
