-- The names of units of columns.
use Rattle.std.proofs.Common.{◌≡◌, refl, arith}
use Rattle.rope_search.specs.declared.encodings.Encoding.{Encoding}
use Rattle.rope_search.specs.declared.encodings.Encoding.TheVariants.{Utf8, Utf16, Utf32}
use Rattle.rope_search_c.specs.Reading.{bits_of}

-- no two units have the same name
pub one_named : (encoding other : Encoding) → bits_of encoding ≡ bits_of other → encoding ≡ other
one_named Utf8 Utf8 same = refl
one_named Utf8 Utf16 same = absurd (omega (arith, same))
one_named Utf8 Utf32 same = absurd (omega (arith, same))
one_named Utf16 Utf8 same = absurd (omega (arith, same))
one_named Utf16 Utf16 same = refl
one_named Utf16 Utf32 same = absurd (omega (arith, same))
one_named Utf32 Utf8 same = absurd (omega (arith, same))
one_named Utf32 Utf16 same = absurd (omega (arith, same))
one_named Utf32 Utf32 same = refl
