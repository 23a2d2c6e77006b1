-- Positions without text between them.
use Rattle.std.proofs.Common.{◌≡◌, ℕ, ◌⊎◌, List, ◌++◌, length, take, drop, take-append-drop, length-take-le, refl, sym, ap, ◌∙◌, subst, inl, inr, arith, chars}
use Rattle.std.specs.Str.{IsUtf8}
use Rattle.std.proofs.lemmas.Bool.{cases_lt}
use Rattle.std.proofs.lemmas.Str.{IsUtf8-take, chars-append, chars-encodes, encodes-chars}
use Rattle.str_indices.specs.Text.{byte_len}
use Rattle.rope_search_reports.specs.Laws.{HasOnePlace}
use Rattle.rope_search_reports.specs.Text.{bytes_of, IsText}
use Rattle.rope_search_reports.specs.Position.{IsAt, IsNowhere}
use Rattle.rope_search.specs.Places.{HasNoneBetween}
use Rattle.rope_search.specs.Laws.{AreTurned, NoneIsNowhereOrTurned}
use Rattle.rope_search.proofs.PartLaws.{ends_choice, front_within, byte_len-append}

-- a position is nowhere if no prefix ends at it
nowhere : (text : List ℕ) (line column : ℕ) → IsText text → ((x y : List ℕ) → text ≡ x ++ y → IsAt text (line, column) (byte_len x) → ⊥) → IsNowhere text (line, column)
nowhere text line column scalars none place at =
    let bytes = bytes_of text in
    let utf8 : IsUtf8 bytes = (text, (scalars, refl)) in
    let first = IsUtf8-take bytes place utf8 at.boundary in
    let front = chars (take place bytes) in
    let parts : text ≡ front ++ chars (drop place bytes) = sym (chars-encodes text scalars) ∙ ap chars (sym (take-append-drop place bytes)) ∙ chars-append (take place bytes) (drop place bytes) first in
    let place_is : place ≡ byte_len front = sym (ap length (encodes-chars (take place bytes) first) ∙ length-take-le place bytes at.boundary.0) in
    none front (chars (drop place bytes)) parts (subst (IsAt text (line, column)) place_is at)

pub none_between : HasOnePlace → NoneIsNowhereOrTurned
none_between one text from to scalars = (forth, back)
  where
    forth : HasNoneBetween text from to → IsNowhere text (from.line, from.column) ⊎ (IsNowhere text (to.line, to.column) ⊎ AreTurned text from to)
    forth none = elim (ends_choice text from.line from.column) [
      | inr not_there ↦ inl (nowhere text from.line from.column scalars not_there)
      | inl start ↦ elim (ends_choice text to.line to.column) [
        | inr not_there ↦ inr (inl (nowhere text to.line to.column scalars not_there))
        | inl end ↦ elim (cases_lt (byte_len end.front) (byte_len start.front)) [
          | inl below ↦ inr (inr (record { start = byte_len start.front; end = byte_len end.front; starts = start.at; ends = end.at; turned = below }))
          | inr ordered ↦
              let mid = front_within start.front start.back end.front end.back (sym start.parts ∙ end.parts) (omega (arith, ordered)) in
              absurd (none start.front mid.0 end.back (record {
                scalars = scalars;
                parts = end.parts ∙ ap (λ l. l ++ end.back) mid.1;
                starts = start.at;
                ends = subst (λ l. IsAt text (to.line, to.column) (byte_len l)) mid.1 end.at;
              }))
        ]
      ]
    ]

    back : IsNowhere text (from.line, from.column) ⊎ (IsNowhere text (to.line, to.column) ⊎ AreTurned text from to) → HasNoneBetween text from to
    back (inl lost) before part behind h = lost (byte_len before) h.starts
    back (inr (inl lost)) before part behind h = lost (byte_len (before ++ part)) h.ends
    back (inr (inr turned)) before part behind h =
        let start = one text (from.line, from.column) (byte_len before) turned.start scalars h.starts turned.starts in
        let end = one text (to.line, to.column) (byte_len (before ++ part)) turned.end scalars h.ends turned.ends in
        let below = turned.turned in
        omega (arith, start, end, below, byte_len-append before part)
