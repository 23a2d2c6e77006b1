-- The texts of groups.
use Rattle.std.proofs.Common.{◌≡◌, ℕ, zero, suc, ◌+◌, ◌-◌, ◌<◌, ◌≤◌, List, [], ◌∷◌, refl, length, take, drop, Option, Some, None, slice_index_or, ap, subst, ◌∙◌, arith, IsUtf8, IfSome}
use Rattle.std.proofs.lemmas.List.{length-take-le, length-drop}
use Rattle.std.proofs.lemmas.Str.{encodes-chars, IsUtf8-between}
use Rattle.str_indices.specs.Text.{byte_len}
use Rattle.ropey.specs.Slices.{IsByteRangeIn}
use Rattle.rope_search_changes.specs.Text.{IsText, bytes_of}
use Rattle.rope_search_changes.specs.Replacement.{Groups, IsSpanIn, HasSpansIn, text_of_span, expand}
use Rattle.rope_search_templates.specs.Pieces.{IsFirstPiece, shown}
use Rattle.rope_search_templates.specs.declared.pieces.Piece.{Piece}
use Rattle.rope_search_templates.proofs.ContentLemmas.{byte_len-append}

-- a text's UTF-8
pub utf8-of : (text : List ℕ) → IsText text → IsUtf8 (bytes_of text)
utf8-of text scalars = (text, (scalars, refl))

pub span-len : (content : List ℕ) (span : ℕ × ℕ) → IsUtf8 content → IsSpanIn content span
    → byte_len (text_of_span content (Some span)) ≡ span.1 - span.0
span-len content span utf8 is =
    let part = take (span.1 - span.0) (drop span.0 content) in
    let within : span.1 ≤ length content = is.stops.0 in
    ap length (encodes-chars part (IsUtf8-between content span.0 span.1 utf8 is.ordered is.starts is.stops))
    ∙ length-take-le (span.1 - span.0) (drop span.0 content) (omega (arith, length-drop span.0 content, within))

-- a group that takes part in the match has a span there
pub span-of : (content : List ℕ) (groups : Groups) (number : ℕ) (span : ℕ × ℕ) → HasSpansIn content groups
    → slice_index_or groups number None ≡ Some span → IsSpanIn content span
span-of content groups number span all is =
    let low = is-there groups number span is in
    subst (λ (group : Option (ℕ × ℕ)). IfSome group (IsSpanIn content)) is (all number None low)
  where
    is-there : (groups : Groups) (number : ℕ) (span : ℕ × ℕ) → slice_index_or groups number None ≡ Some span → number < length groups
    is-there [] number span is = absurd (cc)
    is-there (g ∷ gs) zero span is = omega arith
    is-there (g ∷ gs) (suc n) span is = let low = is-there gs n span is in omega (arith, low)

-- the rest of a template, and its first piece
pub piece-len : (content : List ℕ) (groups : Groups) (left : List ℕ) (piece : Piece) (behind : List ℕ) → IsFirstPiece left piece behind
    → byte_len (expand content groups left) ≡ byte_len (shown content groups piece) + byte_len (expand content groups behind)
piece-len content groups left piece behind first =
    ap byte_len (first.expands content groups) ∙ byte_len-append (shown content groups piece) (expand content groups behind)

-- ---- spans of a rope's text

pub range-in : (text : List ℕ) (span : ℕ × ℕ) → IsSpanIn (bytes_of text) span
    → IsByteRangeIn text (record { start = Some span.0; end = Some span.1 })
range-in text span is = record {
  range = record { order = is.ordered; within = is.stops.0 };
  starts = is.starts;
  stops = is.stops;
}
