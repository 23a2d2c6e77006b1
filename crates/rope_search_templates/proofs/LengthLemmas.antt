-- The length of a text whose matches are replaced.
use Rattle.std.proofs.Common.{◌≡◌, ℕ, ◌+◌, ◌-◌, ◌<◌, ◌≤◌, List, [], ◌∷◌, ◌++◌, length, drop, get_or, ap, subst, ◌∙◌, arith, length-drop, IsUtf8}
use Rattle.std.specs.Str.{IsCharBoundary}
use Rattle.std.proofs.lemmas.List.{drop_more}
use Rattle.std.proofs.lemmas.Str.{IsUtf8-drop, encodes-chars}
use Rattle.str_indices.specs.Text.{byte_len}
use Rattle.rope_search_changes.specs.Replacement.{Groups, whole, between, expand, replaced}
use Rattle.rope_search_templates.proofs.ContentLemmas.{byte_len-append, between-len, AreLeft, left-behind}

-- after the last match everything stays
pub len-none : (content template : List ℕ) (at : ℕ) → IsUtf8 content → IsCharBoundary content at → byte_len (replaced content template at []) ≡ length content - at
len-none content template at utf8 here =
    ap length (encodes-chars (drop at content) (IsUtf8-drop content at utf8 here)) ∙ length-drop at content

pub len-more : (content template : List ℕ) (at : ℕ) (match : Groups) (matches : List Groups) → IsUtf8 content → AreLeft content at (match ∷ matches)
    → byte_len (replaced content template at (match ∷ matches)) ≡ ((whole match).0 - at) + byte_len (expand content match template) + byte_len (replaced content template (whole match).1 matches)
len-more content template at match matches utf8 left =
    let gap = between content at (whole match).0 in
    let told = expand content match template in
    let rest = replaced content template (whole match).1 matches in
    omega (arith, byte_len-append (gap ++ told) rest, byte_len-append gap told, between-len content utf8 at (whole match).0 left.follow.0 left.here left.follow.2)

-- ---- whether it gets too long

-- this much room is left for the rest after an offset
pub record HasRoom (content template : List ℕ) (at : ℕ) (matches : List Groups) (room limit len : ℕ) : Type 0 where
  pub left : AreLeft content at matches
  pub room_is : room + len ≡ limit + byte_len (replaced content template at matches)

-- at the next of them
pub room-next : (content template : List ℕ) (at : ℕ) (matches : List Groups) (k : ℕ) (room limit len : ℕ) → k < length matches
    → HasRoom content template at (drop k matches) room limit len → HasRoom content template at (get_or matches k [] ∷ drop (k + 1) matches) room limit len
room-next content template at matches k room limit len inside is = subst (λ ms. HasRoom content template at ms room limit len) (drop_more matches k [] inside) is

pub room-more : (content template : List ℕ) (at : ℕ) (match : Groups) (matches : List Groups) (room limit len room' : ℕ) → IsUtf8 content
    → HasRoom content template at (match ∷ matches) room limit len
    → room' + (((whole match).0 - at) + byte_len (expand content match template)) ≡ room
    → HasRoom content template (whole match).1 matches room' limit len
room-more content template at match matches room limit len room' utf8 is less = record {
  left = left-behind content at match matches is.left;
  room_is = omega (arith, len-more content template at match matches utf8 is.left, is.room_is, less);
}

-- no room for the gap, or for what follows it
pub room-gap : (content template : List ℕ) (at : ℕ) (match : Groups) (matches : List Groups) (room limit len : ℕ) → IsUtf8 content
    → HasRoom content template at (match ∷ matches) room limit len → room < (whole match).0 - at → limit < len
room-gap content template at match matches room limit len utf8 is none = omega (arith, len-more content template at match matches utf8 is.left, is.room_is, none)

pub room-told : (content template : List ℕ) (at : ℕ) (match : Groups) (matches : List Groups) (room limit len : ℕ) → IsUtf8 content
    → HasRoom content template at (match ∷ matches) room limit len
    → (whole match).0 - at ≤ room → room - ((whole match).0 - at) < byte_len (expand content match template) → limit < len
room-told content template at match matches room limit len utf8 is some none = omega (arith, len-more content template at match matches utf8 is.left, is.room_is, some, none)

pub room-end : (content template : List ℕ) (at room limit len : ℕ) → IsUtf8 content → HasRoom content template at [] room limit len
    → (room < length content - at → limit < len) × (limit < len → room < length content - at)
room-end content template at room limit len utf8 is =
    let rest = len-none content template at utf8 is.left.here in
    (λ none. omega (arith, none, rest, is.room_is), λ long. omega (arith, long, rest, is.room_is))
