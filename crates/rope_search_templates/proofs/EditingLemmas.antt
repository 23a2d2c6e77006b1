-- Matches that are replaced one by one, from the first on.
use Rattle.std.proofs.Common.{◌≡◌, ℕ, ◌+◌, ◌-◌, ◌<◌, true, List, [], ◌∷◌, ◌++◌, length, drop, get_or, chars, refl, sym, ap, subst, ◌∙◌, arith, append_assoc, IsUtf8}
use Rattle.std.specs.Str.{IsCharBoundary, all_scalars}
use Rattle.std.proofs.lemmas.List.{drop_more}
use Rattle.std.proofs.lemmas.Str.{IsCharBoundary-at_seam, encodes-append, chars-encodes}
use Rattle.str_indices.specs.Text.{byte_len}
use Rattle.ropey.specs.Edits.{IsReplaced}
use Rattle.rope_search_changes.specs.Text.{bytes_of}
use Rattle.rope_search_changes.specs.Replacement.{Groups, whole, between, expand, replaced}
use Rattle.rope_search_templates.proofs.ContentLemmas.{byte_len-append, fronts-one, scalars-joined, scalars-parts, split-at, between-len, AreLeft}
use Rattle.rope_search_templates.proofs.BuildingLemmas.{IsBuilt, built-more}

-- In this text the matches before these have been replaced, and the rest after an offset is
-- unchanged; it starts at another offset here.
pub record IsReplacedBefore (content template : List ℕ) (at at_new : ℕ) (matches : List Groups) (text all : List ℕ) : Type 0 where
  pub front : List ℕ
  pub built : IsBuilt content template at matches front all
  pub text_is : text ≡ front ++ chars (drop at content)
  pub len_is : byte_len front ≡ at_new
  pub scalars : all_scalars text ≡ true

pub replaced-none : (text template : List ℕ) (matches : List Groups) (at at_new : ℕ) (new : List ℕ) → all_scalars text ≡ true → AreLeft (bytes_of text) 0 matches
    → at ≡ 0 → at_new ≡ 0 → new ≡ text
    → IsReplacedBefore (bytes_of text) template at at_new matches new (replaced (bytes_of text) template 0 matches)
replaced-none text template matches at at_new new scalars left at_is at_new_is new_is =
    let content = bytes_of text in
    let all = replaced content template 0 matches in
    let none : IsReplacedBefore content template 0 0 matches text all = record {
      front = [];
      built = record { left = left; text_is = refl };
      text_is = sym (chars-encodes text scalars);
      len_is = refl;
      scalars = scalars;
    } in
    subst (λ n. IsReplacedBefore content template n at_new matches new all) (sym at_is)
    (subst (λ n. IsReplacedBefore content template 0 n matches new all) (sym at_new_is)
    (subst (λ t. IsReplacedBefore content template 0 0 matches t all) (sym new_is) none))

-- at the next of them
pub replaced-next : (content template : List ℕ) (at at_new : ℕ) (matches : List Groups) (k : ℕ) (text all : List ℕ) → k < length matches
    → IsReplacedBefore content template at at_new (drop k matches) text all
    → IsReplacedBefore content template at at_new (get_or matches k [] ∷ drop (k + 1) matches) text all
replaced-next content template at at_new matches k text all inside is =
    subst (λ ms. IsReplacedBefore content template at at_new ms text all) (drop_more matches k [] inside) is

module _ (content template : List ℕ) (utf8 : IsUtf8 content) (at at_new : ℕ) (match : Groups) (matches : List Groups) (old all : List ℕ)
    (is : IsReplacedBefore content template at at_new (match ∷ matches) old all) where
  -- where the next match is
  parts-there : old ≡ (is.front ++ between content at (whole match).0) ++ (between content (whole match).0 (whole match).1 ++ chars (drop (whole match).1 content))
  parts-there =
      let left = is.built.left in
      let f = left.follow in
      let gap = between content at (whole match).0 in
      let gone = between content (whole match).0 (whole match).1 in
      let back = chars (drop (whole match).1 content) in
      is.text_is
      ∙ ap (λ l. is.front ++ l) (split-at content utf8 at (whole match).0 f.0 left.here f.2)
      ∙ ap (λ l. is.front ++ (gap ++ l)) (split-at content utf8 (whole match).0 (whole match).1 f.1 f.2 f.3)
      ∙ sym (append_assoc is.front gap (gone ++ back))

  front-len : byte_len (is.front ++ between content at (whole match).0) ≡ at_new + ((whole match).0 - at)
  front-len =
      let left = is.built.left in
      omega (arith, byte_len-append is.front (between content at (whole match).0), between-len content utf8 at (whole match).0 left.follow.0 left.here left.follow.2, is.len_is)

  gone-len : byte_len (between content (whole match).0 (whole match).1) ≡ (whole match).1 - (whole match).0
  gone-len =
      let f = is.built.left.follow in
      between-len content utf8 (whole match).0 (whole match).1 f.1 f.2 f.3

  -- an offset where two parts of the text meet is a character boundary
  seam : (front back : List ℕ) (place : ℕ) → old ≡ front ++ back → byte_len front ≡ place → IsCharBoundary (bytes_of old) place
  seam front back place parts len =
      let rest = (scalars-parts front back (sym (ap all_scalars parts) ∙ is.scalars)).1 in
      subst (IsCharBoundary (bytes_of old)) len
      (IsCharBoundary-at_seam (bytes_of old) (bytes_of front) (bytes_of back) (ap bytes_of parts ∙ encodes-append front back) (back, (rest, refl)))

  pub starts-there : IsCharBoundary (bytes_of old) (at_new + ((whole match).0 - at))
  starts-there = seam _ _ _ parts-there front-len

  pub ends-there : IsCharBoundary (bytes_of old) (at_new + ((whole match).0 - at) + ((whole match).1 - (whole match).0))
  ends-there =
      let front = is.front ++ between content at (whole match).0 in
      let gone = between content (whole match).0 (whole match).1 in
      let back = chars (drop (whole match).1 content) in
      seam (front ++ gone) back _ (parts-there ∙ sym (append_assoc front gone back)) (omega (arith, byte_len-append front gone, front-len, gone-len))

  -- and once it is replaced too
  pub replaced-one : (told new : List ℕ) (start end at_new' : ℕ) → IsReplaced old start end told new → all_scalars told ≡ true → told ≡ expand content match template
      → start ≡ at_new + ((whole match).0 - at) → end ≡ start + ((whole match).1 - (whole match).0) → at_new' ≡ start + byte_len told
      → IsReplacedBefore content template (whole match).1 at_new' matches new all
  replaced-one told new start end at_new' edit own told_is start_is end_is at_new_is =
      let front = is.front ++ between content at (whole match).0 in
      let gone = between content (whole match).0 (whole match).1 in
      let back = chars (drop (whole match).1 content) in
      let whole_is : edit.front ++ (edit.gone ++ edit.back) ≡ front ++ (gone ++ back) = sym (append_assoc edit.front edit.gone edit.back) ∙ sym edit.old_is ∙ parts-there in
      let first = fronts-one edit.front (edit.gone ++ edit.back) front (gone ++ back) whole_is (omega (arith, edit.starts, front-len, start_is)) in
      let lens : byte_len edit.gone ≡ byte_len gone = omega (arith, edit.starts, edit.ends, byte_len-append edit.front edit.gone, gone-len, end_is) in
      let last = fronts-one edit.gone edit.back gone back first.1 lens in
      let kept = scalars-parts (edit.front ++ edit.gone) edit.back (sym (ap all_scalars edit.old_is) ∙ is.scalars) in
      let fronts = scalars-parts edit.front edit.gone kept.0 in
      record {
        front = front ++ told;
        built = subst (λ l. IsBuilt content template (whole match).1 matches (front ++ l) all) (sym told_is) (built-more content template at match matches is.front all is.built);
        text_is = edit.new_is ∙ ap (λ l. (l ++ told) ++ edit.back) first.0 ∙ ap (λ l. (front ++ told) ++ l) last.1;
        len_is = omega (arith, byte_len-append front told, front-len, start_is, at_new_is);
        scalars = ap all_scalars edit.new_is ∙ scalars-joined (edit.front ++ told) edit.back (scalars-joined edit.front told fronts.0 own) kept.1;
      }
