-- A part of a text that is in one chunk.
use Rattle.std.proofs.Common.{◌≡◌, ℕ, ◌-◌, ◌≤◌, List, [], ◌∷◌, ◌++◌, length, take, drop, chars, refl, sym, ap, subst, ◌∙◌, arith, append_assoc, append-nil, length-drop, IsUtf8}
use Rattle.std.specs.Str.{IsCharBoundary}
use Rattle.std.proofs.Math.Seq.{drop-append_seam}
use Rattle.std.proofs.lemmas.List.Folds.{concat-append}
use Rattle.std.proofs.lemmas.List.{drop-drop, drop-append-le, take-append-le}
use Rattle.std.proofs.lemmas.Str.{encodes-append, encodes-chars}
use Rattle.str_indices.specs.Text.{byte_len}
use Rattle.ropey.specs.Chunks.{ShowsChunk, lone_piece, text_of}
use Rattle.rope_search_changes.specs.Text.{bytes_of}
use Rattle.rope_search_templates.specs.Parts.{ChunkIn}
use Rattle.rope_search_templates.proofs.LeftLemmas.{boundary-front, boundary-behind}

alone-text : (chunk : List ℕ) → text_of (lone_piece chunk) ≡ chunk
alone-text [] = refl
alone-text (c ∷ cs) = append-nil (c ∷ cs)

pub chunk-in : (pieces : List (List ℕ)) (chunk : List ℕ) (place start char line : ℕ) → IsUtf8 chunk → ShowsChunk pieces byte_len place (chars chunk) start char line
    → ChunkIn (bytes_of (text_of pieces)) chunk start
chunk-in pieces chunk place start char line utf8 s =
    let before = text_of s.before in
    let after = text_of s.after in
    let text_is : text_of pieces ≡ (before ++ chars chunk) ++ after =
    ap text_of s.parts ∙ concat-append (s.before ++ lone_piece (chars chunk)) s.after
    ∙ ap (λ t. t ++ after) (concat-append s.before (lone_piece (chars chunk)) ∙ ap (λ t. before ++ t) (alone-text (chars chunk))) in
    record {
      front = bytes_of before;
      back = bytes_of after;
      parts =
          ap bytes_of text_is ∙ encodes-append (before ++ chars chunk) after
          ∙ ap (λ bs. bs ++ bytes_of after) (encodes-append before (chars chunk) ∙ ap (λ bs. bytes_of before ++ bs) (encodes-chars chunk utf8))
          ∙ append_assoc (bytes_of before) chunk (bytes_of after);
      start_is = s.byte_is;
    }

-- there is an empty chunk at the start
pub chunk-of-nothing : (content : List ℕ) → ChunkIn content [] 0
chunk-of-nothing content = record { front = []; back = content; parts = refl; start_is = refl }

-- the part is in it
module _ (content chunk : List ℕ) (at start end : ℕ) (is : ChunkIn content chunk at) (low : at ≤ start) (ordered : start ≤ end) (high : end - at ≤ length chunk) where
  pub same-part : take (end - start) (drop (start - at) chunk) ≡ take (end - start) (drop start content)
  same-part =
      let at_is = is.start_is in
      let there : drop start content ≡ drop (start - at) chunk ++ is.back =
      ap (λ n. drop n content) (omega (arith, low, at_is)) ∙ sym (drop-drop (start - at) (length is.front) content)
      ∙ ap (drop (start - at)) (ap (drop (length is.front)) is.parts ∙ drop-append_seam is.front (chunk ++ is.back))
      ∙ drop-append-le (start - at) chunk is.back (omega (arith, low, ordered, high)) in
      sym (ap (take (end - start)) there ∙ take-append-le (end - start) (drop (start - at) chunk) is.back (omega (arith, low, ordered, high, length-drop (start - at) chunk)))

  pub boundary-there : (place : ℕ) → at ≤ place → place ≤ end → IsCharBoundary content place → IsCharBoundary chunk (place - at)
  boundary-there place from to here =
      let at_is = is.start_is in
      let behind = boundary-behind is.front (chunk ++ is.back) place (subst (λ bs. IsCharBoundary bs place) is.parts here) (omega (arith, from, at_is)) in
      boundary-front chunk is.back (place - at) (subst (λ n. IsCharBoundary (chunk ++ is.back) (place - n)) (sym at_is) behind) (omega (arith, from, to, high))
