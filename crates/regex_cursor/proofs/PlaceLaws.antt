-- The position before the chunk that contains a byte.
use Rattle.std.proofs.Common.{◌≡◌, ℕ, zero, suc, ◌+◌, ◌-◌, ◌<◌, ◌≤◌, ◌^◌, ◌⊎◌, inl, inr, List, [], ◌∷◌, ◌++◌, length, take, drop, refl, ap, sym, subst, ◌∙◌, arith}
use Rattle.std.specs.Prelude.{reverse, min, encode_utf8_all}
use Rattle.std.proofs.lemmas.List.{length-append, reverse-reverse}
use Rattle.std.proofs.lemmas.Str.{encodes-append}
use Rattle.std.proofs.Math.Seq.{drop-append_seam, take-append_seam}
use Rattle.str_indices.specs.Text.{byte_len}
use Rattle.ropey.specs.Chunks.{IsCutting, text_of}
use Rattle.ropey.specs.Iter.{PassesFirst, StandsBefore, TwoWay}
use Rattle.rx_input.specs.Cursors.{CursorState, IsLawful}
use Rattle.rx_input.specs.Inputs.{HoldsPlace}
use Rattle.regex_cursor.specs.Showing.{all_chunks, HaveCharacters, MayShowNext, EndsFirst}
use Rattle.regex_cursor.proofs.ShowingLaws.{bytes, bytes-append, filled_pieces, no_pieces}

module _ (pieces : List (List ℕ)) (place : TwoWay (List ℕ)) (i byte char line len : ℕ) (cut : IsCutting pieces) (st : StandsBefore pieces byte_len i place byte char line)
    (len_is : len ≡ byte_len (text_of pieces)) (below : i ≤ len - 1) where
  pub ahead_is : place.ahead ≡ st.after
  ahead_is = ap (λ p. p.ahead) st.stands ∙ ap (λ p. drop (length st.before) p) st.parts ∙ drop-append_seam st.before st.after

  front_is : reverse place.behind ≡ st.before
  front_is =
      ap (λ p. reverse p.behind) st.stands
      ∙ reverse-reverse (take (length st.before) pieces)
      ∙ ap (λ p. take (length st.before) p) st.parts
      ∙ take-append_seam st.before st.after

  pub all_are : all_chunks place ≡ pieces
  all_are = ap (λ p. p ++ place.ahead) front_is ∙ ap (λ p. st.before ++ p) ahead_is ∙ sym st.parts

  len_parts : len ≡ byte + length (bytes st.after)
  len_parts = omega (arith, len_is, st.byte_is, ap (λ p. length (bytes p)) st.parts, ap length (bytes-append st.before st.after), length-append (bytes st.before) (bytes st.after))

  -- there is no chunk after the last one
  pub nothing : st.after ≡ [] → len ≡ 0
  nothing none = omega (arith, len_parts, ap (λ p. length (bytes p)) none, st.not_past, st.byte_is, below)

  none_behind : place.ahead ≡ [] → place.behind ≡ []
  none_behind none =
      let empty = nothing (sym ahead_is ∙ none) in
      let whole : pieces ≡ [] = no_pieces pieces (filled_pieces pieces cut) (omega (arith, len_is, empty)) in
      ap (λ p. p.behind) st.stands ∙ ap (λ p. reverse (take (length st.before) p)) whole ∙ nothing_taken (length st.before)
    where
      nothing_taken : (n : ℕ) → reverse {A = List ℕ} (take n []) ≡ []
      nothing_taken zero = refl
      nothing_taken (suc n) = refl

  pub may_show : len < 2 ^ 63 → MayShowNext place byte len
  may_show bound = record {
    some = none_behind;
    filled = subst HaveCharacters (sym all_are) (filled_pieces pieces cut);
    offset_is = st.byte_is ∙ ap (λ p. byte_len (text_of p)) (sym front_is);
    len_is = len_is ∙ ap (λ p. byte_len (text_of p)) (sym all_are);
    bound = bound;
  }

  ends : (after : List (List ℕ)) (end : ℕ) → EndsFirst after byte end → PassesFirst byte_len i st.before after → (after ≡ [] → len ≡ 0) → ((end ≡ byte) × (len ≡ 0)) ⊎ (i < end)
  ends [] end e passed none = inl (e, none refl)
  ends (a ∷ later) end e passed none =
      let sum = ap length (encodes-append (text_of st.before) a) ∙ length-append (bytes st.before) (encode_utf8_all a) in
      inr (omega (arith, e, passed, st.byte_is, sum))

  pub holds : (c : CursorState) (at : ℕ) → IsLawful c → c.content ≡ bytes (all_chunks place) → c.start ≡ byte → EndsFirst place.ahead byte c.end → at ≤ len → i ≡ min at (len - 1) → HoldsPlace c at
  holds c at lawful content start end within is =
      let whole : length c.content ≡ len = ap length content ∙ ap (λ p. length (bytes p)) all_are ∙ sym len_is in
      let low : i ≤ at = omega (arith, is) in
      let starts : c.start ≤ at = omega (arith, start, st.byte_is, st.not_past, low) in
      elim (ends st.after c.end (subst (λ p. EndsFirst p byte c.end) ahead_is end) st.passed nothing) [
        | inl last ↦ record {
          lawful = lawful;
          behind_start = starts;
          before_end = omega (arith, within, last.1);
          at_end = λ e. omega (arith, lawful.within, whole, last.1);
        }
        | inr inside ↦ record {
          lawful = lawful;
          behind_start = starts;
          before_end = omega (arith, inside, is, within);
          at_end = λ e. omega (arith, e, inside, is, within, lawful.within, whole);
        }
      ]
