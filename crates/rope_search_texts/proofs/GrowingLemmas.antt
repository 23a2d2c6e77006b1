-- Texts that grow by bytes, the last of which may be a part of a character.
use Rattle.std.proofs.Common.{◌≡◌, ◌↔◌, ℕ, ◌+◌, ◌-◌, ◌<◌, ◌≤◌, Bool, true, false, ◌==◌, IsTrue, List, [], ◌∷◌, ◌++◌, length, take, drop, get_or, refl, sym, ap, ◌∙◌, subst, arith, append_assoc, append-nil, length-append, take-append-drop, IsUtf8}
use Rattle.std.specs.Prelude.{encode_utf8_all}
use Rattle.std.specs.Str.{all_scalars, chars}
use Rattle.std.proofs.Math.Seq.{drop-append_seam}
use Rattle.std.proofs.lemmas.Bool.Decides.{nat_tests}
use Rattle.std.proofs.lemmas.List.{take_more}
use Rattle.std.proofs.lemmas.Str.{IsUtf8-append, encodes-append, encodes-chars, scalars-chars}
use Rattle.std.proofs.lemmas.Bool.{and_parts, and_from}
use Rattle.ropey.specs.Reading.{BeginsText, IsCutAt}
use Rattle.rope_search_io.proofs.Utf8Lemmas.{IsUtf8-after}
use Rattle.rope_search_io.specs.declared.faults.Fault.{Fault}
use Rattle.rope_search_io.specs.declared.faults.Fault.TheVariants.{Nothing, Range, Utf8, Pattern, Limit, Size, Memory}
use Rattle.rope_search_io.specs.Utf8Judge.{Judging, Continues, Feeds}
use Rattle.rope_search_texts.specs.declared.arriving.ArrivingText.{ArrivingText}
use Rattle.rope_search_texts.specs.declared.arriving.ArrivingText.TheVariants.{Growing, Judged, Refused, Lost}
use Rattle.rope_search_texts.specs.Arriving.{Arrives, ArrivesMore, ArrivesMoreWithin, ArrivesWithin, StopsText}

scalars-append : (s t : List ℕ) → all_scalars s ≡ true → all_scalars t ≡ true → all_scalars (s ++ t) ≡ true
scalars-append [] t one other = other
scalars-append (c ∷ cs) t one other =
    let both = and_parts _ _ one in
    and_from _ _ both.0 (scalars-append cs t both.1 other)

-- the UTF-8 of characters
pub IsUtf8-bytes : (text : List ℕ) → all_scalars text ≡ true → IsUtf8 (encode_utf8_all text)
IsUtf8-bytes text valid = (text, (valid, refl))

-- a text begins with the front of bytes with which one begins
begins_front : (bytes more : List ℕ) → BeginsText (bytes ++ more) → BeginsText bytes
begins_front bytes more begun = (more ++ begun.0, subst IsUtf8 (append_assoc bytes more begun.0) begun.1)

-- and with what follows a text in them
begins_after : (front bytes : List ℕ) → IsUtf8 front → BeginsText (front ++ bytes) → BeginsText bytes
begins_after front bytes text begun = (begun.0, IsUtf8-after front (bytes ++ begun.0) text (subst IsUtf8 (append_assoc front bytes begun.0) begun.1))

-- more bytes make no text of what begins none
pub Stops-more : (fault : Fault) (bytes more : List ℕ) → StopsText fault bytes → StopsText fault (bytes ++ more)
Stops-more Utf8 bytes more h = λ begun. h (begins_front bytes more begun)
Stops-more Memory bytes more h = tt
Stops-more Nothing bytes more h = h
Stops-more Range bytes more h = h
Stops-more Pattern bytes more h = h
Stops-more Limit bytes more h = h
Stops-more Size bytes more h = h

-- nor does a text before them
Stops-after : (fault : Fault) (front bytes : List ℕ) → IsUtf8 front → StopsText fault bytes → StopsText fault (front ++ bytes)
Stops-after Utf8 front bytes text h = λ begun. h (begins_after front bytes text begun)
Stops-after Memory front bytes text h = tt
Stops-after Nothing front bytes text h = h
Stops-after Range front bytes text h = h
Stops-after Pattern front bytes text h = h
Stops-after Limit front bytes text h = h
Stops-after Size front bytes text h = h

-- what follows the text at the front
pub cut_rest : (bytes text rest : List ℕ) → IsCutAt bytes text rest → drop (length text) bytes ≡ rest
cut_rest bytes text rest cut = ap (drop (length text)) cut.parts ∙ drop-append_seam text rest

-- ---- bytes that are appended to a part of a character, behind a text
module _ (text part bytes now more : List ℕ) (valid : all_scalars text ≡ true) (is : bytes ≡ part ++ more) (seen : encode_utf8_all text ++ part ≡ now) where
  whole : encode_utf8_all text ++ bytes ≡ now ++ more
  whole = ap (λ l. encode_utf8_all text ++ l) is ∙ sym (append_assoc (encode_utf8_all text) part more) ∙ ap (λ l. l ++ more) seen

  pub stops_pushed : (fault : Fault) → StopsText fault bytes → StopsText fault (now ++ more)
  stops_pushed fault h = subst (StopsText fault) whole (Stops-after fault (encode_utf8_all text) bytes (IsUtf8-bytes text valid) h)

  module _ (new front rest : List ℕ) (cut : IsCutAt bytes front rest) (grown : new ≡ text ++ chars front) where
    pub pushed : encode_utf8_all new ++ rest ≡ now ++ more
    pushed =
        let encoded : encode_utf8_all new ≡ encode_utf8_all text ++ front = ap encode_utf8_all grown ∙ encodes-append text (chars front) ∙ ap (λ l. encode_utf8_all text ++ l) (encodes-chars front cut.utf8) in
        ap (λ l. l ++ rest) encoded ∙ append_assoc (encode_utf8_all text) front rest ∙ ap (λ l. encode_utf8_all text ++ l) (sym cut.parts) ∙ whole

    pub scalars_pushed : all_scalars new ≡ true
    scalars_pushed = ap all_scalars grown ∙ scalars-append text (chars front) valid (scalars-chars front cut.utf8)

-- ---- bytes that are appended one after another
pub stops_within : (fault : Fault) (old bytes mid : List ℕ) (k byte : ℕ) → k < length bytes → byte ≡ get_or bytes k 0 → mid ≡ old ++ take k bytes → StopsText fault (mid ++ byte ∷ []) → StopsText fault (old ++ bytes)
stops_within fault old bytes mid k byte inside is before h =
    let front : mid ++ byte ∷ [] ≡ old ++ take (k + 1) bytes =
    ap (λ l. l ++ byte ∷ []) before ∙ append_assoc old (take k bytes) (byte ∷ []) ∙ ap (λ b. old ++ (take k bytes ++ b ∷ [])) is ∙ ap (λ l. old ++ l) (sym (take_more bytes k 0 inside)) in
    let whole : (old ++ take (k + 1) bytes) ++ drop (k + 1) bytes ≡ old ++ bytes = append_assoc old (take (k + 1) bytes) (drop (k + 1) bytes) ∙ ap (λ l. old ++ l) (take-append-drop (k + 1) bytes) in
    subst (StopsText fault) whole (Stops-more fault (old ++ take (k + 1) bytes) (drop (k + 1) bytes) (subst (StopsText fault) front h))

pub grown_by : (old bytes mid new : List ℕ) (k byte : ℕ) → k < length bytes → byte ≡ get_or bytes k 0 → mid ≡ old ++ take k bytes → new ≡ mid ++ byte ∷ [] → new ≡ old ++ take (k + 1) bytes
grown_by old bytes mid new k byte inside is before step =
    step ∙ ap (λ l. l ++ byte ∷ []) before ∙ append_assoc old (take k bytes) (byte ∷ []) ∙ ap (λ b. old ++ (take k bytes ++ b ∷ [])) is ∙ ap (λ l. old ++ l) (sym (take_more bytes k 0 inside))

-- the two halves of bytes
pub halves : (front back bytes : List ℕ) (n : ℕ) → front ≡ take n bytes → back ≡ drop n bytes → front ++ back ≡ bytes
halves front back bytes n p q = ap (λ l. l ++ back) p ∙ ap (λ l. take n bytes ++ l) q ∙ take-append-drop n bytes

pub stops_at_first : (fault : Fault) (old first rest bytes : List ℕ) → first ++ rest ≡ bytes → StopsText fault (old ++ first) → StopsText fault (old ++ bytes)
stops_at_first fault old first rest bytes whole h =
    subst (StopsText fault) (append_assoc old first rest ∙ ap (λ l. old ++ l) whole) (Stops-more fault (old ++ first) rest h)

pub stops_at_second : (fault : Fault) (old mid first front back rest bytes : List ℕ) → first ++ rest ≡ bytes → front ++ back ≡ rest → mid ≡ old ++ first → StopsText fault (mid ++ front) → StopsText fault (old ++ bytes)
stops_at_second fault old mid first front back rest bytes whole halved before h =
    let joined : (old ++ first) ++ rest ≡ old ++ bytes = append_assoc old first rest ∙ ap (λ l. old ++ l) whole in
    subst (StopsText fault) (ap (λ l. l ++ rest) before ∙ joined) (stops_at_first fault mid front back rest halved h)

-- ---- whether there is a part of a character
pub none_from : (part : List ℕ) (empty : Bool) → empty ≡ (length part == 0) → empty ≡ true → part ≡ []
none_from [] empty is other = refl
none_from (b ∷ part) empty is other = absurd (grind (arith, nat_tests))

pub some_from : (part : List ℕ) (empty : Bool) → empty ≡ (length part == 0) → empty ≡ false → part ≡ [] → ⊥
some_from [] empty is other none = absurd (grind (arith, nat_tests))
some_from (b ∷ part) empty is other none = cc

-- ---- bytes that are only checked
pub judged_more : (old new : Judging) (bytes : List ℕ) → Feeds old new bytes → ArrivesMore (Judged old) (Judged new) bytes
judged_more old new bytes fed limit len before h = (
  h.0,
  λ more.
      let same = append_assoc before bytes more in (
        λ text. (fed more).0 ((h.1 (bytes ++ more)).0 (subst IsUtf8 same text)),
        λ judged. subst IsUtf8 (sym same) ((h.1 (bytes ++ more)).1 ((fed more).1 judged)),
      ),
)

pub judged_text : (limit : ℕ) (bytes : List ℕ) (judge : Judging) (utf8 : Bool) → Arrives limit (length bytes) (Judged judge) bytes → (IsTrue utf8 ↔ Continues judge []) → utf8 ≡ true → (limit < length bytes) × IsUtf8 bytes
judged_text limit bytes judge utf8 h told is = (h.0, subst IsUtf8 (append-nil bytes) ((h.1 []).1 (told.0 (subst IsTrue (sym is) refl))))

pub judged_none : (limit : ℕ) (bytes : List ℕ) (judge : Judging) (utf8 : Bool) → Arrives limit (length bytes) (Judged judge) bytes → (IsTrue utf8 ↔ Continues judge []) → utf8 ≡ false → IsUtf8 bytes → ⊥
judged_none limit bytes judge true h told is text = cc
judged_none limit bytes judge false h told is text = let wrong = told.1 ((h.1 []).0 (subst IsUtf8 (sym (append-nil bytes)) text)) in cc

-- the judge of a text and of what follows it is one of the part of a character alone
pub judges_part : (text part now more : List ℕ) (old new : Judging) → all_scalars text ≡ true → encode_utf8_all text ++ part ≡ now
    → ((rest : List ℕ) → Continues old rest ↔ IsUtf8 rest) → Feeds old new part → Continues new more ↔ IsUtf8 (now ++ more)
judges_part text part now more old new valid seen fresh fed =
    let front = IsUtf8-bytes text valid in
    let whole : encode_utf8_all text ++ (part ++ more) ≡ now ++ more = sym (append_assoc (encode_utf8_all text) part more) ∙ ap (λ l. l ++ more) seen in (
      λ h. subst IsUtf8 whole (IsUtf8-append (encode_utf8_all text) (part ++ more) front ((fresh (part ++ more)).0 ((fed more).1 h))),
      λ h. (fed more).0 ((fresh (part ++ more)).1 (IsUtf8-after (encode_utf8_all text) (part ++ more) front (subst IsUtf8 (sym whole) h))),
    )

-- ---- a text of which nobody said how many bytes it has
pub Arrives-within : (limit : ℕ) (text : ArrivingText) (bytes : List ℕ) → Arrives limit (length bytes) text bytes → ArrivesWithin limit text bytes
Arrives-within limit (Growing text) bytes h = h
Arrives-within limit (Judged judge) bytes h = h
Arrives-within limit Refused bytes h = h.1
Arrives-within limit Lost bytes h = tt

-- bytes with which it stays within its limit
pub stays_within : (limit : ℕ) (text : List ℕ) (new : ArrivingText) (bytes : List ℕ) → length bytes ≤ limit - length text → ArrivesMore (Growing text) new bytes
    → ArrivesMoreWithin limit (Growing text) new bytes
stays_within limit text new bytes fits more before h =
    let fits' : length (before ++ bytes) ≤ limit = omega (arith, fits, h.0, ap length h.1, length-append before bytes) in
    Arrives-within limit new (before ++ bytes) (more limit (length (before ++ bytes)) before (fits', h.1))

-- bytes with which it goes over it
pub goes_over : (limit : ℕ) (text : List ℕ) (judge new : Judging) (bytes : List ℕ) → limit < length text + length bytes
    → ((more : List ℕ) → Continues judge more ↔ IsUtf8 (text ++ more)) → Feeds judge new bytes → ArrivesMoreWithin limit (Growing text) (Judged new) bytes
goes_over limit text judge new bytes over told fed before h =
    let over' : limit < length (before ++ bytes) = omega (arith, over, ap length h.1, length-append before bytes) in
    judged_more judge new bytes fed limit (length (before ++ bytes)) before (
      over',
      λ more. (
        λ utf8. (told more).1 (subst (λ (t : List ℕ). IsUtf8 (t ++ more)) (sym h.1) utf8),
        λ judged. subst (λ (t : List ℕ). IsUtf8 (t ++ more)) h.1 ((told more).0 judged),
      ),
    )

-- bytes of one that is over it
pub stays_over : (limit : ℕ) (old : Judging) (new : ArrivingText) (bytes : List ℕ) → ArrivesMore (Judged old) new bytes → ArrivesMoreWithin limit (Judged old) new bytes
stays_over limit old new bytes more before h =
    let over : limit < length (before ++ bytes) = omega (arith, h.0, length-append before bytes) in
    Arrives-within limit new (before ++ bytes) (more limit (length (before ++ bytes)) before (over, h.1))

-- and of one that no text begins
pub stays_refused : (limit : ℕ) (bytes : List ℕ) → ArrivesMoreWithin limit Refused Refused bytes
stays_refused limit bytes before h = λ begun. h (begins_front before bytes begun)
