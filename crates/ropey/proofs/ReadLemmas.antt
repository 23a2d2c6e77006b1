-- Bytes that are read behind others, and the text that is taken from their front.
use Rattle.std.proofs.Common.{◌≡◌, ℕ, zero, suc, ◌+◌, ◌-◌, ◌^◌, ◌<◌, ◌≤◌, inl, inr, true, List, [], ◌++◌, length, take, drop, Option, refl, ap, sym, ◌∙◌, subst, arith, append-nil, append_assoc, IsUtf8, length-append, length-take-le}
use Rattle.std.specs.Prelude.{nat_lt, MatchBool, encode_utf8_all}
use Rattle.std.specs.Io.KnownBytes.{Consumes, Keeps, IsAtEnd}
use Rattle.std.specs.Str.{chars}
use Rattle.std.proofs.KnownBytes.{Consumes-trans, Consumes-kept}
use Rattle.std.proofs.lemmas.List.{drop-take}
use Rattle.std.proofs.Math.Seq.{take-append-add, take-take, take-append_seam, drop-append_seam}
use Rattle.std.proofs.lemmas.Str.{encodes-append, encodes-chars, IsUtf8-append, IsUtf8-drop, IsCharBoundary-from_take}
use Rattle.std.proofs.lemmas.Bool.Decides.{nat_tests}
use Rattle.std.proofs.lemmas.Slice.{take-put_mid}
use borrow.Rule.Slice.PartMut.{put_mid}
use Rattle.ropey.specs.declared.read_fault.ReadFault.{ReadFault}
use Rattle.ropey.specs.declared.read_fault.ReadFault.TheVariants.{Read, Utf8, Memory, Turns}
use Rattle.ropey.specs.Reading.{BeginsText, IsCutAt, MeetsFault, GivesToEnd, GivesUntil, GivesMore}

-- ---- a read into the room behind some bytes
pub read_behind : (bytes buf : List ℕ) (len k count : ℕ) → len ≤ length bytes → count ≤ length buf → take (len + count) (put_mid len k bytes buf) ≡ take len bytes ++ take count buf
read_behind bytes buf len k count within few =
    let room = put_mid len k bytes buf in
    let whole : take (len + length buf) room ≡ take len bytes ++ buf = take-put_mid len k bytes buf (len + length buf) refl within in
    let front : length (take len bytes) ≡ len = length-take-le len bytes within in
    sym (take-take (len + count) (len + length buf) room (omega arith)) ∙ ap (take (len + count)) whole
    ∙ ap (λ n. take (n + count) (take len bytes ++ buf)) (sym front) ∙ take-append-add (take len bytes) buf count

pub read_more : (left left' : Option (List ℕ)) (old new buf : List ℕ) (count : ℕ) → Consumes left left' (take count buf) × (count ≡ 0 → 0 < length buf → IsAtEnd left') → 0 < length buf → count ≤ length buf
    → new ≡ old ++ take count buf → MatchBool (nat_lt 0 count) (GivesMore left left' old new) ((new ≡ old) × GivesToEnd left left' [])
read_more left left' old new buf zero told room few is = (is ∙ append-nil old, record { consumed = told.0; at_end = told.1 refl room })
read_more left left' old new buf (suc n) told room few is =
    let yes : nat_lt 0 (suc n) ≡ true = grind (arith, nat_tests) in
    let more : GivesMore left left' old new = record { bytes = take (suc n) buf; consumed = told.0; some = omega (arith, length-take-le (suc n) buf few); behind = is } in
    rw yes more

-- ---- texts that are begun
pub begins_behind : (front bytes : List ℕ) → IsUtf8 front → BeginsText bytes → BeginsText (front ++ bytes)
begins_behind front bytes text begun = (begun.0, subst IsUtf8 (sym (append_assoc front bytes begun.0)) (IsUtf8-append front (bytes ++ begun.0) text begun.1))

-- what follows a text is a text where both together are
text_behind : (front rest : List ℕ) → IsUtf8 front → IsUtf8 (front ++ rest) → IsUtf8 rest
text_behind front rest text whole =
    let boundary = IsCharBoundary-from_take (front ++ rest) (length front) whole (omega (arith, length-append front rest)) (subst IsUtf8 (sym (take-append_seam front rest)) text) in
    subst IsUtf8 (drop-append_seam front rest) (IsUtf8-drop (front ++ rest) (length front) whole boundary)

begins_after : (front bytes : List ℕ) → IsUtf8 front → BeginsText (front ++ bytes) → BeginsText bytes
begins_after front bytes text begun = (begun.0, text_behind front (bytes ++ begun.0) text (subst IsUtf8 (append_assoc front bytes begun.0) begun.1))

pub begins_cut : (bytes text rest : List ℕ) → IsCutAt bytes text rest → BeginsText bytes
begins_cut bytes text rest cut = subst BeginsText (sym cut.parts) (begins_behind text rest cut.utf8 cut.begins)

pub meets_utf8 : (fault : ReadFault) (front bytes : List ℕ) (left : Option (List ℕ)) → fault ≡ Utf8 → IsUtf8 front → (BeginsText bytes → ⊥) → MeetsFault fault (front ++ bytes) left
meets_utf8 fault front bytes left is text none = rw is (inl (λ begun. none (begins_after front bytes text begun)))

-- ---- the part of a character that stays
pub kept_part : (bytes text rest mid new zeros post : List ℕ) (len : ℕ) → take len bytes ≡ text ++ rest → len ≤ length bytes → mid ≡ take (len - length text) (drop (length text) bytes)
    → new ≡ take (len - length text) (mid ++ zeros) → take (len - length text) (new ++ post) ≡ rest
kept_part bytes text rest mid new zeros post len parts within first second =
    let k = len - length text in
    let size : len ≡ length text + length rest = sym (length-take-le len bytes within) ∙ ap length parts ∙ length-append text rest in
    let k_is : k ≡ length rest = omega (arith, size) in
    let fits : len ≡ length text + k = omega (arith, size) in
    let rest_is : take k (drop (length text) bytes) ≡ rest =
    sym (drop-take (length text) k bytes) ∙ ap (λ n. drop (length text) (take n bytes)) (sym fits) ∙ ap (drop (length text)) parts ∙ drop-append_seam text rest in
    let front = λ (xs ys : List ℕ) (is : xs ≡ rest). ap (λ l. take k (l ++ ys)) is ∙ ap (λ n. take n (rest ++ ys)) k_is ∙ take-append_seam rest ys in
    front new post (second ∙ front mid zeros (first ∙ rest_is))

-- ---- the loop: what came so far is a text and behind it nothing or a part of a character, at least a byte in each turn
pub record IsReading (left left' : Option (List ℕ)) (text part : List ℕ) (turns : ℕ) : Type 0 where
  pub consumed : Consumes left left' (encode_utf8_all text ++ part)
  pub utf8 : IsUtf8 (encode_utf8_all text)
  pub begins : BeginsText part
  pub no_text : IsUtf8 part → part ≡ []
  pub short : length part < 4
  pub many : turns ≤ length (encode_utf8_all text ++ part)

module _ (a b : Option (List ℕ)) (text part : List ℕ) (turns : ℕ) (h : IsReading a b text part turns) where
  begun : BeginsText (encode_utf8_all text ++ part)
  begun = begins_behind (encode_utf8_all text) part h.utf8 h.begins

  -- a read failed
  pub fails : (fault : ReadFault) (c : Option (List ℕ)) → fault ≡ Read → Keeps b c → GivesUntil fault a c
  fails fault c is kept = rw is (record { given = encode_utf8_all text ++ part; consumed = Consumes-kept a b c (encode_utf8_all text ++ part) h.consumed kept; met = begun })

  pub too_many : 2 ^ 62 ≤ turns → GivesUntil Turns a b
  too_many over = record { given = encode_utf8_all text ++ part; consumed = h.consumed; met = (begun, omega (arith, over, h.many)) }

  module _ (c : Option (List ℕ)) (ends : GivesToEnd b c []) where
    all_given : Consumes a c (encode_utf8_all text ++ part)
    all_given = subst (Consumes a c) (append-nil (encode_utf8_all text ++ part)) (Consumes-trans a b c (encode_utf8_all text ++ part) [] h.consumed ends.consumed)

    -- inside a character
    pub ends_inside : 0 < length part → GivesUntil Utf8 a c
    ends_inside some = record {
      given = encode_utf8_all text ++ part;
      consumed = all_given;
      met = inr (λ whole. no_bytes (h.no_text (text_behind (encode_utf8_all text) part h.utf8 whole)), ends.at_end);
    }
      where
        no_bytes : part ≡ [] → ⊥
        no_bytes none = omega (arith, some, ap length none)

    pub lacks_memory : GivesUntil Memory a c
    lacks_memory = record { given = encode_utf8_all text ++ part; consumed = all_given; met = begun }

  module _ (c : Option (List ℕ)) (window : List ℕ) (gives : GivesMore b c part window) where
    pub more_given : Consumes a c (encode_utf8_all text ++ window)
    more_given =
        let joined : (encode_utf8_all text ++ part) ++ gives.bytes ≡ encode_utf8_all text ++ window = append_assoc (encode_utf8_all text) part gives.bytes ∙ ap (λ l. encode_utf8_all text ++ l) (sym gives.behind) in
        subst (Consumes a c) joined (Consumes-trans a b c (encode_utf8_all text ++ part) gives.bytes h.consumed gives.consumed)

    pub reads_on : (new rest text' : List ℕ) (turns' : ℕ) → IsCutAt window new rest → text' ≡ text ++ chars new → turns' ≡ turns + 1 → IsReading a c text' rest turns'
    reads_on new rest text' turns' cut is next =
        let bytes : encode_utf8_all text' ≡ encode_utf8_all text ++ new = ap encode_utf8_all is ∙ encodes-append text (chars new) ∙ ap (λ l. encode_utf8_all text ++ l) (encodes-chars new cut.utf8) in
        let whole : encode_utf8_all text ++ window ≡ encode_utf8_all text' ++ rest =
        ap (λ l. encode_utf8_all text ++ l) cut.parts ∙ sym (append_assoc (encode_utf8_all text) new rest) ∙ ap (λ l. l ++ rest) (sym bytes) in
        record {
          consumed = subst (Consumes a c) whole more_given;
          utf8 = subst IsUtf8 (sym bytes) (IsUtf8-append (encode_utf8_all text) new h.utf8 cut.utf8);
          begins = cut.begins;
          no_text = cut.no_text;
          short = cut.short;
          many = omega (arith, next, h.many, gives.some, sym (ap length whole), ap length gives.behind, length-append (encode_utf8_all text) window, length-append (encode_utf8_all text) part, length-append part gives.bytes);
        }
