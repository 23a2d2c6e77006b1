-- Chunks in order, one of which is the current one.
use Rattle.std.proofs.Common.{◌≡◌, ℕ, ◌+◌, ◌-◌, ◌<◌, ◌≤◌, ◌^◌, true, List, [], ◌∷◌, ◌++◌, length, take, drop, refl, ap, ap₂, sym, subst, ◌∙◌, append_assoc, append-nil, arith}
use Rattle.std.specs.Prelude.{reverse, Option, Some, None, unwrap_or, encode_utf8_all}
use Rattle.std.specs.Borrow.{Bor}
use Rattle.std.specs.Str.{chars, IsUtf8}
use Rattle.std.proofs.lemmas.List.{length-append, reverse-append}
use Rattle.std.proofs.lemmas.List.Folds.{concat-append}
use Rattle.std.proofs.lemmas.Str.{IsUtf8-nil, chars-nil, encodes-append, encodes-chars, length-le-encodes}
use Rattle.std.proofs.Math.Seq.{drop-append_seam, take-append_seam}
use Rattle.str_indices.specs.Text.{byte_len}
use Rattle.ropey.specs.Chunks.{IsCutting, text_of}
use Rattle.ropey.specs.Chunks as rope
use Rattle.ropey.specs.Iter.{GivesChunk, TwoWay, turned, GivesPrev}
use Rattle.rx_input.specs.Cursors.{IsLawful, IsNext, piece_of}
use Rattle.regex_cursor.specs.Showing.{all_chunks, behind_next, behind_shown, showing, HaveCharacters, IsBeforeLast, IsShowing, IsSomeAhead, MayShowNext, EndsFirst, StandsBy}

abbrev pub bytes : List (List ℕ) → List ℕ
bytes chunks = encode_utf8_all (text_of chunks)

pub bytes-append : (ps qs : List (List ℕ)) → bytes (ps ++ qs) ≡ bytes ps ++ bytes qs
bytes-append ps qs = ap encode_utf8_all (concat-append ps qs) ∙ encodes-append (text_of ps) (text_of qs)

-- ---- the current chunk

no_chars_of : (shown : List ℕ) → shown ≡ [] → chars shown ≡ []
no_chars_of shown none = ap chars none ∙ chars-nil

no_bytes : (xs : List ℕ) → length xs ≡ 0 → xs ≡ []
no_bytes [] e = refl
no_bytes (x ∷ xs) e = absurd (omega (arith, e))

some_bytes : (shown : List ℕ) → (chars shown ≡ [] → ⊥) → 0 < length shown
some_bytes [] filled = absurd (filled (no_chars_of [] refl))
some_bytes (b ∷ bs) filled = omega arith

bytes_of_piece : (text : List ℕ) → bytes (rope.lone_piece text) ≡ encode_utf8_all text
bytes_of_piece [] = refl
bytes_of_piece (c ∷ cs) = ap encode_utf8_all (append-nil (c ∷ cs))

bytes_shown : (shown : List ℕ) → IsUtf8 shown → bytes (rope.lone_piece (chars shown)) ≡ shown
bytes_shown shown utf8 = bytes_of_piece (chars shown) ∙ encodes-chars shown utf8

reverse-piece : (text : List ℕ) → reverse (rope.lone_piece text) ≡ rope.lone_piece text
reverse-piece [] = refl
reverse-piece (c ∷ cs) = refl

-- ---- where it is in the haystack
module _ (place : TwoWay (List ℕ)) (shown : List ℕ) (offset len : ℕ) (s : IsShowing place shown offset len) where
  behind_is : reverse place.behind ≡ reverse s.earlier ++ rope.lone_piece (chars shown)
  behind_is = ap reverse s.stands ∙ reverse-append (rope.lone_piece (chars shown)) s.earlier ∙ ap (λ p. reverse s.earlier ++ p) (reverse-piece (chars shown))

  pub content_is : bytes (all_chunks place) ≡ bytes (reverse s.earlier) ++ (shown ++ bytes place.ahead)
  content_is =
      bytes-append (reverse place.behind) place.ahead
      ∙ ap (λ p. bytes p ++ bytes place.ahead) behind_is
      ∙ ap (λ p. p ++ bytes place.ahead) (bytes-append (reverse s.earlier) (rope.lone_piece (chars shown)) ∙ ap (λ p. bytes (reverse s.earlier) ++ p) (bytes_shown shown s.utf8))
      ∙ append_assoc (bytes (reverse s.earlier)) shown (bytes place.ahead)

  pub length_is : length (bytes (all_chunks place)) ≡ offset + length shown + length (bytes place.ahead)
  length_is =
      let whole = ap length content_is ∙ length-append (bytes (reverse s.earlier)) (shown ++ bytes place.ahead) in
      omega (arith, whole, length-append shown (bytes place.ahead), s.offset_is)

  pub fits : offset + length shown < 2 ^ 63
  fits = omega (arith, length_is, s.len_is, s.bound)

  nothing : length shown ≡ 0 → bytes (all_chunks place) ≡ []
  nothing e =
      let none = no_chars_of shown (no_bytes shown e) in
      let others = s.some none in
      content_is ∙ ap (λ p. bytes (reverse p) ++ (shown ++ bytes place.ahead)) others.0 ∙ ap (λ p. shown ++ bytes p) others.1 ∙ append-nil shown ∙ no_bytes shown e

  pub lawful : IsLawful (showing place offset shown)
  lawful = record {
    ordered = omega arith;
    within = omega (arith, length_is);
    filled = λ e. nothing (omega (arith, e));
    bound = omega (arith, s.len_is, s.bound);
  }

  pub piece_is : piece_of (showing place offset shown) ≡ shown
  piece_is =
      let n : offset + length shown - offset ≡ length shown = omega arith in
      let at : offset ≡ length (bytes (reverse s.earlier)) = s.offset_is in
      ap (λ k. take k (drop offset (bytes (all_chunks place)))) n
      ∙ ap (λ c. take (length shown) (drop offset c)) content_is
      ∙ ap (λ k. take (length shown) (drop k (bytes (reverse s.earlier) ++ (shown ++ bytes place.ahead)))) at
      ∙ ap (take (length shown)) (drop-append_seam (bytes (reverse s.earlier)) (shown ++ bytes place.ahead))
      ∙ take-append_seam shown (bytes place.ahead)

  -- after it
  pub ends_last : place.ahead ≡ [] → offset + length shown ≡ length (bytes (all_chunks place))
  ends_last none = omega (arith, length_is, ap (λ p. length (bytes p)) none)

  behind_bytes : length (bytes (reverse place.behind)) ≡ offset + length shown
  behind_bytes =
      let parts = ap bytes behind_is ∙ bytes-append (reverse s.earlier) (rope.lone_piece (chars shown)) ∙ ap (λ p. bytes (reverse s.earlier) ++ p) (bytes_shown shown s.utf8) in
      omega (arith, ap length parts, length-append (bytes (reverse s.earlier)) shown, s.offset_is)

-- ---- the next chunk
reverse-cons : (x : List ℕ) (xs : List (List ℕ)) → reverse (x ∷ xs) ≡ reverse xs ++ (x ∷ [])
reverse-cons x xs = reverse-append (x ∷ []) xs

all_the_same : (place new : TwoWay (List ℕ)) (chunk : List ℕ) → place.ahead ≡ chunk ∷ new.ahead → new.behind ≡ chunk ∷ place.behind → all_chunks new ≡ all_chunks place
all_the_same place new chunk ahead behind =
    ap (λ p. reverse p ++ new.ahead) behind
    ∙ ap (λ p. p ++ new.ahead) (reverse-cons chunk place.behind)
    ∙ append_assoc (reverse place.behind) (chunk ∷ []) new.ahead
    ∙ ap (λ p. reverse place.behind ++ p) (sym ahead)

piece_by_itself : (text : List ℕ) → (text ≡ [] → ⊥) → rope.lone_piece text ≡ text ∷ []
piece_by_itself [] filled = absurd (filled refl)
piece_by_itself (c ∷ cs) filled = refl

module _ (place new : TwoWay (List ℕ)) (shown next : List ℕ) (offset len : ℕ) (s : IsShowing place shown offset len) (ahead : place.ahead ≡ chars next ∷ new.ahead) (behind : new.behind ≡ chars next ∷ place.behind) where
  next_filled : chars next ≡ [] → ⊥
  next_filled = s.filled (reverse place.behind) new.ahead (chars next) (ap (λ p. reverse place.behind ++ p) ahead)

  same_chunks : all_chunks new ≡ all_chunks place
  same_chunks = all_the_same place new (chars next) ahead behind

  pub shows_next : IsUtf8 next → IsShowing new next (offset + length shown) len
  shows_next utf8 = record {
    earlier = place.behind;
    stands = behind ∙ ap (λ p. p ++ place.behind) (sym (piece_by_itself (chars next) next_filled));
    some = λ none. absurd (next_filled none);
    filled = subst HaveCharacters (sym same_chunks) s.filled;
    utf8 = utf8;
    offset_is = sym (behind_bytes place shown offset len s);
    len_is = s.len_is ∙ ap (λ p. byte_len (text_of p)) (sym same_chunks);
    bound = s.bound;
  }

  pub moves_on : IsNext (showing place offset shown) (showing new (offset + length shown) next)
  moves_on = record { same = record { content = ap bytes same_chunks; is_sized = refl }; meets = refl }

  pub more_behind : IsUtf8 next → offset + length shown < length (bytes (all_chunks place))
  more_behind utf8 =
      let more : bytes place.ahead ≡ encode_utf8_all (chars next) ++ bytes new.ahead = ap bytes ahead ∙ encodes-append (chars next) (text_of new.ahead) in
      omega (arith, length_is place shown offset len s, ap length more, length-append (encode_utf8_all (chars next)) (bytes new.ahead), ap length (encodes-chars next utf8), some_bytes next next_filled)

-- ---- steps backward and forward
one_step : (old new : TwoWay (List ℕ)) (given : Option (Bor (List ℕ))) (chunk : List ℕ) (rest : List (List ℕ)) → GivesChunk old given new → old.ahead ≡ chunk ∷ rest → (new.ahead ≡ rest) × (new.behind ≡ chunk ∷ old.behind)
one_step old new None chunk rest gives ahead = let none : [] ≡ chunk ∷ rest = sym gives.0.0 ∙ ahead in absurd (cc none)
one_step old new (Some item) chunk rest gives ahead =
    let same : chars item.now ∷ new.ahead ≡ chunk ∷ rest = sym gives.0.0 ∙ ahead in
    let first : chars item.now ≡ chunk = cc same in
    (cc same, gives.0.1 ∙ ap (λ x. x ∷ old.behind) first)

given_chunk : (old new : TwoWay (List ℕ)) (given : Option (Bor (List ℕ))) (other : Bor (List ℕ)) (chunk : List ℕ) (rest : List (List ℕ)) → GivesChunk old given new → old.ahead ≡ chunk ∷ rest → (chars (unwrap_or given other).now ≡ chunk) × IsUtf8 (unwrap_or given other).now
given_chunk old new None other chunk rest gives ahead = let none : [] ≡ chunk ∷ rest = sym gives.0.0 ∙ ahead in absurd (cc none)
given_chunk old new (Some item) other chunk rest gives ahead =
    let same : chars item.now ∷ new.ahead ≡ chunk ∷ rest = sym gives.0.0 ∙ ahead in
    (cc same, gives.1)

-- ---- the previous chunk: from before the current one backward over the one before it
some_earlier : (earlier : List (List ℕ)) → 1 ≤ length (bytes (reverse earlier)) → (e : List ℕ) × (es : List (List ℕ)) × (earlier ≡ e ∷ es)
some_earlier [] some = absurd (omega (arith, some))
some_earlier (e ∷ es) some = (e, es, refl)

-- forward over the next chunk
pub over_next : (old new : TwoWay (List ℕ)) (given : Option (Bor (List ℕ))) → GivesChunk old given new → new ≡ behind_next old.ahead old.behind
over_next old new None gives = gives.0.1 ∙ ap (λ a. record { ahead = a; behind = old.behind }) gives.0.0 ∙ sym (ap (λ a. behind_next a old.behind) gives.0.0)
over_next old new (Some item) gives = ap (λ b. record { ahead = new.ahead; behind = b }) gives.0.1 ∙ sym (ap (λ a. behind_next a old.behind) gives.0.0)

-- backward over the previous one
pub back_over : (old new : TwoWay (List ℕ)) (given : Option (Bor (List ℕ))) → GivesPrev GivesChunk old given new → IsBeforeLast old new
back_over old new given gives = λ last earlier is.
    let step = one_step (turned old) (turned new) given last earlier gives is in
    ap₂ (λ a b. record { ahead = a; behind = b }) step.1 step.0

-- an iterator before the next chunk is before the previous one of the position after it
pub stays_before : (place : TwoWay (List ℕ)) → IsSomeAhead place → IsBeforeLast (behind_next place.ahead place.behind) place
stays_before place some = by place.ahead refl
  where
    by : (ahead : List (List ℕ)) → place.ahead ≡ ahead → IsBeforeLast (behind_next ahead place.behind) place
    by [] none last earlier is = absurd (some none)
    by (chunk ∷ ahead) there last earlier is =
        let same : chunk ∷ place.behind ≡ last ∷ earlier = is in
        let first : chunk ≡ last = cc same in
        let rest : place.behind ≡ earlier = cc same in
        ap₂ (λ a b. record { ahead = a; behind = b }) (there ∙ ap (λ x. x ∷ ahead) first) rest

module _ (place one two : TwoWay (List ℕ)) (second : Option (Bor (List ℕ))) (other : Bor (List ℕ)) (shown : List ℕ) (offset len : ℕ) (s : IsShowing place shown offset len) (far : 1 ≤ offset)
    (back : IsBeforeLast place one) (again : GivesPrev GivesChunk one second two) where
  some : (e : List ℕ) × (es : List (List ℕ)) × (s.earlier ≡ e ∷ es)
  some = some_earlier s.earlier (omega (arith, far, s.offset_is))

  behind_is_two : place.behind ≡ chars shown ∷ (some.0 ∷ some.1)
  behind_is_two =
      s.stands
      ∙ ap (λ p. p ++ s.earlier) (piece_by_itself (chars shown) (λ none. let is : some.0 ∷ some.1 ≡ [] = sym some.2 ∙ (s.some none).0 in absurd (cc is)))
      ∙ ap (λ p. chars shown ∷ p) some.2

  stands_before : one ≡ record { ahead = chars shown ∷ place.ahead; behind = some.0 ∷ some.1 }
  stands_before = back (chars shown) (some.0 ∷ some.1) behind_is_two

  behind_one : one.behind ≡ some.0 ∷ some.1
  behind_one = ap (λ (p : TwoWay (List ℕ)). p.behind) stands_before

  ahead_one : one.ahead ≡ chars shown ∷ place.ahead
  ahead_one = ap (λ (p : TwoWay (List ℕ)). p.ahead) stands_before

  step_again : (two.behind ≡ some.1) × (two.ahead ≡ some.0 ∷ one.ahead)
  step_again = one_step (turned one) (turned two) second some.0 some.1 again behind_one

  abbrev pub before : List ℕ
  before = (unwrap_or second other).now

  given : (chars before ≡ some.0) × IsUtf8 before
  given = given_chunk (turned one) (turned two) second other some.0 some.1 again behind_one

  -- where the current chunk then ends
  abbrev passed : TwoWay (List ℕ)
  passed = behind_shown true two

  new_is : passed ≡ record { ahead = one.ahead; behind = some.0 ∷ two.behind }
  new_is = ap (λ a. behind_next a two.behind) step_again.1

  behind_new : passed.behind ≡ some.0 ∷ some.1
  behind_new = ap (λ (p : TwoWay (List ℕ)). p.behind) new_is ∙ ap (λ p. some.0 ∷ p) step_again.0

  ahead_new : passed.ahead ≡ chars shown ∷ place.ahead
  ahead_new = ap (λ (p : TwoWay (List ℕ)). p.ahead) new_is ∙ ahead_one

  same_back : all_chunks place ≡ all_chunks passed
  same_back = all_the_same passed place (chars shown) ahead_new (behind_is_two ∙ ap (λ p. chars shown ∷ p) (sym behind_new))

  before_filled : chars before ≡ [] → ⊥
  before_filled none =
      let parts : all_chunks passed ≡ reverse some.1 ++ (some.0 ∷ passed.ahead) =
      ap (λ p. reverse p ++ passed.ahead) behind_new ∙ ap (λ p. p ++ passed.ahead) (reverse-cons some.0 some.1) ∙ append_assoc (reverse some.1) (some.0 ∷ []) passed.ahead in
      s.filled (reverse some.1) passed.ahead some.0 (same_back ∙ parts) (sym given.0 ∙ none)

  starts : offset ≡ length (bytes (reverse some.1)) + length before
  starts =
      let parts : bytes (reverse s.earlier) ≡ bytes (reverse some.1) ++ bytes (some.0 ∷ []) = ap (λ p. bytes (reverse p)) some.2 ∙ ap bytes (reverse-cons some.0 some.1) ∙ bytes-append (reverse some.1) (some.0 ∷ []) in
      let one_chunk : bytes (some.0 ∷ []) ≡ before = ap (λ x. encode_utf8_all x) (append-nil some.0 ∙ sym given.0) ∙ encodes-chars before given.1 in
      omega (arith, s.offset_is, ap length parts, length-append (bytes (reverse some.1)) (bytes (some.0 ∷ [])), ap length one_chunk)

  pub back_fits : length before ≤ offset
  back_fits = omega (arith, starts)

  shows_before : IsShowing passed before (offset - length before) len
  shows_before = record {
    earlier = some.1;
    stands = behind_new ∙ ap (λ x. x ∷ some.1) (sym given.0) ∙ ap (λ p. p ++ some.1) (sym (piece_by_itself (chars before) before_filled));
    some = λ none. absurd (before_filled none);
    filled = subst HaveCharacters same_back s.filled;
    utf8 = given.1;
    offset_is = omega (arith, starts);
    len_is = s.len_is ∙ ap (λ p. byte_len (text_of p)) same_back;
    bound = s.bound;
  }

  pub stands_there : StandsBy true two before (offset - length before) len
  stands_there = record { shows = shows_before; some = λ _ none. let is : some.0 ∷ one.ahead ≡ [] = sym step_again.1 ∙ none in absurd (cc is) }

  pub moves_back : IsNext (showing passed (offset - length before) before) (showing place offset shown)
  moves_back = record { same = record { content = ap bytes same_back; is_sized = refl }; meets = omega (arith, back_fits) }

-- ---- the first current chunk
piece_of_none : (shown : List ℕ) → shown ≡ [] → rope.lone_piece (chars shown) ≡ []
piece_of_none shown none = ap rope.lone_piece (no_chars_of shown none)

shows_none : (place new : TwoWay (List ℕ)) (shown : List ℕ) (offset len : ℕ) → MayShowNext place offset len → place.ahead ≡ [] → new ≡ place → shown ≡ [] → IsShowing new shown offset len
shows_none place new shown offset len m ahead same none = subst (λ p. IsShowing p shown offset len) (sym same) (record {
  earlier = place.behind;
  stands = sym (ap (λ p. p ++ place.behind) (piece_of_none shown none));
  some = λ _. (m.some ahead, ahead);
  filled = m.filled;
  utf8 = subst IsUtf8 (sym none) IsUtf8-nil;
  offset_is = m.offset_is;
  len_is = m.len_is;
  bound = m.bound;
})

shows_some : (place new : TwoWay (List ℕ)) (shown : List ℕ) (offset len : ℕ) → MayShowNext place offset len → place.ahead ≡ chars shown ∷ new.ahead → new.behind ≡ chars shown ∷ place.behind → IsUtf8 shown → IsShowing new shown offset len
shows_some place new shown offset len m ahead behind utf8 =
    let same = all_the_same place new (chars shown) ahead behind in
    let filled : chars shown ≡ [] → ⊥ = m.filled (reverse place.behind) new.ahead (chars shown) (ap (λ p. reverse place.behind ++ p) ahead) in
    record {
      earlier = place.behind;
      stands = behind ∙ ap (λ p. p ++ place.behind) (sym (piece_by_itself (chars shown) filled));
      some = λ none. absurd (filled none);
      filled = subst HaveCharacters (sym same) m.filled;
      utf8 = utf8;
      offset_is = m.offset_is;
      len_is = m.len_is ∙ ap (λ p. byte_len (text_of p)) (sym same);
      bound = m.bound;
    }

pub shows_first : (place new : TwoWay (List ℕ)) (given : Option (Bor (List ℕ))) (other : Bor (List ℕ)) (offset len : ℕ) → other.now ≡ [] → MayShowNext place offset len → GivesChunk place given new → IsShowing new (unwrap_or given other).now offset len
shows_first place new None other offset len none m gives = shows_none place new other.now offset len m gives.0.0 gives.0.1 none
shows_first place new (Some item) other offset len none m gives = shows_some place new item.now offset len m gives.0.0 gives.0.1 gives.1

pub ends_first : (place new : TwoWay (List ℕ)) (given : Option (Bor (List ℕ))) (other : Bor (List ℕ)) (offset : ℕ) → other.now ≡ [] → GivesChunk place given new → EndsFirst place.ahead offset (offset + length (unwrap_or given other).now)
ends_first place new None other offset none gives = subst (λ p. EndsFirst p offset (offset + length other.now)) (sym gives.0.0) (omega (arith, ap length none))
ends_first place new (Some item) other offset none gives = subst (λ p. EndsFirst p offset (offset + length item.now)) (sym gives.0.0) (omega (arith, ap length (encodes-chars item.now gives.1)))

pub same_content : (place new : TwoWay (List ℕ)) (given : Option (Bor (List ℕ))) → GivesChunk place given new → bytes (all_chunks new) ≡ bytes (all_chunks place)
same_content place new None gives = ap (λ p. bytes (all_chunks p)) gives.0.1
same_content place new (Some item) gives = ap bytes (all_the_same place new (chars item.now) gives.0.0 gives.0.1)

-- ---- the position before a chunk of a text
pub filled_pieces : (pieces : List (List ℕ)) → IsCutting pieces → HaveCharacters pieces
filled_pieces (p ∷ []) cut [] back chunk parts none =
    let first : p ≡ chunk = cc parts in
    let empty : encode_utf8_all p ≡ [] = ap encode_utf8_all (first ∙ none) in
    absurd (omega (arith, cut.not_empty, ap length empty))
filled_pieces (p ∷ q ∷ ps) cut [] back chunk parts none =
    let first : p ≡ chunk = cc parts in
    let empty : encode_utf8_all p ≡ [] = ap encode_utf8_all (first ∙ none) in
    absurd (omega (arith, cut.0.not_empty, ap length empty))
filled_pieces [] cut [] back chunk parts none = absurd (cc parts)
filled_pieces [] cut (f ∷ front) back chunk parts none = absurd (cc parts)
filled_pieces (p ∷ []) cut (f ∷ front) back chunk parts none = let rest : [] ≡ front ++ chunk ∷ back = cc parts in nowhere front back chunk rest
  where
    nowhere : (front back : List (List ℕ)) (chunk : List ℕ) → [] ≡ front ++ chunk ∷ back → ⊥
    nowhere [] back chunk e = absurd (cc e)
    nowhere (f ∷ front) back chunk e = absurd (cc e)
filled_pieces (p ∷ q ∷ ps) cut (f ∷ front) back chunk parts none = let rest : q ∷ ps ≡ front ++ chunk ∷ back = cc parts in filled_pieces (q ∷ ps) cut.2 front back chunk rest none

pub no_pieces : (pieces : List (List ℕ)) → HaveCharacters pieces → length (bytes pieces) ≡ 0 → pieces ≡ []
no_pieces [] filled e = refl
no_pieces (p ∷ ps) filled e =
    let parts : bytes (p ∷ ps) ≡ encode_utf8_all p ++ bytes ps = encodes-append p (text_of ps) in
    let none : length (encode_utf8_all p) ≡ 0 = omega (arith, ap length parts, length-append (encode_utf8_all p) (bytes ps), e) in
    absurd (filled [] ps p refl (no_text p none))
  where
    no_text : (text : List ℕ) → length (encode_utf8_all text) ≡ 0 → text ≡ []
    no_text [] e = refl
    no_text (c ∷ cs) e = absurd (omega (arith, length-le-encodes (c ∷ cs), e))
