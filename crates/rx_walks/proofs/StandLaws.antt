-- A character in a haystack, read from its start and from its end.
use Rattle.std.proofs.Common.{◌≡◌, ℕ, ◌+◌, ◌-◌, ◌<◌, ◌≤◌, Bool, true, false, cond, List, ◌++◌, take, drop, length, reverse, Option, Some, None, ◌↔◌, refl, sym, ap, subst, ◌∙◌, arith}
use Rattle.std.proofs.lemmas.List.{reverse-reverse}
use Rattle.std.proofs.lemmas.Str.{length-encode, len_utf8_bounds}
use Rattle.std.specs.Char.{IsScalar, encode_utf8, len_utf8}
use Rattle.rx_walks.specs.Characters.{len_if, last_character}
use Rattle.rx_walks.specs.ProgramFinds.{first_by}
use Rattle.rx_walks.proofs.CharacterLaws.{member_stands, stands_first}
use Rattle.rx_walks.proofs.WalkLaws.{same_some}
use Rattle.rx_walks.proofs.LookLaws.{last_stands, stands_last}
use Rattle.rx_walks.specs.Programs.{Haystack, left_from}
use Rattle.rx_walks.specs.Reversed.{mirrored, last_by}
use Rattle.rx_walks.proofs.ListLaws.{split_first, join_first, split_last, join_last, back_part}

pub record StandsAt (content : List ℕ) (i c : ℕ) : Type 0 where
  pub scalar : IsScalar c
  pub front : List ℕ
  pub rest : List ℕ
  pub is : content ≡ front ++ (encode_utf8 c ++ rest)
  pub at : length front ≡ i

takes_some : (c : ℕ) → 0 < length (encode_utf8 c)
takes_some c = omega (arith, length-encode c, (len_utf8_bounds c).0)

pub read_stands : {S : Type 0} (member : S → ℕ → Bool) (x : S) (content : List ℕ) (i high k : ℕ) → first_by member x (drop i (take high content)) ≡ Some k
    → (c : ℕ) × StandsAt content i c × (member x c ≡ true) × (k ≡ len_utf8 c) × (i + k ≤ high)
read_stands member x content i high k e =
    let one = member_stands (member x) (drop i (take high content)) k e in
    let parts = split_first i high content (encode_utf8 one.0) one.1.rest (takes_some one.0) one.1.stands in
    (one.0, record { scalar = one.1.scalar; front = parts.0; rest = parts.1; is = parts.2; at = parts.3 }, one.2, one.3, omega (arith, one.3, parts.4, length-encode one.0))

pub stands_read : {S : Type 0} (member : S → ℕ → Bool) (x : S) (content : List ℕ) (i high c : ℕ) → StandsAt content i c → member x c ≡ true → i + len_utf8 c ≤ high
    → first_by member x (drop i (take high content)) ≡ Some (len_utf8 c)
stands_read member x content i high c here is within =
    let k = high - i - len_utf8 c in
    let bytes : drop i (take high content) ≡ encode_utf8 c ++ take k here.rest =
    ap (λ z. drop z (take high content)) (sym here.at) ∙ ap (λ z. drop (length here.front) (take high z)) here.is
    ∙ join_first here.front (encode_utf8 c) here.rest high k (omega (arith, here.at, within, length-encode c)) in
    let first = stands_first (drop i (take high content)) c (record { scalar = here.scalar; rest = take k here.rest; stands = bytes }) in
    ap (len_if (member x)) first ∙ ap (λ b. cond b (Some (len_utf8 c)) None) is

-- the same from the character's end, in the reversed haystack
module _ (low j n j' : ℕ) (content : List ℕ) (size : length content ≡ n) (below : low ≤ j) (mirror : j' + j ≡ n) where
  abbrev part : List ℕ
  part = drop low (take j content)

  turned : drop j' (take (n - low) (reverse content)) ≡ reverse part
  turned = let place : j' ≡ n - j = omega (arith, mirror) in
      ap (λ z. drop z (take (n - low) (reverse content))) place ∙ back_part low j n content size below (omega (arith, mirror))

  pub back_read_stands : {S : Type 0} (member : S → ℕ → Bool) (x : S) (k : ℕ) → last_by member x (drop j' (take (n - low) (reverse content))) ≡ Some k
      → (c : ℕ) × StandsAt content (j - k) c × (member x c ≡ true) × (k ≡ len_utf8 c) × (low + k ≤ j)
  back_read_stands {S = S} member x k e = by_last (last_character (reverse part)) refl (ap (λ z. last_by member x z) (sym turned) ∙ e)
    where
      stands : (c : ℕ) → last_character (reverse part) ≡ Some c → member x c ≡ true → k ≡ len_utf8 c → (c : ℕ) × StandsAt content (j - k) c × (member x c ≡ true) × (k ≡ len_utf8 c) × (low + k ≤ j)
      stands c is into size_is =
          let last = last_stands (reverse part) c is in
          let whole : part ≡ last.front ++ encode_utf8 c = sym (reverse-reverse part) ∙ last.stands in
          let parts = split_last low j content (encode_utf8 c) last.front (takes_some c) (omega (arith, size, mirror)) whole in
          let lengths = length-encode c in
          (c, record { scalar = last.scalar; front = parts.0; rest = drop j content; is = parts.1; at = omega (arith, parts.2, lengths, size_is) }, into, size_is, omega (arith, parts.2, parts.3, lengths, size_is))

      by_member : (c : ℕ) → last_character (reverse part) ≡ Some c → (b : Bool) → member x c ≡ b → cond b (Some (len_utf8 c)) None ≡ Some k
          → (c : ℕ) × StandsAt content (j - k) c × (member x c ≡ true) × (k ≡ len_utf8 c) × (low + k ≤ j)
      by_member c is false out e = absurd (cc e)
      by_member c is true into e = stands c is into (sym (same_some refl e))

      by_last : (o : Option ℕ) → last_character (reverse part) ≡ o → len_if (member x) o ≡ Some k → (c : ℕ) × StandsAt content (j - k) c × (member x c ≡ true) × (k ≡ len_utf8 c) × (low + k ≤ j)
      by_last None is e = absurd (cc e)
      by_last (Some c) is e = by_member c is (member x c) refl e

  pub stands_back_read : {S : Type 0} (member : S → ℕ → Bool) (x : S) (i c : ℕ) → StandsAt content i c → member x c ≡ true → low ≤ i → i + len_utf8 c ≡ j
      → last_by member x (drop j' (take (n - low) (reverse content))) ≡ Some (len_utf8 c)
  stands_back_read member x i c here is from to =
      let place : j ≡ length here.front + length (encode_utf8 c) = omega (arith, here.at, to, length-encode c) in
      let whole : part ≡ drop low here.front ++ encode_utf8 c =
      ap (λ z. drop low (take z content)) place ∙ ap (λ z. drop low (take (length here.front + length (encode_utf8 c)) z)) here.is
      ∙ join_last low here.front (encode_utf8 c) here.rest (omega (arith, here.at, from)) in
      let last = stands_last (reverse part) c (record { scalar = here.scalar; front = drop low here.front; stands = reverse-reverse part ∙ whole }) in
      ap (λ z. last_by member x z) turned ∙ ap (len_if (member x)) last ∙ ap (λ b. cond b (Some (len_utf8 c)) None) is

-- a read, from both sides
pub reads_turn : {L S : Type 0} (member : S → ℕ → Bool) (h : Haystack L) (x : S) (i j k : ℕ) → h.low ≤ i → i + k ≡ j → j ≤ h.high → h.high ≤ length h.content
    → (first_by member x (left_from h i) ≡ Some k) ↔ (last_by member x (left_from (mirrored h) (length h.content - j)) ≡ Some k)
reads_turn member h x i j k from to within high = (forth, back)
  where
    mirror : length h.content - j + j ≡ length h.content
    mirror = omega (arith, within, high)

    below : h.low ≤ j
    below = omega (arith, from, to)

    forth : first_by member x (left_from h i) ≡ Some k → last_by member x (left_from (mirrored h) (length h.content - j)) ≡ Some k
    forth e =
        let one = read_stands member x h.content i h.high k e in
        stands_back_read h.low j (length h.content) (length h.content - j) h.content refl below mirror member x i one.0 one.1 one.2 from (omega (arith, to, one.3)) ∙ ap Some (sym one.3)

    back : last_by member x (left_from (mirrored h) (length h.content - j)) ≡ Some k → first_by member x (left_from h i) ≡ Some k
    back e =
        let one = back_read_stands h.low j (length h.content) (length h.content - j) h.content refl below mirror member x k e in
        let place : j - k ≡ i = omega (arith, to) in
        stands_read member x h.content i h.high one.0 (subst (λ z. StandsAt h.content z one.0) place one.1) one.2 (omega (arith, to, one.3, within)) ∙ ap Some (sym one.3)
