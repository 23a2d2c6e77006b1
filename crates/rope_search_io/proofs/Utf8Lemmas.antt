-- UTF-8 from its start: the first byte gives the length of the first character.
use Rattle.std.proofs.Common.{◌≡◌, ℕ, ◌+◌, ◌<◌, ◌≤◌, Bool, true, false, not, IsTrue, rules, ◌&&◌, ◌↔◌, List, [], ◌∷◌, ◌++◌, length, take, drop, get_or, eqb, add-one, set, zero, suc, ◌≢◌, get_or-set_other, refl, sym, ap, ◌∙◌, subst, arith, append_assoc, append-nil, IsUtf8, length-append}
use Rattle.std.proofs.Math.Seq.{take-append_seam, drop-append_seam, drop-cons}
use Rattle.std.proofs.lemmas.Bool.Decides.{nat_tests}
use Rattle.std.proofs.lemmas.Grind.{common_steps, take-set_at}
use Rattle.std.proofs.lemmas.List.{length-take}
use Rattle.std.proofs.lemmas.Str.{IsUtf8-append, IsUtf8-nil, cons_from_encodes}
use Rattle.std.proofs.Math.Utf8.{encode, encodes, scalar, scalars}
use Rattle.rope_search_io.specs.Utf8Judge.{len_by_first, Judging, Continues}

-- two prefixes of one length are the same
pub fronts_same : (a b x y : List ℕ) → length a ≡ length b → a ++ x ≡ b ++ y → (a ≡ b) × (x ≡ y)
fronts_same a b x y same whole = (
  sym (take-append_seam a x) ∙ ap (take (length a)) whole ∙ ap (λ n. take n (b ++ y)) same ∙ take-append_seam b y,
  sym (drop-append_seam a x) ∙ ap (drop (length a)) whole ∙ ap (λ n. drop n (b ++ y)) same ∙ drop-append_seam b y,
)

both_true : (x y : Bool) → x && y ≡ true → (x ≡ true) × (y ≡ true)
both_true true y h = (refl, h)
both_true false y h = cc

-- the length of a character is that given by its first byte
pub width-encode : (c : ℕ) (rest : List ℕ) → len_by_first (get_or (encode c ++ rest) 0 0) ≡ length (encode c)
unfolding encode
width-encode c rest = grind (arith, nat_tests)

-- the first byte is that of the prefix
first_of : (part more : List ℕ) → 0 < length part → get_or (part ++ more) 0 0 ≡ get_or part 0 0
first_of [] more h = absurd (omega arith)
first_of (b ∷ part) more h = refl

front_whole : (part more cs : List ℕ) → 0 < length part → length part ≡ len_by_first (get_or part 0 0) → scalars cs ≡ true → encodes cs ≡ part ++ more
    → IsUtf8 part × IsUtf8 more
front_whole part more [] some width valid whole = absurd (omega (arith, ap length whole, length-append part more))
front_whole part more (c ∷ cs) some width valid whole =
    let both = both_true (scalar c) (scalars cs) valid in
    let one : length (encode c) ≡ length part =
    sym (width-encode c (encodes cs)) ∙ ap (λ bs. len_by_first (get_or bs 0 0)) whole ∙ ap len_by_first (first_of part more some) ∙ sym width in
    let same = fronts_same (encode c) part (encodes cs) more one whole in
    ((c ∷ [], (ap (λ b. b && true) both.0, append-nil (encode c) ∙ same.0)), (cs, (both.1, same.1)))

-- if a text begins with as many bytes as its first byte gives, these are a character, and what
-- follows is a text
pub IsUtf8-split : (part more : List ℕ) → 0 < length part → length part ≡ len_by_first (get_or part 0 0) → IsUtf8 (part ++ more) → IsUtf8 part × IsUtf8 more
IsUtf8-split part more some width text = front_whole part more text.0 some width text.1.0 text.1.1

short_part : (part cs : List ℕ) → 0 < length part → length part < len_by_first (get_or part 0 0) → encodes cs ≡ part → ⊥
short_part part [] some few whole = omega (arith, ap length whole)
short_part part (c ∷ cs) some few whole =
    omega (arith, ap length whole, length-append (encode c) (encodes cs), width-encode c (encodes cs), ap (λ bs. len_by_first (get_or bs 0 0)) whole)

-- a part of a character is no text
pub IsUtf8-part : (part : List ℕ) → 0 < length part → length part < len_by_first (get_or part 0 0) → IsUtf8 part → ⊥
IsUtf8-part part some few text = short_part part text.0 some few text.1.1

after_chars : (cs ds more : List ℕ) → scalars ds ≡ true → encodes ds ≡ encodes cs ++ more → IsUtf8 more
after_chars [] ds more valid whole = (ds, (valid, whole))
after_chars (c ∷ cs) ds more valid whole =
    let found = cons_from_encodes ds (encodes cs ++ more) c (whole ∙ append_assoc (encode c) (encodes cs) more) in
    after_chars cs found.0 more (both_true (scalar c) (scalars found.0) (ap scalars (sym found.1) ∙ valid)).1 found.2

-- what follows a whole text is a text if both together are
pub IsUtf8-after : (front more : List ℕ) → IsUtf8 front → IsUtf8 (front ++ more) → IsUtf8 more
IsUtf8-after front more whole text = after_chars whole.0 text.0 more text.1.0 (text.1.1 ∙ ap (λ l. l ++ more) (sym whole.1.1))

true≢false : true ≡ false → ⊥
true≢false h = cc

not-IsTrue : (b : Bool) → IsTrue b → not b ≡ false
not-IsTrue true h = refl
not-IsTrue false h = absurd (grind arith)

IsTrue-not : (b : Bool) → not b ≡ false → IsTrue b
IsTrue-not true h = search rules
IsTrue-not false h = absurd (true≢false h)

-- the last byte of a character, checked with it
pub Continues-closed : (part : List ℕ) (byte : ℕ) (text : Bool) (more : List ℕ)
    → length (part ++ byte ∷ []) ≡ len_by_first (get_or (part ++ byte ∷ []) 0 0) → (IsTrue text ↔ IsUtf8 (part ++ byte ∷ []))
    → Continues (record { part = part; dead = false }) (byte ∷ more) ↔ Continues (record { part = []; dead = not text }) more
Continues-closed part byte text more width judged =
    let whole = part ++ byte ∷ [] in
    let same : part ++ byte ∷ more ≡ whole ++ more = sym (append_assoc part (byte ∷ []) more) in
    let some : 0 < length whole = omega (arith, length-append part (byte ∷ [])) in (
      λ h. let halves = IsUtf8-split whole more some width (subst IsUtf8 same h.1) in (not-IsTrue text (judged.1 halves.0), halves.1),
      λ h. (refl, subst IsUtf8 (sym same) (IsUtf8-append whole more (judged.0 (IsTrue-not text h.0)) h.1)),
    )

same_first : (bytes : List ℕ) (n : ℕ) → 0 < n → get_or (take n bytes) 0 0 ≡ get_or bytes 0 0
same_first bytes n some = grind (arith, common_steps)

first_width : (bytes : List ℕ) (len byte : ℕ) → len < length bytes → (0 < len → len < len_by_first (get_or bytes 0 0))
    → len + 1 ≤ len_by_first (get_or (set bytes len byte) 0 0)
first_width bytes zero byte room few = omega arith
first_width bytes (suc n) byte room few =
    let other : 0 ≢ suc n = omega arith in
    let first : get_or (set bytes (suc n) byte) 0 0 ≡ get_or bytes 0 0 = get_or-set_other bytes (suc n) 0 byte 0 other in
    omega (arith, few (omega arith), ap len_by_first first)

-- the length of the character that this byte ends is that given by its first
pub width_reached : (bytes : List ℕ) (len byte : ℕ) → len < length bytes → (0 < len → len < len_by_first (get_or bytes 0 0))
    → len_by_first (get_or (set bytes len byte) 0 0) ≤ len + 1
    → length (take len bytes ++ byte ∷ []) ≡ len_by_first (get_or (take len bytes ++ byte ∷ []) 0 0)
width_reached bytes len byte room few reached =
    let grown : take (len + 1) (set bytes len byte) ≡ take len bytes ++ byte ∷ [] = take-set_at bytes len (len + 1) byte refl room in
    let first : len_by_first (get_or (take len bytes ++ byte ∷ []) 0 0) ≡ len_by_first (get_or (set bytes len byte) 0 0) =
    ap (λ l. len_by_first (get_or l 0 0)) (sym grown) ∙ ap len_by_first (same_first (set bytes len byte) (len + 1) (omega arith)) in
    omega (arith, first, first_width bytes len byte room few, length-append (take len bytes) (byte ∷ []), length-take len bytes)

-- the end, at which a part of a character may be left
pub Continues-end : (bytes : List ℕ) (len : ℕ) → len < length bytes → (0 < len → len < len_by_first (get_or bytes 0 0))
    → IsTrue (eqb len 0) ↔ Continues (record { part = take len bytes; dead = false }) []
Continues-end bytes zero room few = (λ _. (refl, IsUtf8-nil), λ _. refl)
Continues-end bytes (suc n) room few =
    let part = take (suc n) bytes in
    let size : length part ≡ suc n = omega (arith, length-take (suc n) bytes) in
    let first : get_or part 0 0 ≡ get_or bytes 0 0 = same_first bytes (suc n) (omega arith) in
    let short : length part < len_by_first (get_or part 0 0) = omega (arith, ap len_by_first first, few (omega arith)) in (
      λ h. absurd (grind (arith, nat_tests)),
      λ h. absurd (IsUtf8-part part (omega arith) short (subst IsUtf8 (append-nil part) h.1)),
    )

-- a text, if no character is incomplete
pub Continues-past : (dead : Bool) (front more : List ℕ) → IsUtf8 front
    → Continues (record { part = []; dead = dead }) (front ++ more) ↔ Continues (record { part = []; dead = dead }) more
Continues-past dead front more text =
    (λ h. (h.0, IsUtf8-after front more text h.1), λ h. (h.0, IsUtf8-append front more text h.1))

-- one byte after another
pub Continues-more : (old mid new : Judging) (bytes : List ℕ) (k byte : ℕ) → k < length bytes → byte ≡ get_or bytes k 0
    → ((more : List ℕ) → Continues old (bytes ++ more) ↔ Continues mid (drop k bytes ++ more))
    → ((more : List ℕ) → Continues mid (byte ∷ more) ↔ Continues new more)
    → (more : List ℕ) → Continues old (bytes ++ more) ↔ Continues new (drop (k + 1) bytes ++ more)
Continues-more old mid new bytes k byte inside is before step more =
    let next : drop k bytes ++ more ≡ byte ∷ (drop (k + 1) bytes ++ more) =
    ap (λ l. l ++ more) (drop-cons bytes k 0 inside ∙ ap (λ b. b ∷ drop (suc k) bytes) (sym is)) ∙ ap (λ n. byte ∷ (drop n bytes ++ more)) (sym (add-one k)) in (
      λ h. (step (drop (k + 1) bytes ++ more)).0 (subst (Continues mid) next ((before more).0 h)),
      λ h. (before more).1 (subst (Continues mid) (sym next) ((step (drop (k + 1) bytes ++ more)).1 h)),
    )

-- a prefix and what follows it, one after the other
pub Continues-two : (old mid new : Judging) (front back bytes : List ℕ) → front ++ back ≡ bytes
    → ((more : List ℕ) → Continues old (front ++ more) ↔ Continues mid more)
    → ((more : List ℕ) → Continues mid (back ++ more) ↔ Continues new more)
    → (more : List ℕ) → Continues old (bytes ++ more) ↔ Continues new more
Continues-two old mid new front back bytes whole first second more =
    let parts : front ++ (back ++ more) ≡ bytes ++ more = sym (append_assoc front back more) ∙ ap (λ l. l ++ more) whole in (
      λ h. (second more).0 ((first (back ++ more)).0 (subst (Continues old) (sym parts) h)),
      λ h. subst (Continues old) parts ((first (back ++ more)).1 ((second more).1 h)),
    )
