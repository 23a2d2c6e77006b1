-- Walks of a program over a single literal.
use Rattle.std.proofs.Common.{◌≡◌, ℕ, zero, suc, ◌+◌, ◌≤◌, Bool, true, List, [], ◌∷◌, ◌++◌, take, drop, length, drop-drop, Some, None, slice_get, refl, sym, ap, subst, ◌∙◌, arith, length-append, append_assoc, cond, inl}
use Rattle.std.specs.Char.{len_utf8, encode_utf8}
use Rattle.std.proofs.lemmas.Bool.{cases_eq}
use Rattle.std.proofs.lemmas.Bool.Decides.{nat_tests}
use Rattle.std.proofs.lemmas.List.{length-take}
use Rattle.std.proofs.lemmas.Str.{length-encode}
use Rattle.std.proofs.Math.Seq.{drop-append_seam, take-append_seam}
use Rattle.memchr.specs.Find.{OccursAt}
use Rattle.memchr.proofs.lemmas.MatchLemmas.{OccursAt-split, OccursAt-from_part}
use Rattle.rx_sets.specs.Sets.{Range}
use Rattle.rx_utf8.specs.Automata.{is_in}
use Rattle.rx_walks.specs.Looks.{Look}
use Rattle.rx_walks.specs.Characters.{len_if, first_character}
use Rattle.rx_walks.specs.Machines.{Machine, Outcome, goes, reads, ends}
use Rattle.rx_walks.specs.Paths.{Path, at_end, by_edge, by_read}
use Rattle.rx_walks.specs.Walks.{Walk, ended, went, took, IsLeast, Reaches}
use Rattle.rx_walks.specs.Finds.{Search, IsInside}
use Rattle.rx_walks.specs.Programs.{match, note, set, Program, Haystack, Notes, fresh_notes, put_note, note_at, only_if, is_within, by_character, left_from, read_up_to}
use Rattle.rx_walks.specs.ProgramFinds.{first_by, haystack_of, holds_in, highest, lowest, machine_of}
use Rattle.rx_walks.proofs.CharacterLaws.{member_stands, stands_first}
use Rattle.rx_walks.proofs.PathLaws.{path_has_walk}
use Rattle.rx_program.proofs.NoteLaws.{only_edge, read_not_ends, read_not_goes, ends_by, goes_by, reads_by, same_edges}
use Rattle.rx_literals.specs.Literals.{IsLiteralOf, MatchesOnly, literal_match}
use Rattle.rx_literals.specs.Spellings.{IsOnlyMember, ReadsOnly, GoesOver, SpellsLiteral, NotesEnd}
use Rattle.rx_literals.proofs.WayLaws.{occurs_longer, read_takes}

only_first : (r c to : ℕ) → slice_get (r ∷ []) c ≡ Some to → c ≡ 0
only_first r zero to e = refl
only_first r (suc c) to e = absurd (cc e)

within_both : (low high i : ℕ) → low ≤ i → i ≤ high → is_within low high i ≡ true
within_both low high i from to = grind (arith, nat_tests)

module _ (is_word : ℕ → Bool) (p : Program Look (List Range)) (s : Search) where
  abbrev M : Machine ℕ Notes
  M = machine_of is_in is_word p s

  abbrev H : Haystack Look
  H = haystack_of (holds_in is_word p.line_terminator s) s

  abbrev Bytes : List ℕ
  Bytes = take (highest s) s.content

  -- ---- a node that notes

  pub record Noting (seen : List ℕ) (n : Notes) (slot q r i : ℕ) (choices : List ℕ) (t : Outcome Notes) : Type 0 where
    pub others : List ℕ
    pub choices_are : choices ≡ 0 ∷ others
    pub walk : Walk M (q ∷ seen) (put_note slot i n) r i others t

  note_walk : {seen : List ℕ} {n : Notes} {q i : ℕ} {choices : List ℕ} {t : Outcome Notes} (slot r : ℕ) → slice_get p.nodes q ≡ Some (note slot r) → Walk M seen n q i choices t → Noting seen n slot q r i choices t
  note_walk slot r at (ended {q = q} {i = i} {p = k} new is) = absurd (cc (ends_by (first_by is_in) H p.nodes q i k (Some (note slot r)) at is))
  note_walk slot r at (went {seen = seen} {n = n} {q = q} {i = i} {k = c} {cs = cs} {t = t} rs to new is on w) =
      let by : goes (r ∷ []) ≡ goes rs = goes_by (first_by is_in) H p.nodes q i rs c to (Some (note slot r)) at is on in
      let same : to ≡ r = only_edge rs c to r by on in
      let first : c ≡ 0 = only_first r c to (subst (λ xs. slice_get xs c ≡ Some to) (sym (same_edges (r ∷ []) rs by)) on) in
      let noted : M.note i q n ≡ put_note slot i n = ap (λ z. note_at put_note i z n) at in
      record {
        others = cs;
        choices_are = ap (λ k. k ∷ cs) first;
        walk = subst (λ x. Walk M (q ∷ seen) (put_note slot i n) x i cs t) same (subst (λ x. Walk M (q ∷ seen) x to i cs t) noted w);
      }
  note_walk slot r at (took {q = q} {i = i} to j new is w) = absurd (cc (reads_by (first_by is_in) H p.nodes q i to j (Some (note slot r)) at is))

  note_path : (slot q r i pattern e : ℕ) → slice_get p.nodes q ≡ Some (note slot r) → lowest s ≤ i → i ≤ highest s → Path M r i pattern e → Path M q i pattern e
  note_path slot q r i pattern e at low high path =
      let move : M.move i q ≡ goes (r ∷ []) =
      ap (λ z. only_if (is_within (lowest s) (highest s) i) (by_character (first_by is_in) H i z)) at
      ∙ ap (λ b. only_if b (goes (r ∷ []))) (within_both (lowest s) (highest s) i low high) in
      by_edge (r ∷ []) r 0 move refl path

  -- ---- a node that reads one character

  pub record Reading (c r i : ℕ) (n : Notes) (choices : List ℕ) (t : Outcome Notes) : Type 0 where
    pub rest : List ℕ
    pub stands : drop i Bytes ≡ encode_utf8 c ++ rest
    pub walk : Walk M [] n r (i + length (encode_utf8 c)) choices t

  read_walk : {seen : List ℕ} {n : Notes} {q i : ℕ} {choices : List ℕ} {t : Outcome Notes} (ranges : List Range) (c r : ℕ) → IsOnlyMember ranges c → slice_get p.nodes q ≡ Some (set ranges r)
      → Walk M seen n q i choices t → Reading c r i n choices t
  read_walk ranges c r only at (ended {q = q} {i = i} {p = k} new is) =
      absurd (read_not_ends r i (first_by is_in ranges (left_from H i)) (ends_by (first_by is_in) H p.nodes q i k (Some (set ranges r)) at is))
  read_walk ranges c r only at (went {q = q} {i = i} {k = k} rs to new is on w) =
      absurd (read_not_goes r i (first_by is_in ranges (left_from H i)) rs k (goes_by (first_by is_in) H p.nodes q i rs k to (Some (set ranges r)) at is on) on)
  read_walk ranges c r only at (took {n = n} {q = q} {i = i} {cs = cs} {t = t} to j new is w) =
      let taken = read_takes r i (first_by is_in ranges (left_from H i)) (reads_by (first_by is_in) H p.nodes q i to j (Some (set ranges r)) at is) in
      let member = member_stands (is_in ranges) (left_from H i) taken.0 taken.1 in
      let same : member.0 ≡ c = only.only member.0 member.1.scalar member.2 in
      let width : j ≡ i + length (encode_utf8 c) = taken.2 ∙ ap (λ n. i + n) (member.3 ∙ ap len_utf8 same ∙ sym (length-encode c)) in
      record {
        rest = member.1.rest;
        stands = member.1.stands ∙ ap (λ d. encode_utf8 d ++ member.1.rest) same;
        walk = subst (λ x. Walk M [] n r x cs t) width (subst (λ x. Walk M [] n x j cs t) taken.3 w);
      }

  read_path : (ranges : List Range) (c q r i pattern e : ℕ) (rest : List ℕ) → IsOnlyMember ranges c → slice_get p.nodes q ≡ Some (set ranges r) → lowest s ≤ i → i ≤ highest s
      → drop i Bytes ≡ encode_utf8 c ++ rest → Path M r (i + length (encode_utf8 c)) pattern e → Path M q i pattern e
  read_path ranges c q r i pattern e rest only at low high stands path =
      let first : first_character (drop i Bytes) ≡ Some c = stands_first (drop i Bytes) c (record { scalar = only.scalar; rest = rest; stands = stands }) in
      let width : first_by is_in ranges (left_from H i) ≡ Some (length (encode_utf8 c)) =
      ap (len_if (is_in ranges)) first ∙ member_width (is_in ranges c) only.member ∙ ap Some (sym (length-encode c)) in
      let move : M.move i q ≡ reads r (i + length (encode_utf8 c)) =
      ap (λ z. only_if (is_within (lowest s) (highest s) i) (by_character (first_by is_in) H i z)) at
      ∙ ap (λ b. only_if b (read_up_to r i (first_by is_in ranges (left_from H i)))) (within_both (lowest s) (highest s) i low high)
      ∙ ap (read_up_to r i) width in
      by_read r (i + length (encode_utf8 c)) move path
    where
      member_width : (b : Bool) → b ≡ true → cond b (Some (len_utf8 c)) None ≡ Some (len_utf8 c)
      member_width b is = ap (λ x. cond x (Some (len_utf8 c)) None) is

  -- ---- the node of the match

  match_walk : {seen : List ℕ} {n : Notes} {q i : ℕ} {choices : List ℕ} {t : Outcome Notes} → slice_get p.nodes q ≡ Some (match 0) → Walk M seen n q i choices t
      → (choices ≡ []) × (t ≡ record { pattern = 0; end = i; notes = n })
  match_walk at (ended {n = n} {q = q} {i = i} {p = k} new is) =
      let same : k ≡ 0 = cc (ends_by (first_by is_in) H p.nodes q i k (Some (match 0)) at is) in
      (refl, ap (λ x. record { pattern = x; end = i; notes = n }) same)
  match_walk at (went {q = q} {i = i} {k = k} rs to new is on w) = absurd (cc (goes_by (first_by is_in) H p.nodes q i rs k to (Some (match 0)) at is on))
  match_walk at (took {q = q} {i = i} to j new is w) = absurd (cc (reads_by (first_by is_in) H p.nodes q i to j (Some (match 0)) at is))

  match_path : (q i : ℕ) → slice_get p.nodes q ≡ Some (match 0) → lowest s ≤ i → i ≤ highest s → Path M q i 0 i
  match_path q i at low high =
      at_end (
      ap (λ z. only_if (is_within (lowest s) (highest s) i) (by_character (first_by is_in) H i z)) at
      ∙ ap (λ b. only_if b (ends 0)) (within_both (lowest s) (highest s) i low high)
      )

  -- ---- offsets

  low_there : (i : ℕ) → IsInside s i → lowest s ≤ i
  low_there i inside = omega (arith, inside.0, inside.2)

  high_there : (i : ℕ) → IsInside s i → i ≤ highest s
  high_there i inside = omega (arith, inside.1, inside.3, inside.4)

  end_there : (literal : List ℕ) (i : ℕ) → OccursAt Bytes literal i → i + length literal ≤ highest s
  end_there literal i occurs = omega (arith, occurs.fits, length-take (highest s) s.content)

-- of two adjacent pieces of text
occurs_parts : (bytes literal more : List ℕ) (i : ℕ) → OccursAt bytes (literal ++ more) i → OccursAt bytes literal i × (rest : List ℕ) × (drop (i + length literal) bytes ≡ more ++ rest)
occurs_parts bytes literal more i occurs =
    let long = length-append literal more in
    let whole : drop i bytes ≡ (literal ++ more) ++ drop (i + length (literal ++ more)) bytes = OccursAt-split bytes (literal ++ more) i occurs in
    let after : List ℕ = drop (i + length (literal ++ more)) bytes in
    let joined : drop i bytes ≡ literal ++ (more ++ after) = whole ∙ append_assoc literal more after in
    let begins : OccursAt bytes literal i = OccursAt-from_part bytes literal i (omega (arith, occurs.fits, long)) (ap (take (length literal)) joined ∙ take-append_seam literal (more ++ after)) in
    let behind : drop (i + length literal) bytes ≡ more ++ after = sym (drop-drop (length literal) i bytes) ∙ ap (drop (length literal)) joined ∙ drop-append_seam literal (more ++ after) in
    (begins, after, behind)

-- ---- how a literal is read

pub spells_first : (p : Program Look (List Range)) (q : ℕ) → slice_get p.nodes p.start ≡ Some (note 0 q) → SpellsLiteral p [] q
spells_first p q at = record { onward = onward; back = back }
  where
    at_once : (i : ℕ) → i ≡ i + 0
    at_once i = omega arith

    nothing_there : (bytes : List ℕ) (i : ℕ) → i ≤ length bytes → OccursAt bytes [] i
    nothing_there bytes i inside = record { fits = omega (arith, inside); reads = λ j below. absurd (omega (arith, below)) }

    onward : (is_word : ℕ → Bool) (s : Search) (i : ℕ) (choices : List ℕ) (t : Outcome Notes) → IsInside s i → Walk (machine_of is_in is_word p s) [] (fresh_notes i) p.start i choices t → GoesOver is_word p s [] q i choices t
    onward is_word s i choices t inside w =
        let on = note_walk is_word p s 0 q at w in
        record {
          occurs = nothing_there (take (highest s) s.content) i (omega (arith, length-take (highest s) s.content, inside.1, inside.3, inside.4));
          seen = p.start ∷ [];
          others = on.others;
          choices_are = on.choices_are;
          walk = subst (λ n. Walk (machine_of is_in is_word p s) (p.start ∷ []) (record { start = i; noted = (0, i) ∷ [] }) q n on.others t) (at_once i) on.walk;
        }

    back : (is_word : ℕ → Bool) (s : Search) (i pattern e : ℕ) → IsInside s i → OccursAt (take (highest s) s.content) [] i → Path (machine_of is_in is_word p s) q (i + 0) pattern e → Path (machine_of is_in is_word p s) p.start i pattern e
    back is_word s i pattern e inside occurs path =
        note_path is_word p s 0 p.start q i pattern e at (low_there is_word p s i inside) (high_there is_word p s i inside)
        (subst (λ n. Path (machine_of is_in is_word p s) q n pattern e) (sym (at_once i)) path)

pub spells_on : (p : Program Look (List Range)) (literal more : List ℕ) (q c r : ℕ) → ReadsOnly (slice_get p.nodes q) c r → more ≡ literal ++ encode_utf8 c → SpellsLiteral p literal q → SpellsLiteral p more r
spells_on p literal more q c r over is spells = subst (λ xs. SpellsLiteral p xs r) (sym is) (record { onward = onward; back = back })
  where
    behind : (i : ℕ) → i + length literal + length (encode_utf8 c) ≡ i + length (literal ++ encode_utf8 c)
    behind i = omega (arith, length-append literal (encode_utf8 c))

    onward : (is_word : ℕ → Bool) (s : Search) (i : ℕ) (choices : List ℕ) (t : Outcome Notes) → IsInside s i → Walk (machine_of is_in is_word p s) [] (fresh_notes i) p.start i choices t → GoesOver is_word p s (literal ++ encode_utf8 c) r i choices t
    onward is_word s i choices t inside w =
        let on = spells.onward is_word s i choices t inside w in
        let read = read_walk is_word p s over.ranges c r over.only over.here_is on.walk in
        record {
          occurs = occurs_longer (take (highest s) s.content) literal (encode_utf8 c) read.rest i on.occurs read.stands;
          seen = [];
          others = on.others;
          choices_are = on.choices_are;
          walk = subst (λ n. Walk (machine_of is_in is_word p s) [] (record { start = i; noted = (0, i) ∷ [] }) r n on.others t) (behind i) read.walk;
        }

    back : (is_word : ℕ → Bool) (s : Search) (i pattern e : ℕ) → IsInside s i → OccursAt (take (highest s) s.content) (literal ++ encode_utf8 c) i → Path (machine_of is_in is_word p s) r (i + length (literal ++ encode_utf8 c)) pattern e → Path (machine_of is_in is_word p s) p.start i pattern e
    back is_word s i pattern e inside occurs path =
        let parts = occurs_parts (take (highest s) s.content) literal (encode_utf8 c) i occurs in
        let low : lowest s ≤ i + length literal = omega (arith, low_there is_word p s i inside) in
        spells.back is_word s i pattern e inside parts.0
        (read_path is_word p s over.ranges c q r (i + length literal) pattern e parts.1 over.only over.here_is low (end_there is_word p s literal i parts.0) parts.2
        (subst (λ n. Path (machine_of is_in is_word p s) r n pattern e) (sym (behind i)) path))

-- ---- the literal's match is the only one

module _ (p : Program Look (List Range)) (literal : List ℕ) (q : ℕ) (spells : SpellsLiteral p literal q) (ending : NotesEnd p q) where
  abbrev Here : ℕ → Outcome Notes
  Here i = literal_match (record { start = i; end = i + length literal })

  module _ (is_word : ℕ → Bool) (s : Search) (i : ℕ) (inside : IsInside s i) where
    pub record IsIt (choices : List ℕ) (t : Outcome Notes) : Type 0 where
      pub occurs : OccursAt (take (highest s) s.content) literal i
      pub choices_are : choices ≡ 0 ∷ 0 ∷ []
      pub outcome_is : t ≡ Here i

    is_it : (choices : List ℕ) (t : Outcome Notes) → Walk (machine_of is_in is_word p s) [] (fresh_notes i) p.start i choices t → IsIt choices t
    is_it choices t w =
        let on = spells.onward is_word s i choices t inside w in
        let noting = note_walk is_word p s 1 ending.last ending.note_is on.walk in
        let last = match_walk is_word p s ending.match_is noting.walk in
        record {
          occurs = on.occurs;
          choices_are = on.choices_are ∙ ap (λ cs. 0 ∷ cs) (noting.choices_are ∙ ap (λ cs. 0 ∷ cs) last.0);
          outcome_is = last.1;
        }

    there : OccursAt (take (highest s) s.content) literal i → Reaches (machine_of is_in is_word p s) [] (fresh_notes i) p.start i 0 (i + length literal)
    there occurs =
        let low : lowest s ≤ i + length literal = omega (arith, low_there is_word p s i inside) in
        let high = end_there is_word p s literal i occurs in
        path_has_walk cases_eq
        (spells.back is_word s i 0 (i + length literal) inside occurs
        (note_path is_word p s 1 q ending.last (i + length literal) 0 (i + length literal) ending.note_is low high (match_path is_word p s ending.last (i + length literal) ending.match_is low high)))
        (fresh_notes i)

    least_there : (t : Outcome Notes) → OccursAt (take (highest s) s.content) literal i → t ≡ Here i → IsLeast (machine_of is_in is_word p s) [] (fresh_notes i) p.start i t
    least_there t occurs is =
        let reached = there occurs in
        let it = is_it reached.choices reached.outcome reached.walk in
        record {
          choices = reached.choices;
          walk = subst (λ x. Walk (machine_of is_in is_word p s) [] (fresh_notes i) p.start i reached.choices x) (it.outcome_is ∙ sym is) reached.walk;
          least = λ ds u w. inl ((is_it ds u w).choices_are ∙ sym it.choices_are);
        }

  pub matches_only : MatchesOnly literal p
  matches_only is_word s i t inside = (
    λ least. let it = is_it is_word s i inside least.choices t least.walk in (it.occurs, it.outcome_is),
    λ told. least_there is_word s i inside t told.0 told.1,
  )

pub literal_of : (p : Program Look (List Range)) (literal : List ℕ) (q : ℕ) → SpellsLiteral p literal q → NotesEnd p q → IsLiteralOf (literal ∷ []) p
literal_of p literal q spells ending = record { literal = literal; needles_are = refl; matches_only = matches_only p literal q spells ending }
