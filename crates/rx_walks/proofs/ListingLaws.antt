-- A list built with leading nodes is the list of matches.
use Rattle.std.proofs.Common.{◌≡◌, ℕ, ◌+◌, ◌<◌, ◌≤◌, ◌↔◌, Bool, true, false, List, [], ◌∷◌, map, Option, Some, None, slice_get, max, refl, sym, ap, ap₂, subst, ◌∙◌, arith, inl, inr}
use Rattle.std.proofs.lemmas.Bool.{cases_lt, cases_eq}
use Rattle.std.proofs.lemmas.Bool.Decides.{nat_tests}
use Rattle.std.specs.Prelude.{IsTrue}
use Rattle.std.specs.Str.{IsCharBoundary}
use Rattle.rx_walks.specs.Machines.{reads, Machine, Outcome, IsForward}
use Rattle.rx_walks.specs.Walks.{Walk, ended, went, took, IsLeast, HasNoWalk}
use Rattle.rx_walks.specs.Finds.{Search, from_place_on, Counts, IsFind}
use Rattle.rx_walks.specs.Matches.{RepeatedFinds, no_more, at_once, moved, Further, last, one_more, Matches, no_match, first}
use Rattle.rx_walks.specs.Looks.{Look}
use Rattle.rx_walks.specs.Programs.{Node, match, pass, note, look, set, Program, Haystack, Notes, fresh_notes, put_note, only_if, is_within, by_character, note_at, over_characters}
use Rattle.rx_walks.specs.ProgramFinds.{first_by, haystack_of, holds_in, machine_of, lowest, highest, start_node, IfStarts, ProgramFinds, ProgramMatches, finds_on}
use Rattle.rx_walks.specs.Steps.{FindsFrom, nowhere, found}
use Rattle.rx_walks.specs.Bytes.{Automaton, over_bytes}
use Rattle.rx_walks.specs.Laws.{MayBegin, IsDecidable, ReadsMembers}
use Rattle.rx_walks.proofs.FindLaws.{begins, find_from_finds}
use Rattle.rx_walks.specs.Refinements.{Refines}
use Rattle.rx_walks.specs.Likenesses.{noted_by, HasNotes, Keeping}
use Rattle.rx_walks.proofs.WalkLaws.{with_notes, same_walk}
use Rattle.rx_walks.proofs.PathLaws.{path_has_walk}
use Rattle.rx_walks.proofs.CutLaws.{on_from}
use Rattle.rx_walks.proofs.LikenessLaws.{noted_back, renoted_by, keeps_notes}
use Rattle.rx_walks.proofs.RefinementLaws.{refined, least_refined}
use Rattle.rx_walks.proofs.ProgramLaws.{bytes_refine}
use Rattle.rx_walks.proofs.WholeLaws.{reads_whole}
use Rattle.rx_walks.proofs.ForwardLaws.{characters_forward, number_told, pair_told}
use Rattle.rx_walks.proofs.ExistLaws.{LeastOrNone, characters_least}
use Rattle.rx_walks.specs.Leading.{LeadsToMatch, Follows}
use Rattle.rx_walks.specs.Listings.{Listing, over, no_start, passed_over, listed}
use Rattle.rx_walks.specs.LeadLaws.{begins_from}
use Rattle.rx_walks.proofs.FollowLaws.{walk_leads_to, leads_walk, followed_is_least}

-- ---- any finds in which a start counts if a match may begin there and its node leads; `kept` is
-- what is kept of a match

-- a match of which this is kept
pub record Own {A N : Type 0} (kept : A → Outcome N) (finds : RepeatedFinds A) (j : ℕ) (t : Outcome N) (P : A → Type 0) : Type 0 where
  pub one : A
  pub is : kept one ≡ t
  pub first_is : finds.start_of one ≡ j
  pub last_is : finds.end_of one ≡ t.end
  pub on : j ≤ t.end
  pub has : P one

module _ {Q N A : Type 0} (m : Machine Q N) (start_at : ℕ → ℕ → Type 0) (fresh : ℕ → N) (q : Q) (finds : RepeatedFinds A) (kept : A → Outcome N)
    (base : ℕ) (none_from : (e : ℕ) → base ≤ e → ((j : ℕ) → e ≤ j → start_at e j → LeadsToMatch m q j → ⊥) → finds.find e None)
    (some_from : (e j : ℕ) (t : Outcome N) → base ≤ e → e ≤ j → start_at e j → Follows m j [] ((fresh j, q) ∷ []) (Some t) → ((k : ℕ) → e ≤ k → k < j → start_at e k → LeadsToMatch m q k → ⊥)
    → Own kept finds j t (λ a. finds.find e (Some a))) where
  -- no start counts between these offsets
  abbrev NoneIn : ℕ → ℕ → Type 0
  NoneIn e i = (j : ℕ) → e ≤ j → j < i → start_at e j → LeadsToMatch m q j → ⊥

  one_more_place : {e i : ℕ} → NoneIn e i → (start_at e i → LeadsToMatch m q i → ⊥) → NoneIn e (i + 1)
  one_more_place {e = e} {i = i} none never j from below b leads = elim (cases_eq j i) [
    | inl same ↦ never (subst (λ x. start_at e x) same b) (subst (λ x. LeadsToMatch m q x) same leads)
    | inr other ↦ none j from (omega (arith, below, other)) b leads
  ]

  none_at_all : {e i : ℕ} → base ≤ e → NoneIn e i → ((j : ℕ) → i ≤ j → start_at e j → LeadsToMatch m q j → ⊥) → finds.find e None
  none_at_all {e = e} {i = i} within none never = none_from e within (λ j from b leads. elim (cases_lt j i) [ inl below ↦ none j from below b leads | inr on ↦ never j on b leads ])

  none_yet : {e : ℕ} → NoneIn e e
  none_yet j from below b leads = omega (arith, from, below)

  behind_empty : {e : ℕ} {a : A} {own : List A} → finds.find e (Some a) → finds.start_of a ≡ e → finds.end_of a ≡ e → Matches finds (e + 1) own → Further finds e own
  behind_empty f is is' (no_match f') = last (moved f is is' f')
  behind_empty f is is' (first f' others) = one_more (moved f is is' f') others

  abbrev Listed : Bool → ℕ → List A → Type 0
  Listed false e own = Matches finds e own
  Listed true e own = Further finds e own

  no_others : (after : Bool) {e : ℕ} → finds.find e None → Listed after e []
  no_others false f = no_match f
  no_others true f = last (no_more f)

  with_others : (after : Bool) {e : ℕ} {a : A} {own : List A} → finds.find e (Some a) → (IsTrue after → finds.start_of a ≡ e → finds.end_of a ≡ e → ⊥) → Further finds (finds.end_of a) own → Listed after e (a ∷ own)
  with_others false f not others = first f others
  with_others true f not others = one_more (at_once f (not refl)) others

  pub listing_matches : {after : Bool} {e i : ℕ} {ms : List (Outcome N)} → base ≤ e → e ≤ i → NoneIn e i → Listing m start_at fresh q after e i ms → (own : List A) × (map kept own ≡ ms) × Listed after e own
  listing_matches within from none (over {after = after} never) = ([], refl, no_others after (none_at_all within none never))
  listing_matches within from none (no_start never on) = listing_matches within (omega (arith, from)) (one_more_place none never) on
  listing_matches within from none (passed_over {i = i} {t = t} b follows is on) =
      let a = some_from i i t within from b follows none_yet in
      let others = listing_matches (omega (arith, within)) (omega arith) none_yet on in
      (others.0, others.1, behind_empty a.has a.first_is (a.last_is ∙ is) others.2)
  listing_matches {e = e} within from none (listed {after = after} {i = i} {t = t} b follows not on) =
      let a = some_from e i t within from b follows none in
      let others = listing_matches (omega (arith, within, from, a.on)) (omega arith) none_yet on in (
        a.one ∷ others.0,
        ap₂ (λ x xs. x ∷ xs) a.is others.1,
        with_others after a.has
            (λ is at at'. not is (sym a.first_is ∙ at) (sym a.last_is ∙ at' ∙ sym at ∙ a.first_is))
            (subst (λ x. Further finds x others.0) (sym a.last_is) others.2),
      )

-- ---- programs: from an offset on the walks are the same, wherever the span starts before it

module _ {Q N : Type 0} {a b : Machine Q N} (low : ℕ) (same : (i : ℕ) (q : Q) → low ≤ i → a.move i q ≡ b.move i q) (notes : (i : ℕ) (q : Q) (n : N) → a.note i q n ≡ b.note i q n) (forward : IsForward a) where
  walk_same : {seen : List Q} {n : N} {q : Q} {i : ℕ} {cs : List ℕ} {t : Outcome N} → low ≤ i → Walk a seen n q i cs t → Walk b seen n q i cs t
  walk_same from (ended {q = q} {i = i} new is) = ended new (sym (same i q from) ∙ is)
  walk_same from (went {n = n} {q = q} {i = i} rs r new is at w) = went rs r new (sym (same i q from) ∙ is) at (with_notes (notes i q n) (walk_same from w))
  walk_same from (took {q = q} {i = i} r j new is w) = took r j new (sym (same i q from) ∙ is) (walk_same (omega (arith, from, forward i j q r is)) w)

note_start : {S : Type 0} (i : ℕ) (o : Option (Node Look S)) (n : Notes) → (note_at put_note i o n).start ≡ n.start
note_start i None n = refl
note_start i (Some (match p)) n = refl
note_start i (Some (pass rs)) n = refl
note_start i (Some (note slot r)) n = refl
note_start i (Some (look l r)) n = refl
note_start i (Some (set x r)) n = refl

keeps_start : {S : Type 0} (reads_by : S → List ℕ → Option ℕ) (nodes : List (Node Look S)) (h : Haystack Look) {seen : List ℕ} {n : Notes} {q i : ℕ} {cs : List ℕ} {t : Outcome Notes}
    → Walk (over_characters put_note reads_by nodes h) seen n q i cs t → t.notes.start ≡ n.start
keeps_start reads_by nodes h (ended new is) = refl
keeps_start reads_by nodes h (went {n = n} {q = q} {i = i} rs r new is at w) = keeps_start reads_by nodes h w ∙ note_start i (slice_get nodes q) n
keeps_start reads_by nodes h (took r j new is w) = keeps_start reads_by nodes h w

max_below : (a b c : ℕ) → a ≤ c → b ≤ c → max a b ≤ c
max_below a b c below below' = grind (arith, nat_tests, below, below')

module _ {S : Type 0} (member : S → ℕ → Bool) (is_word : ℕ → Bool) (p : Program Look S) (s : Search) where
  abbrev m_from : ℕ → Machine ℕ Notes
  m_from e = machine_of member is_word p (from_place_on s e)

  abbrev m : Machine ℕ Notes
  m = machine_of member is_word p s

  low_at : {e j : ℕ} → begins_from s e j → lowest (from_place_on s e) ≤ j
  low_at {e = e} {j = j} b = max_below s.slice_start e j b.0.0.0 b.0.0.2

  low_whole : {e j : ℕ} → s.start ≤ e → begins_from s e j → lowest s ≤ j
  low_whole {e = e} {j = j} within b = max_below s.slice_start s.start j b.0.0.0 (omega (arith, within, b.0.0.2))

  within_same : (low low' high i : ℕ) → low ≤ i → low' ≤ i → is_within low high i ≡ is_within low' high i
  within_same low low' high i from from' = grind (arith, nat_tests)

  -- the moves of the whole search and of the one from e on
  module _ (e low : ℕ) (above : lowest s ≤ low) (above' : lowest (from_place_on s e) ≤ low) where
    moves_same : (i q : ℕ) → low ≤ i → m.move i q ≡ (m_from e).move i q
    moves_same i q from = ap (λ b. only_if b (by_character (first_by member) (haystack_of (holds_in is_word p.line_terminator s) s) i (slice_get p.nodes q)))
        (within_same (lowest s) (lowest (from_place_on s e)) (highest s) i (omega (arith, above, from)) (omega (arith, above', from)))

  to_whole : {e j q : ℕ} {n : Notes} {cs : List ℕ} {t : Outcome Notes} → s.start ≤ e → begins_from s e j → Walk (m_from e) [] n q j cs t → Walk m [] n q j cs t
  to_whole {e = e} {j = j} within b w = walk_same j (λ i q from. sym (moves_same e j (low_whole within b) (low_at b) i q from)) (λ i q n. refl)
      (characters_forward put_note member p.nodes (haystack_of (holds_in is_word p.line_terminator s) (from_place_on s e))) (omega arith) w

  from_whole : {e j q : ℕ} {n : Notes} {cs : List ℕ} {t : Outcome Notes} → s.start ≤ e → begins_from s e j → Walk m [] n q j cs t → Walk (m_from e) [] n q j cs t
  from_whole {e = e} {j = j} within b w = walk_same j (λ i q from. moves_same e j (low_whole within b) (low_at b) i q from) (λ i q n. refl)
      (characters_forward put_note member p.nodes (haystack_of (holds_in is_word p.line_terminator s) s)) (omega arith) w

  -- a start counts exactly if a match may begin there and its node leads
  pub starts_count : (q i : ℕ) → ((t : Outcome Notes) × Counts m fresh_notes s q i t) ↔ (MayBegin s i × LeadsToMatch m q i)
  starts_count q i = (
    (λ one. (begins at_whole one.1, walk_leads_to one.1.least.walk)),
    (λ both. by_least both.0 both.1 (characters_least put_note member p.nodes h (fresh_notes i) q i)),
  )
    where
      h : Haystack Look
      h = haystack_of (holds_in is_word p.line_terminator s) s

      at_whole : (i j q r : ℕ) → m.move i q ≡ reads r j → IsCharBoundary s.content i
      at_whole i j q r e = reads_whole put_note member p.nodes (haystack_of (holds_in is_word p.line_terminator s) s) i j q r e

      by_least : MayBegin s i → LeadsToMatch m q i → LeastOrNone m [] (fresh_notes i) q i → (t : Outcome Notes) × Counts m fresh_notes s q i t
      by_least b leads (inl one) = (one.0, record { possible = b.0; least = one.1; may_end = inr b.1 })
      by_least b leads (inr never) = absurd (leads_walk number_told leads never)

  -- a machine whose walks from a node are those of the program, and which keeps something in place
  -- of notes
  module _ {B N : Type 0} (kept : Notes → N) (bytes : Machine B N) (q : ℕ) (qb : B) (starts : start_node p s.anchoring ≡ Some q) (told : IsDecidable B) (leads : (i : ℕ) → LeadsToMatch m q i → LeadsToMatch bytes qb i)
      (least : (i : ℕ) (t : Outcome N) → IsLeast bytes [] (kept (fresh_notes i)) qb i t → (t' : Outcome Notes) × (noted_by kept t' ≡ t) × IsLeast m [] (fresh_notes i) q i t') where
    abbrev Found : ℕ → Option (Outcome Notes) → Type 0
    Found e out = ProgramFinds member is_word p (from_place_on s e) out

    abbrev repeated : RepeatedFinds (Outcome Notes)
    repeated = finds_on (ProgramFinds member is_word p) s

    finds_here : {e : ℕ} {out : Option (Outcome Notes)} → FindsFrom (m_from e) (begins_from s e) fresh_notes q e out → Found e out
    finds_here {e = e} {out = out} finds = subst (λ o. IfStarts o (IsFind (m_from e) fresh_notes (from_place_on s e)) out) (sym starts)
        (find_from_finds (λ i j q r e'. reads_whole put_note member p.nodes (haystack_of (holds_in is_word p.line_terminator s) (from_place_on s e)) i j q r e') finds)

    no_walk : {e j : ℕ} → s.start ≤ e → begins_from s e j → (LeadsToMatch bytes qb j → ⊥) → HasNoWalk (m_from e) [] (fresh_notes j) q j
    no_walk {j = j} within b never cs t w = never (leads j (walk_leads_to (to_whole within b w)))

    none_from : (e : ℕ) → s.start ≤ e → ((j : ℕ) → e ≤ j → begins_from s e j → LeadsToMatch bytes qb j → ⊥) → Found e None
    none_from e within never = finds_here (nowhere (λ j from b. no_walk within b (never j from b)))

    some_from : (e j : ℕ) (t : Outcome N) → s.start ≤ e → e ≤ j → begins_from s e j → Follows bytes j [] ((kept (fresh_notes j), qb) ∷ []) (Some t)
        → ((k : ℕ) → e ≤ k → k < j → begins_from s e k → LeadsToMatch bytes qb k → ⊥) → Own (noted_by kept) repeated j t (λ a. Found e (Some a))
    some_from e j t within from b follows before =
        let own = least j t (followed_is_least told follows) in
        let h = haystack_of (holds_in is_word p.line_terminator s) s in
        let ends_there : own.0.end ≡ t.end = ap (λ x. x.end) own.1 in record {
          one = own.0;
          is = own.1;
          first_is = keeps_start (first_by member) p.nodes h own.2.walk;
          last_is = ends_there;
          on = subst (λ x. j ≤ x) ends_there (on_from (characters_forward put_note member p.nodes h) own.2.walk);
          has = finds_here (found j from b
              (record { choices = own.2.choices; walk = from_whole within b own.2.walk; least = λ ds u w. own.2.least ds u (to_whole within b w) })
              (λ k on below b'. no_walk within b' (before k on below b')));
        }

    pub program_listing : (ms : List (Outcome N)) → Listing bytes (begins_from s) (λ i. kept (fresh_notes i)) qb false s.start s.start ms
        → (own : List (Outcome Notes)) × (map (noted_by kept) own ≡ ms) × ProgramMatches member is_word p s own
    program_listing ms lists = listing_matches bytes (begins_from s) (λ i. kept (fresh_notes i)) qb repeated (noted_by kept) s.start none_from some_from (omega arith) (omega arith)
        (λ j from below b leads'. omega (arith, from, below)) lists

  same_kept : (own : List (Outcome Notes)) → map (noted_by (λ n. n)) own ≡ own
  same_kept [] = refl
  same_kept (t ∷ own) = ap (λ xs. t ∷ xs) (same_kept own)

  pub listings_are_matches : (q : ℕ) (ms : List (Outcome Notes)) → start_node p s.anchoring ≡ Some q → Listing m (begins_from s) fresh_notes q false s.start s.start ms → ProgramMatches member is_word p s ms
  listings_are_matches q ms starts lists =
      let on = program_listing (λ n. n) m q q starts number_told (λ i leads. leads) (λ i t one. (t, refl, one)) ms lists in
      subst (λ xs. ProgramMatches member is_word p s xs) (sym (same_kept on.0) ∙ on.1) on.2

  pub byte_listings_are_matches : {N : Type 0} (keeping : Keeping N) (step : ℕ → Automaton) → ReadsMembers (first_by member) step p.nodes → (q : ℕ) (ms : List (Outcome N)) → start_node p s.anchoring ≡ Some q
      → Listing (over_bytes keeping.put step p.nodes (haystack_of (holds_in is_word p.line_terminator s) s)) (begins_from s) (λ i. keeping.kept (fresh_notes i)) (q, 0) false s.start s.start ms
      → (own : List (Outcome Notes)) × (map (noted_by keeping.kept) own ≡ ms) × ProgramMatches member is_word p s own
  byte_listings_are_matches {N} keeping step members q ms starts lists =
      program_listing keeping.kept (over_bytes keeping.put step p.nodes h) q (q, 0) starts pair_told leads_too least_too ms lists
    where
      h : Haystack Look
      h = haystack_of (holds_in is_word p.line_terminator s) s

      notes : HasNotes m (over_characters keeping.put (first_by member) p.nodes h) keeping.kept
      notes = keeps_notes keeping (first_by member) p.nodes h

      refines : Refines (over_characters keeping.put (first_by member) p.nodes h) (over_bytes keeping.put step p.nodes h) (λ q. (q, 0))
      refines = bytes_refine keeping.put (first_by member) step p.nodes h members

      leads_too : (i : ℕ) → LeadsToMatch m q i → LeadsToMatch (over_bytes keeping.put step p.nodes h) (q, 0) i
      leads_too i leads = let on = path_has_walk number_told leads.path (fresh_notes i) in walk_leads_to (refined refines (renoted_by notes on.walk))

      least_too : (i : ℕ) (t : Outcome N) → IsLeast (over_bytes keeping.put step p.nodes h) [] (keeping.kept (fresh_notes i)) (q, 0) i t → (t' : Outcome Notes) × (noted_by keeping.kept t' ≡ t) × IsLeast m [] (fresh_notes i) q i t'
      least_too i t one =
          let whole : IsLeast (over_characters keeping.put (first_by member) p.nodes h) [] (keeping.kept (fresh_notes i)) q i t = (least_refined refines).1 one in
          let back = noted_back (fresh_notes i) notes whole.walk in (
            back.0,
            same_walk (renoted_by notes back.1) whole.walk,
            record { choices = whole.choices; walk = back.1; least = λ ds u w. whole.least ds _ (renoted_by notes w) },
          )
