-- A search that computes finds, for worked examples.
use Rattle.std.proofs.Common.{◌≡◌, ℕ, zero, suc, ◌+◌, ◌-◌, ◌<◌, ◌≤◌, Bool, true, false, not, IsTrue, ◌&&◌, ◌||◌, ◌==◌, nat_le, List, [], ◌∷◌, ◌++◌, map, length, Option, Some, None, Contains, slice_index, refl, sym, ap, ap₂, subst, ◌∙◌, arith, inl, inr}
use Rattle.std.proofs.lemmas.Bool.{eqb-true, eq-eqb, leb-true, le-leb}
use Rattle.std.proofs.lemmas.Bool.Decides.{leb_tells}
use Rattle.std.specs.Str.{IsCharBoundary}
use Rattle.rx_walks.specs.Machines.{Move, ends, goes, reads, Machine, Outcome}
use Rattle.rx_walks.specs.Walks.{IsNew}
use Rattle.rx_walks.specs.Looks.{Look}
use Rattle.rx_walks.specs.Finds.{Search, PatternMatch, is_anchored, IsFind, IsFindAll}
use Rattle.rx_walks.specs.Programs.{Program, Notes, fresh_notes, put_note}
use Rattle.rx_walks.specs.ProgramFinds.{start_node, machine_of, haystack_of, holds_in, IfStarts, ProgramFinds, ProgramFindsAll}
use Rattle.rx_walks.specs.Steps.{Steps, done, passed, met, opened, read, either, Searches, over, started, stepped}
use Rattle.rx_walks.specs.StepsAll.{SearchesAll}
use Rattle.rx_walks.specs.Laws.{MayBegin}
use Rattle.rx_walks.proofs.WalkLaws.{none_seen, Contains-cases, Contains-head, Contains-tail, thins_none, same_some}
use Rattle.rx_walks.proofs.CharacterLaws.{both}
use Rattle.rx_walks.proofs.SearchLaws.{search_finds}
use Rattle.rx_walks.proofs.FindLaws.{find_from_finds}
use Rattle.rx_walks.proofs.AllSearchLaws.{search_finds_all}
use Rattle.rx_walks.proofs.AllFindLaws.{find_all_from_finds}
use Rattle.rx_walks.proofs.ForwardLaws.{characters_forward, number_told}
use Rattle.rx_walks.proofs.WholeLaws.{reads_whole}

abbrev is_seen : List ℕ → ℕ → Bool
is_seen [] q = false
is_seen (x ∷ seen) q = x == q || is_seen seen q

is_seen_true : (seen : List ℕ) (q : ℕ) → is_seen seen q ≡ true → Contains seen q
is_seen_true [] q e = absurd (cc e)
is_seen_true (x ∷ seen) q e = by_head (λ e'. is_seen_true seen q e') (x == q) refl e
  where
    by_head : (is_seen seen q ≡ true → Contains seen q) → (c : Bool) → (x == q) ≡ c → (c || is_seen seen q) ≡ true → Contains (x ∷ seen) q
    by_head rest true is e = Contains-head seen x q (eqb-true x q is)
    by_head rest false is e = Contains-tail seen x q (rest e)

pub is_seen_false : (seen : List ℕ) (q : ℕ) → is_seen seen q ≡ false → IsNew seen q
is_seen_false [] q e = none_seen q
is_seen_false (x ∷ seen) q e = by_head (λ e'. is_seen_false seen q e') (x == q) refl e
  where
    by_head : (is_seen seen q ≡ false → IsNew seen q) → (c : Bool) → (x == q) ≡ c → (c || is_seen seen q) ≡ false → IsNew (x ∷ seen) q
    by_head rest true is e = absurd (cc e)
    by_head rest false is e = λ c. elim (Contains-cases seen x q c) [ inl same ↦ cc (sym is ∙ eq-eqb x q same) | inr c' ↦ rest e c' ]

-- a step, if this many turns are enough
abbrev Stepped : Type 0 → Type 0
Stepped N = Option (List (N × ℕ) × Option (Outcome N))

abbrev put_out : {N : Type 0} → N × ℕ → Stepped N → Stepped N
put_out thread None = None
put_out thread (Some x) = Some (thread ∷ x.0, x.1)

abbrev step : {N : Type 0} → Machine ℕ N → ℕ → ℕ → List ℕ → List (N × ℕ) → Stepped N
step m i zero seen threads = None
step m i (suc turns) seen [] = Some ([], None)
step m i (suc turns) seen (t ∷ others) = elim (is_seen seen t.1) [
  | true ↦ step m i turns seen others
  | false ↦ elim (m.move i t.1) [
    | ends p ↦ Some ([], Some (record { pattern = p; end = i; notes = t.0 }))
    | goes rs ↦ step m i turns (t.1 ∷ seen) (map (λ r. (m.note i t.1 t.0, r)) rs ++ others)
    | reads r j ↦ elim (j == i + 1) [ true ↦ put_out (t.0, r) (step m i turns (t.1 ∷ seen) others) | false ↦ None ]
  ]
]

abbrev StepGives : {N : Type 0} → Machine ℕ N → ℕ → ℕ → Type 0
StepGives {N} m i turns = (seen : List ℕ) (threads : List (N × ℕ)) (out : List (N × ℕ) × Option (Outcome N)) → step m i turns seen threads ≡ Some out → Steps m i seen threads out.0 out.1

step_gives : {N : Type 0} (m : Machine ℕ N) (i turns : ℕ) (seen : List ℕ) (threads : List (N × ℕ)) (out : List (N × ℕ) × Option (Outcome N)) → step m i turns seen threads ≡ Some out → Steps m i seen threads out.0 out.1
step_gives m i zero seen threads out e = absurd (cc e)
step_gives {N = N} m i (suc turns) seen [] out e = let same = same_some refl e in subst (λ x. Steps m i seen [] x.0 x.1) same done
step_gives {N = N} m i (suc turns) seen ((n, q) ∷ others) out e = by_seen (λ seen' threads' out' e'. step_gives m i turns seen' threads' out' e') (is_seen seen q) refl e
  where
    by_read : StepGives m i turns → (r : ℕ) → IsNew seen q → m.move i q ≡ reads r (i + 1) → (x : Stepped N) → step m i turns (q ∷ seen) others ≡ x → put_out (n, r) x ≡ Some out → Steps m i seen ((n, q) ∷ others) out.0 out.1
    by_read again r new is None e' e = absurd (cc e)
    by_read again r new is (Some x) e' e = let same = same_some refl e in
        subst (λ y. Steps m i seen ((n, q) ∷ others) y.0 y.1) same (read r new is (again (q ∷ seen) others x e'))

    by_place : StepGives m i turns → (r j : ℕ) → IsNew seen q → m.move i q ≡ reads r j → (b : Bool) → (j == i + 1) ≡ b
        → elim b [ true ↦ put_out (n, r) (step m i turns (q ∷ seen) others) | false ↦ None ] ≡ Some out → Steps m i seen ((n, q) ∷ others) out.0 out.1
    by_place again r j new is false at e = absurd (cc e)
    by_place again r j new is true at e = by_read again r new (is ∙ ap (reads r) (eqb-true j (i + 1) at)) (step m i turns (q ∷ seen) others) refl e

    by_move : StepGives m i turns → (x : Move ℕ) → IsNew seen q → m.move i q ≡ x → elim x [
      | ends p ↦ Some ([], Some (record { pattern = p; end = i; notes = n }))
      | goes rs ↦ step m i turns (q ∷ seen) (map (λ r. (m.note i q n, r)) rs ++ others)
      | reads r j ↦ elim (j == i + 1) [ true ↦ put_out (n, r) (step m i turns (q ∷ seen) others) | false ↦ None ]
    ] ≡ Some out → Steps m i seen ((n, q) ∷ others) out.0 out.1
    by_move again (ends p) new is e = subst (λ y. Steps m i seen ((n, q) ∷ others) y.0 y.1) (same_some refl e) (met new is)
    by_move again (goes rs) new is e = opened rs new is (again (q ∷ seen) (map (λ r. (m.note i q n, r)) rs ++ others) out e)
    by_move again (reads r j) new is e = by_place again r j new is (j == i + 1) refl e

    by_seen : StepGives m i turns → (b : Bool) → is_seen seen q ≡ b → elim b [
      | true ↦ step m i turns seen others
      | false ↦ elim (m.move i q) [
        | ends p ↦ Some ([], Some (record { pattern = p; end = i; notes = n }))
        | goes rs ↦ step m i turns (q ∷ seen) (map (λ r. (m.note i q n, r)) rs ++ others)
        | reads r j ↦ elim (j == i + 1) [ true ↦ put_out (n, r) (step m i turns (q ∷ seen) others) | false ↦ None ]
      ]
    ] ≡ Some out → Steps m i seen ((n, q) ∷ others) out.0 out.1
    by_seen again true is e = passed (is_seen_true seen q is) (again seen others out e)
    by_seen again false is e = by_move again (m.move i q) (is_seen_false seen q is) refl e

-- the search loop over a number of offsets, with a number of turns for each step
abbrev places_on : {N : Type 0} → Machine ℕ N → ℕ → (ℕ → Bool) → (ℕ → N) → ℕ → ℕ → ℕ → List (N × ℕ) → Option (Outcome N) → Option (Option (Outcome N))
places_on m turns begins fresh q zero i [] last_met = Some last_met
places_on m turns begins fresh q zero i (t ∷ live) last_met = None
places_on m turns begins fresh q (suc places) i live (Some t) = elim (step m i turns [] live) [
  | None ↦ None
  | Some x ↦ places_on m turns begins fresh q places (i + 1) x.0 (either x.1 (Some t))
]
places_on m turns begins fresh q (suc places) i live None = elim (begins i) [
  | true ↦ elim (step m i turns [] (live ++ (fresh i, q) ∷ [])) [ None ↦ None | Some x ↦ places_on m turns begins fresh q places (i + 1) x.0 x.1 ]
  | false ↦ elim (step m i turns [] live) [ None ↦ None | Some x ↦ places_on m turns begins fresh q places (i + 1) x.0 (either x.1 None) ]
]

-- a test of where a match may begin
pub record Tells (test : ℕ → Bool) (begins : ℕ → Type 0) (past : ℕ) : Type 0 where
  pub yes : (i : ℕ) → test i ≡ true → begins i
  pub no_others : (i : ℕ) → test i ≡ false → begins i → ⊥
  pub below : (i : ℕ) → begins i → i < past

places_search : {N : Type 0} (m : Machine ℕ N) (turns : ℕ) (test : ℕ → Bool) (begins : ℕ → Type 0) (past : ℕ) (fresh : ℕ → N) (q places i : ℕ) (live : List (N × ℕ)) (met' out : Option (Outcome N))
    → Tells test begins past → past ≤ i + places → places_on m turns test fresh q places i live met' ≡ Some out → Searches m begins fresh q i live met' out
places_search m turns test begins past fresh q zero i [] met' out tells far e =
    subst (λ x. Searches m begins fresh q i [] met' x) (same_some refl e) (over (λ none j from b. absurd (omega (arith, far, from, tells.below j b))))
places_search m turns test begins past fresh q zero i (t ∷ live) met' out tells far e = absurd (cc e)
places_search {N = N} m turns test begins past fresh q (suc places) i live (Some t) out tells far e = by_step (λ live met' out far e. places_search m turns test begins past fresh q places (i + 1) live met' out tells far e) (step m i turns [] live) refl e
  where
    by_step : ((live : List (N × ℕ)) (met' out : Option (Outcome N)) → past ≤ i + 1 + places → places_on m turns test fresh q places (i + 1) live met' ≡ Some out → Searches m begins fresh q (i + 1) live met' out) → (x : Stepped N) → step m i turns [] live ≡ x → elim x [ None ↦ None | Some x ↦ places_on m turns test fresh q places (i + 1) x.0 (either x.1 (Some t)) ] ≡ Some out
        → Searches m begins fresh q i live (Some t) out
    by_step again None is e = absurd (cc e)
    by_step again (Some x) is e = stepped (λ none b. cc none) (step_gives m i turns [] live x is) (thins_none [] x.0)
        (again x.0 (either x.1 (Some t)) out (omega (arith, far)) e)
places_search {N = N} m turns test begins past fresh q (suc places) i live None out tells far e = by_test (λ live met' out far e. places_search m turns test begins past fresh q places (i + 1) live met' out tells far e) (test i) refl e
  where
    by_start : ((live : List (N × ℕ)) (met' out : Option (Outcome N)) → past ≤ i + 1 + places → places_on m turns test fresh q places (i + 1) live met' ≡ Some out → Searches m begins fresh q (i + 1) live met' out) → begins i → (x : Stepped N) → step m i turns [] (live ++ (fresh i, q) ∷ []) ≡ x → elim x [ None ↦ None | Some x ↦ places_on m turns test fresh q places (i + 1) x.0 x.1 ] ≡ Some out
        → Searches m begins fresh q i live None out
    by_start again b None is e = absurd (cc e)
    by_start again b (Some x) is e = started b (step_gives m i turns [] (live ++ (fresh i, q) ∷ []) x is) (thins_none [] x.0)
        (again x.0 x.1 out (omega (arith, far)) e)

    by_step : ((live : List (N × ℕ)) (met' out : Option (Outcome N)) → past ≤ i + 1 + places → places_on m turns test fresh q places (i + 1) live met' ≡ Some out → Searches m begins fresh q (i + 1) live met' out) → (begins i → ⊥) → (x : Stepped N) → step m i turns [] live ≡ x → elim x [ None ↦ None | Some x ↦ places_on m turns test fresh q places (i + 1) x.0 (either x.1 None) ] ≡ Some out
        → Searches m begins fresh q i live None out
    by_step again held None is e = absurd (cc e)
    by_step again held (Some x) is e = stepped (λ none b. held b) (step_gives m i turns [] live x is) (thins_none [] x.0)
        (again x.0 (either x.1 None) out (omega (arith, far)) e)

    by_test : ((live : List (N × ℕ)) (met' out : Option (Outcome N)) → past ≤ i + 1 + places → places_on m turns test fresh q places (i + 1) live met' ≡ Some out → Searches m begins fresh q (i + 1) live met' out) → (b : Bool) → test i ≡ b → elim b [
      | true ↦ elim (step m i turns [] (live ++ (fresh i, q) ∷ [])) [ None ↦ None | Some x ↦ places_on m turns test fresh q places (i + 1) x.0 x.1 ]
      | false ↦ elim (step m i turns [] live) [ None ↦ None | Some x ↦ places_on m turns test fresh q places (i + 1) x.0 (either x.1 None) ]
    ] ≡ Some out → Searches m begins fresh q i live None out
    by_test again true is e = by_start again (tells.yes i is) (step m i turns [] (live ++ (fresh i, q) ∷ [])) refl e
    by_test again false is e = by_step again (tells.no_others i is) (step m i turns [] live) refl e

-- where a match may begin, as a test
abbrev may_be_cut : List ℕ → ℕ → Bool
may_be_cut content i = nat_le (length content) i || (nat_le (suc (slice_index content i)) 128 || nat_le 192 (slice_index content i))

abbrev begins_at : Search → ℕ → Bool
begins_at s i = nat_le s.slice_start i && (nat_le i s.slice_end && (nat_le s.start i && (nat_le i s.end && (nat_le i (length s.content)
    && ((not (is_anchored s.anchoring) || i == s.start) && (not s.utf8_empty || may_be_cut s.content i))))))

if_true : (a b : Bool) → (not a || b) ≡ true → IsTrue a → b ≡ true
if_true true b e on = e
if_true false b e on = absurd (cc on)

true_if : (a b : Bool) → (IsTrue a → b ≡ true) → (not a || b) ≡ true
true_if true b on = on refl
true_if false b on = refl

or_left : (a b : Bool) → a ≡ true → (a || b) ≡ true
or_left a b e = ap (λ x. x || b) e

or_right : (a b : Bool) → b ≡ true → (a || b) ≡ true
or_right true b e = refl
or_right false b e = e

may_be_cut_true : (content : List ℕ) (i : ℕ) → i ≤ length content → may_be_cut content i ≡ true → IsCharBoundary content i
may_be_cut_true content i within e = (within, λ below high. by_end below high (nat_le (length content) i) refl e)
  where
    by_low : i < length content → 128 ≤ slice_index content i → (b : Bool) → nat_le (suc (slice_index content i)) 128 ≡ b → (b || nat_le 192 (slice_index content i)) ≡ true → 192 ≤ slice_index content i
    by_low below high true is e = absurd (omega (arith, high, leb-true _ _ is))
    by_low below high false is e = leb-true 192 (slice_index content i) e

    by_end : i < length content → 128 ≤ slice_index content i → (b : Bool) → nat_le (length content) i ≡ b
        → (b || (nat_le (suc (slice_index content i)) 128 || nat_le 192 (slice_index content i))) ≡ true → 192 ≤ slice_index content i
    by_end below high true is e = absurd (omega (arith, below, leb-true _ _ is))
    by_end below high false is e = by_low below high (nat_le (suc (slice_index content i)) 128) refl e

true_may_be_cut : (content : List ℕ) (i : ℕ) → IsCharBoundary content i → may_be_cut content i ≡ true
true_may_be_cut content i at =
    let b = slice_index content i in
    elim (leb_tells (length content) i) [
      | inl at_end ↦ or_left (nat_le (length content) i) (nat_le (suc b) 128 || nat_le 192 b) at_end.0
      | inr below ↦ or_right (nat_le (length content) i) (nat_le (suc b) 128 || nat_le 192 b) (elim (leb_tells (suc b) 128) [
        | inl low ↦ or_left (nat_le (suc b) 128) (nat_le 192 b) low.0
        | inr high ↦ or_right (nat_le (suc b) 128) (nat_le 192 b) (le-leb 192 b (at.1 (omega (arith, below.1)) (omega (arith, high.1))))
      ])
    ]

pub begins_at_true : (s : Search) (i : ℕ) → begins_at s i ≡ true → MayBegin s i
begins_at_true s i e =
    let a = both (nat_le s.slice_start i) _ e in
    let b = both (nat_le i s.slice_end) _ a.1 in
    let c = both (nat_le s.start i) _ b.1 in
    let d = both (nat_le i s.end) _ c.1 in
    let f = both (nat_le i (length s.content)) _ d.1 in
    let g = both (not (is_anchored s.anchoring) || i == s.start) _ f.1 in
    let within = leb-true i (length s.content) f.0 in (
      ((leb-true _ _ a.0, leb-true _ _ b.0, leb-true _ _ c.0, leb-true _ _ d.0, within), λ on. eqb-true i s.start (if_true (is_anchored s.anchoring) (i == s.start) g.0 on)),
      λ on. may_be_cut_true s.content i within (if_true s.utf8_empty (may_be_cut s.content i) g.1 on),
    )

true_begins_at : (s : Search) (i : ℕ) → MayBegin s i → begins_at s i ≡ true
true_begins_at s i begins = let inside = begins.0.0 in
    ap₂ (λ x y. x && y) (le-leb _ _ inside.0) (
    ap₂ (λ x y. x && y) (le-leb _ _ inside.1) (
    ap₂ (λ x y. x && y) (le-leb _ _ inside.2) (
    ap₂ (λ x y. x && y) (le-leb _ _ inside.3) (
    ap₂ (λ x y. x && y) (le-leb _ _ inside.4) (
    ap₂ (λ x y. x && y) (true_if (is_anchored s.anchoring) (i == s.start) (λ on. eq-eqb i s.start (begins.0.1 on)))
    (true_if s.utf8_empty (may_be_cut s.content i) (λ on. true_may_be_cut s.content i (begins.1 on))))))))

begins_at_tells : (s : Search) → Tells (begins_at s) (MayBegin s) (suc (length s.content))
begins_at_tells s = record {
  yes = λ i e. begins_at_true s i e;
  no_others = λ i e begins. cc (sym e ∙ true_begins_at s i begins);
  below = λ i begins. omega (arith, begins.0.0.4);
}

-- what the loop computes is what the program finds
abbrev pub search_of : {S : Type 0} → (S → ℕ → Bool) → (ℕ → Bool) → Program Look S → Search → ℕ → Option (Option (Outcome Notes))
search_of member is_word p s q = places_on (machine_of member is_word p s) 100 (begins_at s) fresh_notes q (suc (length s.content) - s.start) s.start [] None

pub computed : {S : Type 0} (member : S → ℕ → Bool) (is_word : ℕ → Bool) (p : Program Look S) (s : Search) (q : ℕ) (out : Option (Outcome Notes)) → start_node p s.anchoring ≡ Some q
    → search_of member is_word p s q ≡ Some out → ProgramFinds member is_word p s out
computed member is_word p s q out at e = subst (λ o. IfStarts o (IsFind (machine_of member is_word p s) fresh_notes s) out) (sym at)
    (find_from_finds (reads_whole put_note member p.nodes (haystack_of (holds_in is_word p.line_terminator s) s))
    (search_finds (places_search (machine_of member is_word p s) 100 (begins_at s) (MayBegin s) (suc (length s.content)) fresh_notes q (suc (length s.content) - s.start) s.start [] None out (begins_at_tells s) (omega arith) e)))

-- the loop for all matches finds what the program finds among all
pub found_by_all : {S : Type 0} (member : S → ℕ → Bool) (is_word : ℕ → Bool) (p : Program Look S) (s : Search) (q : ℕ) (out : Option PatternMatch) → start_node p s.anchoring ≡ Some q
    → SearchesAll (machine_of member is_word p s) (MayBegin s) q s.start [] None out → ProgramFindsAll member is_word p s out
found_by_all member is_word p s q out at searches =
    let h = haystack_of (holds_in is_word p.line_terminator s) s in
    subst (λ o. IfStarts o (IsFindAll (machine_of member is_word p s) fresh_notes s) out) (sym at)
    (find_all_from_finds fresh_notes number_told (reads_whole put_note member p.nodes h) (search_finds_all (characters_forward put_note member p.nodes h) number_told (fresh_notes 0) searches))
