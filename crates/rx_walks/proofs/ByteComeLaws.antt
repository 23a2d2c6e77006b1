-- A program over bytes reaches the nodes that the program over characters does.
use Rattle.std.proofs.Common.{◌≡◌, ℕ, zero, suc, ◌+◌, ◌⊎◌, Bool, true, false, List, [], ◌∷◌, map, drop, take, Option, Some, None, option_map, slice_get, refl, sym, ap, subst, ◌∙◌, arith, inl, inr}
use Rattle.rx_walks.specs.Machines.{Move, Machine, goes, reads}
use Rattle.rx_walks.specs.Programs.{Node, match, pass, note, look, set, Haystack, only_if, is_within, left_from, read_up_to, by_character, over_characters}
use Rattle.rx_walks.specs.Bytes.{Automaton, run, read_on, read_byte, by_byte, over_bytes}
use Rattle.rx_walks.specs.Refinements.{Chain, last, more, Agrees, both_end, both_go, both_read, both_fail, Refines}
use Rattle.rx_walks.specs.Laws.{ReadsMembers}
use Rattle.rx_walks.proofs.WalkLaws.{ends_not_goes, ends_not_reads, goes_not_reads, same_open, same_read, same_some}
use Rattle.rx_walks.proofs.ProgramLaws.{bytes_refine}
use Rattle.rx_walks.specs.Reached.{Comes, at_once, on_edge, on_read}
use Rattle.rx_walks.specs.LeadBackLaws.{NoneReturns}

got_in : {C B : Type 0} (f : C → B) (rs : List C) (k : ℕ) (r : C) → slice_get rs k ≡ Some r → slice_get (map f rs) k ≡ Some (f r)
got_in f [] k r at = absurd (cc at)
got_in f (x ∷ rs) zero r at = ap (λ z. Some (f z)) (same_some refl at)
got_in f (x ∷ rs) (suc k) r at = got_in f rs k r at

got_of : {C B : Type 0} (f : C → B) (rs : List C) (k : ℕ) (y : B) → slice_get (map f rs) k ≡ Some y → (r : C) × (slice_get rs k ≡ Some r) × (y ≡ f r)
got_of f [] k y at = absurd (cc at)
got_of f (r ∷ rs) zero y at = (r, refl, sym (same_some refl at))
got_of f (r ∷ rs) (suc k) y at = got_of f rs k y at

tail_of : (i : ℕ) (xs : List ℕ) (b : ℕ) (bs : List ℕ) → drop i xs ≡ b ∷ bs → drop (suc i) xs ≡ bs
tail_of zero [] b bs e = absurd (cc e)
tail_of zero (x ∷ xs) b bs e = cc e
tail_of (suc i) [] b bs e = absurd (cc e)
tail_of (suc i) (x ∷ xs) b bs e = tail_of i xs b bs e

run_last : (step : Automaton) (s b : ℕ) (bs : List ℕ) → step s b ≡ Some None → run step s (b ∷ bs) ≡ Some 1
run_last step s b bs e = ap (λ o. elim o [ None ↦ None | Some None ↦ Some 1 | Some (Some s') ↦ option_map suc (run step s' bs) ]) e

run_on : (step : Automaton) (s b s' k : ℕ) (bs : List ℕ) → step s b ≡ Some (Some s') → run step s' bs ≡ Some k → run step s (b ∷ bs) ≡ Some (suc k)
run_on step s b s' k bs e is = ap (λ o. elim o [ None ↦ None | Some None ↦ Some 1 | Some (Some s') ↦ option_map suc (run step s' bs) ]) e ∙ ap (option_map suc) is

comes_chain : {Q N : Type 0} {m : Machine Q N} {x q r : Q} {i j k : ℕ} → Comes m x i q j → Chain m q j r k → Comes m x i r k
comes_chain before (last {r = r} {j = k} is) = on_read r k before is
comes_chain before (more {r = t} {j = l} is chain) = comes_chain (on_read t l before is) chain

abbrev no_edges : Move (ℕ × ℕ)
no_edges = goes []

no_one : {X : Type 0} {x : X} (rs : List X) (k : ℕ) → rs ≡ [] → slice_get rs k ≡ Some x → ⊥
no_one [] k e at = cc at
no_one (r ∷ rs) k e at = cc e

module _ {L S N : Type 0} (put : ℕ → ℕ → N → N) (first : S → List ℕ → Option ℕ) (step : ℕ → Automaton) (nodes : List (Node L S)) (h : Haystack L) (members : ReadsMembers first step nodes) (never_back : NoneReturns step) where
  abbrev c : Machine ℕ N
  c = over_characters put first nodes h

  abbrev b : Machine (ℕ × ℕ) N
  b = over_bytes put step nodes h

  refines : Refines c b (λ q. (q, 0))
  refines = bytes_refine put first step nodes h members

  pub comes_in : {x i z j : ℕ} → Comes c x i z j → Comes b (x, 0) i (z, 0) j
  comes_in at_once = at_once
  comes_in {x = x} {i = i} (on_edge {r = r} {j = j} rs t k before is at) = by (comes_in before) (refines.agrees j r)
    where
      by : Comes b (x, 0) i (r, 0) j → Agrees c b (λ q. (q, 0)) j r → Comes b (x, 0) i (t, 0) j
      by sofar (both_end is' is'') = absurd (ends_not_goes is' is)
      by sofar (both_go {rs = ss} is' is'') = on_edge (map (λ q. (q, 0)) ss) (t, 0) k sofar is'' (got_in (λ q. (q, 0)) ss k t (subst (λ z. slice_get z k ≡ Some t) (same_open is is') at))
      by sofar (both_read is' chain) = absurd (goes_not_reads is is')
      by sofar (both_fail is' dies) = absurd (no_one rs k (same_open is is') at)
  comes_in {x = x} {i = i} (on_read {r = r} {j = j} t k before is) = by (comes_in before) (refines.agrees j r)
    where
      by : Comes b (x, 0) i (r, 0) j → Agrees c b (λ q. (q, 0)) j r → Comes b (x, 0) i (t, 0) k
      by sofar (both_end is' is'') = absurd (ends_not_reads is' is)
      by sofar (both_go is' is'') = absurd (goes_not_reads is' is)
      by sofar (both_read {r = r'} {j = k'} is' chain) =
          let same = same_read is' is in
          subst (λ z. Comes b (x, 0) i (z, 0) k) same.0 (subst (λ z. Comes b (x, 0) i (r', 0) z) same.1 (comes_chain sofar chain))
      by sofar (both_fail is' dies) = absurd (goes_not_reads is' is)

  -- a read of a byte
  record OneRead (q s j : ℕ) (t : ℕ × ℕ) (j' : ℕ) : Type 0 where
    of : S
    to : ℕ
    byte : ℕ
    bytes : List ℕ
    at : slice_get nodes q ≡ Some (set of to)
    within : is_within h.low h.high j ≡ true
    stands : left_from h j ≡ byte ∷ bytes
    next : j' ≡ j + 1
    does : ((step q s byte ≡ Some None) × (t ≡ (to, 0))) ⊎ ((s' : ℕ) × (step q s byte ≡ Some (Some s')) × (t ≡ (q, s')))

  one_read : (q s j : ℕ) (t : ℕ × ℕ) (j' : ℕ) → b.move j (q, s) ≡ reads t j' → OneRead q s j t j'
  one_read q s j t j' e = by_node (is_within h.low h.high j) refl (slice_get nodes q) refl e
    where
      by_step : (x : S) (r y : ℕ) (ys : List ℕ) → slice_get nodes q ≡ Some (set x r) → is_within h.low h.high j ≡ true → left_from h j ≡ y ∷ ys → (o : Option (Option ℕ)) → step q s y ≡ o → read_on q r j o ≡ reads t j' → OneRead q s j t j'
      by_step x r y ys at within stands None is e = absurd (goes_not_reads refl e)
      by_step x r y ys at within stands (Some None) is e = let same = same_read refl e in
          record { of = x; to = r; byte = y; bytes = ys; at = at; within = within; stands = stands; next = sym same.1; does = inl (is, sym same.0) }
      by_step x r y ys at within stands (Some (Some s')) is e = let same = same_read refl e in
          record { of = x; to = r; byte = y; bytes = ys; at = at; within = within; stands = stands; next = sym same.1; does = inr (s', is, sym same.0) }

      by_bytes : (x : S) (r : ℕ) → slice_get nodes q ≡ Some (set x r) → is_within h.low h.high j ≡ true → (bs : List ℕ) → left_from h j ≡ bs → read_byte (step q) q r s j bs ≡ reads t j' → OneRead q s j t j'
      by_bytes x r at within [] stands e = absurd (goes_not_reads refl e)
      by_bytes x r at within (y ∷ ys) stands e = by_step x r y ys at within stands (step q s y) refl e

      by_look : (w : Bool) (rs : List (ℕ × ℕ)) → only_if w (goes rs) ≡ reads t j' → OneRead q s j t j'
      by_look false rs e = absurd (goes_not_reads refl e)
      by_look true rs e = absurd (goes_not_reads refl e)

      by_node : (w : Bool) → is_within h.low h.high j ≡ w → (o : Option (Node L S)) → slice_get nodes q ≡ o → only_if w (by_byte step h j q s o) ≡ reads t j' → OneRead q s j t j'
      by_node false within o at e = absurd (goes_not_reads refl e)
      by_node true within None at e = absurd (goes_not_reads refl e)
      by_node true within (Some (match k)) at e = absurd (cc e)
      by_node true within (Some (pass rs)) at e = absurd (goes_not_reads refl e)
      by_node true within (Some (note slot r)) at e = absurd (goes_not_reads refl e)
      by_node true within (Some (look l r)) at e = by_look (h.holds l j) ((r, 0) ∷ []) e
      by_node true within (Some (set x r)) at e = by_bytes x r at within (left_from h j) refl e

  -- an epsilon transition
  record OneEdge (q j : ℕ) (t : ℕ × ℕ) : Type 0 where
    rs : List ℕ
    k : ℕ
    to : ℕ
    moves : c.move j q ≡ goes rs
    at : slice_get rs k ≡ Some to
    same : t ≡ (to, 0)
    no_set : (x : S) (r : ℕ) → slice_get nodes q ≡ Some (set x r) → ⊥

  one_edge : (q s j d : ℕ) (t : ℕ × ℕ) (ss : List (ℕ × ℕ)) → b.move j (q, s) ≡ goes ss → slice_get ss d ≡ Some t → OneEdge q j t
  one_edge q s j d t ss e got = by_node (is_within h.low h.high j) refl (slice_get nodes q) refl e
    where
      in_characters : is_within h.low h.high j ≡ true → (o : Option (Node L S)) → slice_get nodes q ≡ o → c.move j q ≡ by_character first h j o
      in_characters within o at = ap (λ w. only_if w (by_character first h j (slice_get nodes q))) within ∙ ap (λ o. by_character first h j o) at

      nothing : {X : Type 0} → no_edges ≡ goes ss → X
      nothing e = absurd (no_one ss d (same_open e refl) got)

      single : (r : ℕ) → c.move j q ≡ goes (r ∷ []) → ((x : S) (r : ℕ) → slice_get nodes q ≡ Some (set x r) → ⊥) → goes ((r, 0) ∷ []) ≡ goes ss → OneEdge q j t
      single r moves no_set e =
          let one = got_of {C = ℕ} (λ q. (q, 0)) (r ∷ []) d t (subst (λ z. slice_get z d ≡ Some t) (sym (same_open refl e)) got) in
          record { rs = r ∷ []; k = d; to = one.0; moves = moves; at = one.1; same = one.2; no_set = no_set }

      by_look : (l : L) (r : ℕ) → slice_get nodes q ≡ Some (look l r) → is_within h.low h.high j ≡ true → (w : Bool) → h.holds l j ≡ w → only_if w (goes ((r, 0) ∷ [])) ≡ goes ss → OneEdge q j t
      by_look l r at within false holds e = nothing e
      by_look l r at within true holds e = single r (in_characters within _ at ∙ ap (λ w. only_if w (goes (r ∷ []))) holds) (λ x r' at'. absurd (cc (at, at'))) e

      by_step : (r : ℕ) (o : Option (Option ℕ)) → read_on q r j o ≡ goes ss → OneEdge q j t
      by_step r None e = nothing e
      by_step r (Some None) e = absurd (goes_not_reads e refl)
      by_step r (Some (Some s')) e = absurd (goes_not_reads e refl)

      by_bytes : (r : ℕ) (bs : List ℕ) → read_byte (step q) q r s j bs ≡ goes ss → OneEdge q j t
      by_bytes r [] e = nothing e
      by_bytes r (y ∷ ys) e = by_step r (step q s y) e

      by_node : (w : Bool) → is_within h.low h.high j ≡ w → (o : Option (Node L S)) → slice_get nodes q ≡ o → only_if w (by_byte step h j q s o) ≡ goes ss → OneEdge q j t
      by_node false within o at e = nothing e
      by_node true within None at e = nothing e
      by_node true within (Some (match k)) at e = absurd (cc e)
      by_node true within (Some (pass rs)) at e =
          let one = got_of {C = ℕ} (λ q. (q, 0)) rs d t (subst (λ z. slice_get z d ≡ Some t) (sym (same_open refl e)) got) in
          record { rs = rs; k = d; to = one.0; moves = in_characters within _ at; at = one.1; same = one.2; no_set = λ x r at'. absurd (cc (at, at')) }
      by_node true within (Some (note slot r)) at e = single r (in_characters within _ at) (λ x r' at'. absurd (cc (at, at'))) e
      by_node true within (Some (look l r)) at e = by_look l r at within (h.holds l j) refl e
      by_node true within (Some (set x r)) at e = by_bytes r (left_from h j) e

  -- where reading bytes has led: a node that characters reach, or inside a character of one
  data Stands (x i q s j : ℕ) : Type 0 where
    whole : s ≡ 0 → Comes c x i q j → Stands x i q s j
    amid : (of : S) (to k went : ℕ) → (s ≡ 0 → ⊥) → Comes c x i q k → is_within h.low h.high k ≡ true → slice_get nodes q ≡ Some (set of to) → k + went ≡ j
        → ((l : ℕ) → run (step q) s (left_from h j) ≡ Some l → run (step q) 0 (left_from h k) ≡ Some (went + l)) → Stands x i q s j

  -- a character is read to its end
  char_read : (x i q k l : ℕ) (of : S) (to : ℕ) → Comes c x i q k → is_within h.low h.high k ≡ true → slice_get nodes q ≡ Some (set of to) → run (step q) 0 (left_from h k) ≡ Some l → Comes c x i to (k + l)
  char_read x i q k l of to comes within at is = on_read to (k + l) comes
      (ap (λ w. only_if w (by_character first h k (slice_get nodes q))) within ∙ ap (λ o. by_character first h k o) at ∙ ap (read_up_to to k) (sym (members q to of at (left_from h k)) ∙ is))

  module _ (x i q s j j' : ℕ) (t : ℕ × ℕ) (one : OneRead q s j t j') where
    rest_stands : left_from h (j + 1) ≡ one.bytes
    rest_stands = let place : j + 1 ≡ suc j = omega arith in ap (left_from h) place ∙ tail_of j (take h.high h.content) one.byte one.bytes one.stands

    -- with the bytes of the character that were read before
    read_more : (of : S) (to k went : ℕ) → Comes c x i q k → is_within h.low h.high k ≡ true → slice_get nodes q ≡ Some (set of to) → k + went ≡ j
        → ((l : ℕ) → run (step q) s (left_from h j) ≡ Some l → run (step q) 0 (left_from h k) ≡ Some (went + l)) → Stands x i t.0 t.1 j'
    read_more of to k went comes within at place tells = elim one.does [
      | inl done ↦
          (let target : to ≡ one.to = cc (at, one.at) in
          let ends_there : k + (went + 1) ≡ j' = omega (arith, place, one.next) in
          let on = char_read x i q k (went + 1) of to comes within at (tells 1 (ap (run (step q) s) one.stands ∙ run_last (step q) s one.byte one.bytes done.0)) in
          subst (λ z. Stands x i z.0 z.1 j') (sym done.1) (whole refl (subst (λ z. Comes c x i z j') target (subst (λ z. Comes c x i to z) ends_there on))))
      | inr further ↦
          (subst (λ z. Stands x i z.0 z.1 j') (sym further.2)
          (amid of to k (went + 1) (λ same. never_back q s one.byte (further.1 ∙ ap (λ z. Some (Some z)) same)) comes within at (omega (arith, place, one.next))
          (λ l is. (let more_of : went + suc l ≡ went + 1 + l = omega arith in
          tells (suc l) (ap (run (step q) s) one.stands ∙ run_on (step q) s one.byte further.0 l one.bytes further.1 (ap (run (step q) further.0) (sym rest_stands ∙ ap (left_from h) (sym one.next)) ∙ is)) ∙ ap Some more_of))))
    ]

    read_on_from : Stands x i q s j → Stands x i t.0 t.1 j'
    read_on_from (whole zero_is comes) = read_more one.of one.to j 0 comes one.within one.at (omega arith) (λ l is. (let same : l ≡ 0 + l = omega arith in subst (λ z. run (step q) z (left_from h j) ≡ Some l) zero_is is ∙ ap Some same))
    read_on_from (amid of to k went other comes within at place tells) = read_more of to k went comes within at place tells

  stands : {x i j : ℕ} {y : ℕ × ℕ} → Comes b (x, 0) i y j → Stands x i y.0 y.1 j
  stands at_once = whole refl at_once
  stands {x = x} {i = i} (on_edge {r = y} {j = j} ss t d before is got) = by_edge (one_edge y.0 y.1 j d t ss is got) (stands before)
    where
      by_edge : OneEdge y.0 j t → Stands x i y.0 y.1 j → Stands x i t.0 t.1 j
      by_edge one (whole zero_is comes) = subst (λ z. Stands x i z.0 z.1 j) (sym one.same) (whole refl (on_edge one.rs one.to one.k comes one.moves one.at))
      by_edge one (amid of to k went other comes within at place tells) = absurd (one.no_set of to at)
  stands {x = x} {i = i} (on_read {r = y} {j = j} t j' before is) = read_on_from x i y.0 y.1 j j' t (one_read y.0 y.1 j t j' is) (stands before)

  pub comes_out : {x i z j : ℕ} → Comes b (x, 0) i (z, 0) j → Comes c x i z j
  comes_out {x = x} {i = i} {z = z} {j = j} comes = by (stands comes)
    where
      by : Stands x i z 0 j → Comes c x i z j
      by (whole zero_is comes') = comes'
      by (amid of to k went other comes' within at place tells) = absurd (other refl)
