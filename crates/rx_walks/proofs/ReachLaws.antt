-- The threads of a search are at all nodes that walks reach.
use Rattle.std.proofs.Common.{◌≡◌, ℕ, zero, suc, ◌+◌, ◌⊎◌, ◌↔◌, List, [], ◌∷◌, ◌++◌, map, Some, slice_get, Contains, refl, ap, subst, arith, inl, inr}
use Rattle.rx_walks.specs.Machines.{Machine, goes, reads}
use Rattle.rx_walks.specs.StepsAll.{StepsAll, done, passed, met, opened, read}
use Rattle.rx_walks.proofs.WalkLaws.{Contains-head, Contains-tail, Contains-cases, none_seen, ends_not_goes, ends_not_reads, goes_not_reads, same_open, same_read, same_some}
use Rattle.rx_walks.specs.Reached.{Comes, at_once, on_edge, on_read, Reached, ReadTo, IsInClosure, among, onward, ThreadStandsAt}
use Rattle.rx_walks.specs.LeadLaws.{IsStepped}

stands_first : {Q : Type 0} (threads : List (ℕ × Q)) (s : ℕ) (q : Q) → ThreadStandsAt ((s, q) ∷ threads) q
stands_first threads s q = (s, Contains-head threads (s, q) (s, q) refl)

stands_other : {Q : Type 0} (threads : List (ℕ × Q)) (x : ℕ × Q) (q : Q) → ThreadStandsAt threads q → ThreadStandsAt (x ∷ threads) q
stands_other threads x q (s, c) = (s, Contains-tail threads x (s, q) c)

stands_cases : {Q : Type 0} (threads : List (ℕ × Q)) (s : ℕ) (r q : Q) → ThreadStandsAt ((s, r) ∷ threads) q → (r ≡ q) ⊎ ThreadStandsAt threads q
stands_cases threads s r q (s', c) = elim (Contains-cases threads (s, r) (s', q) c) [ inl e ↦ inl (ap (λ z. z.1) e) | inr c' ↦ inr (s', c') ]

stands_back : {Q : Type 0} (xs ys : List (ℕ × Q)) (q : Q) → ThreadStandsAt ys q → ThreadStandsAt (xs ++ ys) q
stands_back [] ys q on = on
stands_back (x ∷ xs) ys q on = stands_other (xs ++ ys) x q (stands_back xs ys q on)

stands_front : {Q : Type 0} (s : ℕ) (rs : List Q) (ys : List (ℕ × Q)) (k : ℕ) (q : Q) → slice_get rs k ≡ Some q → ThreadStandsAt (map (λ r. (s, r)) rs ++ ys) q
stands_front s [] ys k q at = absurd (cc at)
stands_front s (r ∷ rs) ys zero q at = subst (λ z. ThreadStandsAt (map (λ r. (s, r)) (r ∷ rs) ++ ys) z) (same_some refl at) (stands_first (map (λ r. (s, r)) rs ++ ys) s r)
stands_front s (r ∷ rs) ys (suc k) q at = stands_other (map (λ r. (s, r)) rs ++ ys) (s, r) q (stands_front s rs ys k q at)

stands_either : {Q : Type 0} (s : ℕ) (rs : List Q) (ys : List (ℕ × Q)) (q : Q) → ThreadStandsAt (map (λ r. (s, r)) rs ++ ys) q → ((k : ℕ) × (slice_get rs k ≡ Some q)) ⊎ ThreadStandsAt ys q
stands_either s [] ys q on = inr on
stands_either s (r ∷ rs) ys q on = elim (stands_cases (map (λ r. (s, r)) rs ++ ys) s r q on) [
  | inl e ↦ inl (0, ap Some e)
  | inr on' ↦ elim (stands_either s rs ys q on') [ inl at ↦ inl (suc at.0, at.1) | inr there ↦ inr there ]
]

module _ {Q N : Type 0} (m : Machine Q N) (i : ℕ) where
  -- a node's move is made: its edges lead to nodes that were entered, and its read is in the next
  -- list
  record IsDone (all : List Q) (next : List (ℕ × Q)) (q : Q) : Type 0 where
    edges : (rs : List Q) (k : ℕ) (r : Q) → m.move i q ≡ goes rs → slice_get rs k ≡ Some r → Contains all r
    reading : (r : Q) → m.move i q ≡ reads r (i + 1) → ThreadStandsAt next r

  -- all nodes entered in a step, with those before
  record Entered (seen : List Q) (threads next : List (ℕ × Q)) : Type 0 where
    all : List Q
    more : (q : Q) → Contains seen q → Contains all q
    stands : (q : Q) → ThreadStandsAt threads q → Contains all q
    new_done : (q : Q) → Contains all q → Contains seen q ⊎ IsDone all next q
    closed : (q : Q) → Contains all q → Contains seen q ⊎ IsInClosure m i (ThreadStandsAt threads) q
    reading : (r : Q) → ThreadStandsAt next r → (q : Q) × IsInClosure m i (ThreadStandsAt threads) q × (m.move i q ≡ reads r (i + 1))

  wider_closes : {A B : Q → Type 0} → ((q : Q) → A q → IsInClosure m i B q) → {q : Q} → IsInClosure m i A q → IsInClosure m i B q
  wider_closes within (among a) = within _ a
  wider_closes within (onward rs k closes is at) = onward rs k (wider_closes within closes) is at

  others_close : (threads : List (ℕ × Q)) (x : ℕ × Q) {q : Q} → IsInClosure m i (ThreadStandsAt threads) q → IsInClosure m i (ThreadStandsAt (x ∷ threads)) q
  others_close threads x closes = wider_closes (λ q on. among (stands_other threads x q on)) closes

  first_closes : (threads : List (ℕ × Q)) (s : ℕ) (q : Q) → IsInClosure m i (ThreadStandsAt ((s, q) ∷ threads)) q
  first_closes threads s q = among (stands_first threads s q)

  more_next : {all : List Q} {next : List (ℕ × Q)} {q : Q} (x : ℕ × Q) → IsDone all next q → IsDone all (x ∷ next) q
  more_next {next = next} x is = record { edges = is.edges; reading = λ r e. stands_other next x r (is.reading r e) }

  -- with one node entered whose move is made
  one_entered : {seen : List Q} {s : ℕ} {q : Q} {others next : List (ℕ × Q)} (on : Entered (q ∷ seen) others next) → IsDone on.all next q → Entered seen ((s, q) ∷ others) next
  one_entered {seen = seen} {s = s} {q = q} {others = others} {next = next} on is = record {
    all = on.all;
    more = λ x c. on.more x (Contains-tail seen q x c);
    stands = λ x at. elim (stands_cases others s q x at) [ inl e ↦ on.more x (Contains-head seen q x e) | inr at' ↦ on.stands x at' ];
    new_done = λ x c. elim (on.new_done x c) [
      | inl c' ↦ elim (Contains-cases seen q x c') [ inl e ↦ inr (subst (λ z. IsDone on.all next z) e is) | inr c'' ↦ inl c'' ]
      | inr is' ↦ inr is'
    ];
    closed = λ x c. elim (on.closed x c) [
      | inl c' ↦ elim (Contains-cases seen q x c') [ inl e ↦ inr (subst (λ z. IsInClosure m i (ThreadStandsAt ((s, q) ∷ others)) z) e (first_closes others s q)) | inr c'' ↦ inl c'' ]
      | inr closes ↦ inr (others_close others (s, q) closes)
    ];
    reading = λ r at. (let one = on.reading r at in (one.0, others_close others (s, q) one.1, one.2));
  }

  entered : {seen : List Q} {threads next : List (ℕ × Q)} {ms : List (ℕ × ℕ)} → StepsAll m i seen threads next ms → Entered seen threads next
  entered (done {seen = seen}) = record {
    all = seen;
    more = λ q c. c;
    stands = λ q on. absurd (none_seen _ on.1);
    new_done = λ q c. inl c;
    closed = λ q c. inl c;
    reading = λ r on. absurd (none_seen _ on.1);
  }
  entered (passed {seen = seen} {s = s} {q = q} {others = others} c steps) = let on = entered steps in record {
    all = on.all;
    more = on.more;
    stands = λ x at. elim (stands_cases others s q x at) [ inl e ↦ subst (λ z. Contains on.all z) e (on.more q c) | inr at' ↦ on.stands x at' ];
    new_done = on.new_done;
    closed = λ x d. elim (on.closed x d) [ inl c' ↦ inl c' | inr closes ↦ inr (others_close others (s, q) closes) ];
    reading = λ r at. (let one = on.reading r at in (one.0, others_close others (s, q) one.1, one.2));
  }
  entered (met new is steps) = one_entered (entered steps) (record { edges = λ rs k r is' at. absurd (ends_not_goes is is'); reading = λ r is'. absurd (ends_not_reads is is') })
  entered (opened {seen = seen} {s = s} {q = q} {others = others} {next = next} rs new is steps) =
      let on = entered steps in
      let is_done : IsDone on.all next q = record {
        edges = λ rs' k r is' at. on.stands r (stands_front s rs others k r (subst (λ z. slice_get z k ≡ Some r) (same_open is' is) at));
        reading = λ r is'. absurd (goes_not_reads is is');
      } in
      let back : (x : Q) → ThreadStandsAt (map (λ r. (s, r)) rs ++ others) x → IsInClosure m i (ThreadStandsAt ((s, q) ∷ others)) x =
      λ x at. elim (stands_either s rs others x at) [ inl one ↦ onward rs one.0 (first_closes others s q) is one.1 | inr at' ↦ among (stands_other others (s, q) x at') ] in
      record {
        all = on.all;
        more = λ x c. on.more x (Contains-tail seen q x c);
        stands = λ x at. elim (stands_cases others s q x at) [ inl e ↦ on.more x (Contains-head seen q x e) | inr at' ↦ on.stands x (stands_back (map (λ r. (s, r)) rs) others x at') ];
        new_done = λ x c. elim (on.new_done x c) [
          | inl c' ↦ elim (Contains-cases seen q x c') [ inl e ↦ inr (subst (λ z. IsDone on.all next z) e is_done) | inr c'' ↦ inl c'' ]
          | inr is' ↦ inr is'
        ];
        closed = λ x c. elim (on.closed x c) [
          | inl c' ↦ elim (Contains-cases seen q x c') [ inl e ↦ inr (subst (λ z. IsInClosure m i (ThreadStandsAt ((s, q) ∷ others)) z) e (first_closes others s q)) | inr c'' ↦ inl c'' ]
          | inr closes ↦ inr (wider_closes back closes)
        ];
        reading = λ r at. (let one = on.reading r at in (one.0, wider_closes back one.1, one.2));
      }
  entered (read {seen = seen} {s = s} {q = q} {others = others} {next = next} r new is steps) =
      let on = entered steps in
      let is_done : IsDone on.all ((s, r) ∷ next) q = record {
        edges = λ rs' k r' is' at. absurd (goes_not_reads is' is);
        reading = λ r' is'. subst (λ z. ThreadStandsAt ((s, r) ∷ next) z) (same_read is is').0 (stands_first next s r);
      } in
      one_read on is_done
    where
      one_read : (on : Entered (q ∷ seen) others next) → IsDone on.all ((s, r) ∷ next) q → Entered seen ((s, q) ∷ others) ((s, r) ∷ next)
      one_read on is_done = record {
        all = on.all;
        more = λ x c. on.more x (Contains-tail seen q x c);
        stands = λ x at. elim (stands_cases others s q x at) [ inl e ↦ on.more x (Contains-head seen q x e) | inr at' ↦ on.stands x at' ];
        new_done = λ x c. elim (on.new_done x c) [
          | inl c' ↦ elim (Contains-cases seen q x c') [ inl e ↦ inr (subst (λ z. IsDone on.all ((s, r) ∷ next) z) e is_done) | inr c'' ↦ inl c'' ]
          | inr is' ↦ inr (more_next (s, r) is')
        ];
        closed = λ x c. elim (on.closed x c) [
          | inl c' ↦ elim (Contains-cases seen q x c') [ inl e ↦ inr (subst (λ z. IsInClosure m i (ThreadStandsAt ((s, q) ∷ others)) z) e (first_closes others s q)) | inr c'' ↦ inl c'' ]
          | inr closes ↦ inr (others_close others (s, q) closes)
        ];
        reading = λ r' at. elim (stands_cases next s r r' at) [
          | inl e ↦ (q, first_closes others s q, subst (λ z. m.move i q ≡ reads z (i + 1)) e is)
          | inr at' ↦ (let one = on.reading r' at' in (one.0, others_close others (s, q) one.1, one.2))
        ];
      }

  -- if none was seen before, the nodes entered are those to which epsilon transitions lead
  all_close : {threads next : List (ℕ × Q)} (on : Entered [] threads next) {q : Q} → IsInClosure m i (ThreadStandsAt threads) q → Contains on.all q
  all_close on (among at) = on.stands _ at
  all_close on (onward {q = q} {r = r} rs k closes is at) = elim (on.new_done q (all_close on closes)) [ inl c ↦ absurd (none_seen q c) | inr is' ↦ is'.edges rs k r is at ]

  pub next_holds : {threads next : List (ℕ × Q)} {ms : List (ℕ × ℕ)} → StepsAll m i [] threads next ms → (r : Q) → ThreadStandsAt next r ↔ ((q : Q) × IsInClosure m i (ThreadStandsAt threads) q × (m.move i q ≡ reads r (i + 1)))
  next_holds steps r = let on = entered steps in (
    (λ at. on.reading r at),
    (λ one. elim (on.new_done one.0 (all_close on one.1)) [ inl c ↦ absurd (none_seen one.0 c) | inr is ↦ is.reading r one.2 ]),
  )

module _ {Q N : Type 0} (m : Machine Q N) (start : Q) (i : ℕ) (live : List (ℕ × Q)) (same : (q : Q) → ThreadStandsAt live q ↔ ReadTo m start i q) where
  abbrev threads : List (ℕ × Q)
  threads = live ++ (i, start) ∷ []

  in_front : (xs ys : List (ℕ × Q)) (q : Q) → ThreadStandsAt xs q → ThreadStandsAt (xs ++ ys) q
  in_front [] ys q on = absurd (none_seen _ on.1)
  in_front ((s, r) ∷ xs) ys q on = elim (stands_cases xs s r q on) [
    | inl e ↦ subst (λ z. ThreadStandsAt ((s, r) ∷ (xs ++ ys)) z) e (stands_first (xs ++ ys) s r)
    | inr on' ↦ stands_other (xs ++ ys) (s, r) q (in_front xs ys q on')
  ]

  in_one : (xs ys : List (ℕ × Q)) (q : Q) → ThreadStandsAt (xs ++ ys) q → ThreadStandsAt xs q ⊎ ThreadStandsAt ys q
  in_one [] ys q on = inr on
  in_one ((s, r) ∷ xs) ys q on = elim (stands_cases (xs ++ ys) s r q on) [
    | inl e ↦ inl (subst (λ z. ThreadStandsAt ((s, r) ∷ xs) z) e (stands_first xs s r))
    | inr on' ↦ elim (in_one xs ys q on') [ inl at ↦ inl (stands_other xs (s, r) q at) | inr at ↦ inr at ]
  ]

  reached_closes : {e j : ℕ} {q : Q} → Comes m start e q j → j ≡ i → IsInClosure m i (ThreadStandsAt threads) q
  reached_closes at_once e = among (stands_back live ((i, start) ∷ []) start (stands_first [] i start))
  reached_closes (on_edge {r = r} {j = j} rs t k before is at) e = onward rs k (reached_closes before e) (subst (λ z. m.move z r ≡ goes rs) e is) at
  reached_closes {e = from} (on_read {r = r} {j = j} t k before is) e =
      among (in_front live ((i, start) ∷ []) t ((same t).1 (record { before = r; place = j; reached = record { from = from; comes = before }; reading = subst (λ z. m.move j r ≡ reads t z) e is })))

  read_reached : {q : Q} → ReadTo m start i q → Reached m start i q
  read_reached {q = q} one = record { from = one.reached.from; comes = on_read q i one.reached.comes one.reading }

  closes_reached : {q : Q} → IsInClosure m i (ThreadStandsAt threads) q → Reached m start i q
  closes_reached {q = q} (among at) = elim (in_one live ((i, start) ∷ []) q at) [
    | inl on ↦ read_reached ((same q).0 on)
    | inr on ↦ elim (stands_cases [] i start q on) [ inl e ↦ record { from = i; comes = subst (λ z. Comes m start i z i) e at_once } | inr on' ↦ absurd (none_seen _ on'.1) ]
  ]
  closes_reached (onward {r = r} rs k closes is at) = let one = closes_reached closes in record { from = one.from; comes = on_edge rs r k one.comes is at }

  pub reached_here : (q : Q) → Reached m start i q ↔ IsInClosure m i (ThreadStandsAt threads) q
  reached_here q = ((λ one. reached_closes one.comes refl), (λ closes. closes_reached closes))

  pub next_read : IsStepped m → {next : List (ℕ × Q)} {ms : List (ℕ × ℕ)} → StepsAll m i [] threads next ms → (r : Q) → ThreadStandsAt next r ↔ ReadTo m start (i + 1) r
  next_read stepped steps r = (
    (λ at. let one = (next_holds m i steps r).0 at in record { before = one.0; place = i; reached = closes_reached one.1; reading = one.2 }),
    (λ one. let here : one.place ≡ i = omega (arith, stepped one.place (i + 1) one.before r one.reading) in
        (next_holds m i steps r).1 (one.before, reached_closes one.reached.comes here, subst (λ z. m.move z one.before ≡ reads r (i + 1)) here one.reading)),
  )
