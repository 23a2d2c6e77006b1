-- Following the paths from a program's start.
use Rattle.std.proofs.Common.{◌≡◌, ℕ, zero, suc, ◌+◌, ◌-◌, ◌<◌, ◌≤◌, Bool, true, List, [], ◌∷◌, ◌++◌, map, take, drop, get_or, length, Option, Some, None, Result, Ok, Err, OnOk, IfOk, slice_get, refl, sym, ap, subst, ◌∙◌, arith, append_assoc, length-append, length-drop}
use Rattle.std.proofs.Math.Seq.{take-append_seam}
use Rattle.std.specs.Char.{IsScalar, encode_utf8}
use Rattle.std.specs.Option.{ForSome}
use Rattle.std.proofs.lemmas.List.{length-take, get_or-take, take_all}
use Rattle.std.proofs.lemmas.Option.{slice_get_within, get_or_from_slice_get}
use Rattle.std.proofs.lemmas.Str.{length-encode}
use Rattle.memchr.specs.Find.{OccursAt}
use Rattle.memchr.proofs.lemmas.MatchLemmas.{OccursAt-split, OccursAt-from_part}
use Rattle.rx_sets.specs.Sets.{Range}
use Rattle.rx_utf8.specs.Automata.{is_in}
use Rattle.rx_walks.specs.Looks.{Look}
use Rattle.rx_walks.specs.Machines.{Machine, IsForward, goes, reads}
use Rattle.rx_walks.specs.Paths.{Path, at_end, by_edge, by_read}
use Rattle.rx_walks.specs.Finds.{Search}
use Rattle.rx_walks.specs.Programs.{Node, pass, note, look, set, Program, Haystack, Notes, put_note, left_from, read_up_to}
use Rattle.rx_walks.specs.ProgramFinds.{first_by, haystack_of, holds_in, highest, machine_of}
use Rattle.rx_walks.proofs.CharacterLaws.{member_stands}
use Rattle.rx_walks.proofs.ForwardLaws.{characters_forward}
use Rattle.rx_walks.proofs.InsideLaws.{walk_keeps, inside_of}
use Rattle.rx_walks.proofs.PathLaws.{walk_has_path}
use Rattle.rx_program.proofs.NoteLaws.{only_edge, only_ends, only_goes, only_reads, read_not_ends, read_not_goes, ends_by, goes_by, reads_by}
use Rattle.rx_literals.specs.Needles.{OneOccursAt, this_occurs, other_occurs}
use Rattle.rx_literals.specs.Beginnings.{MatchesBeginWith}
use Rattle.rx_literals.specs.Ways.{Stem, OneOf, this_one, other_one, TakesStem, StemsLeadTo, StemsGoOn, HasMembers, StandFor, branches, readings}

-- what is known without an error, in another form
pub on_ok : {T E : Type 0} {P Q : Type 0} (r : Result T E) → (P → Q) → OnOk r P → OnOk r Q
on_ok (Ok x) f h = f h
on_ok (Err e) f h = h

-- ---- one of several

pub one_left : {X : Type 0} (P : X → Type 0) {xs : List X} (ys : List X) → OneOf P xs → OneOf P (xs ++ ys)
one_left P ys (this_one h) = this_one h
one_left P ys (other_one h) = other_one (one_left P ys h)

pub one_right : {X : Type 0} (P : X → Type 0) (xs ys : List X) → OneOf P ys → OneOf P (xs ++ ys)
one_right P [] ys h = h
one_right P (x ∷ xs) ys h = other_one (one_right P xs ys h)

pub one_of_map : {X Y : Type 0} (P : Y → Type 0) (f : X → Y) (xs : List X) (k : ℕ) (x : X) → k < length xs → get_or xs k x ≡ x → P (f x) → OneOf P (map f xs)
one_of_map P f [] k x below is h = absurd (omega (arith, below))
one_of_map P f (y ∷ ys) zero x below is h = this_one (subst (λ z. P (f z)) (sym is) h)
one_of_map P f (y ∷ ys) (suc k) x below is h = other_one (one_of_map P f ys k x (omega (arith, below)) is h)

-- the first one is replaced by others at the end
pub replaced : {X : Type 0} (P : X → Type 0) (x : X) (old more new : List X) → new ≡ old ++ more → (P x → OneOf P more) → OneOf P (x ∷ old) → OneOf P new
replaced P x old more new is f (this_one h) = subst (OneOf P) (sym is) (one_right P old more (f h))
replaced P x old more new is f (other_one h) = subst (OneOf P) (sym is) (one_left P more h)

-- ---- the edges of a node

-- its only edge is an epsilon transition to this node, if an assertion holds
abbrev pub GoesTo : Option (Node Look (List Range)) → ℕ → Type 0
GoesTo (Some (pass (q ∷ []))) r = q ≡ r
GoesTo (Some (note slot q)) r = q ≡ r
GoesTo (Some (look asked q)) r = q ≡ r
GoesTo _ r = ⊥

pub read_takes : {to j' : ℕ} (r j : ℕ) (o : Option ℕ) → read_up_to r j o ≡ reads to j' → (k : ℕ) × (o ≡ Some k) × (j' ≡ j + k) × (to ≡ r)
read_takes r j None e = absurd (cc e)
read_takes r j (Some k) e = (k, refl, cc e, cc e)

edge_same : (rs rs' : List ℕ) (c to : ℕ) → goes rs ≡ goes rs' → slice_get rs' c ≡ Some to → slice_get rs c ≡ Some to
edge_same rs rs' c to e on =
    let same : rs ≡ rs' = cc e in
    ap (λ xs. slice_get xs c) same ∙ on

module _ (is_word : ℕ → Bool) (p : Program Look (List Range)) (s : Search) (pattern e : ℕ) where
  abbrev M : Machine ℕ Notes
  M = machine_of is_in is_word p s

  abbrev H : Haystack Look
  H = haystack_of (holds_in is_word p.line_terminator s) s

  goes_at : (q r i : ℕ) (o : Option (Node Look (List Range))) → slice_get p.nodes q ≡ o → GoesTo o r → Path M q i pattern e → Path M r i pattern e
  goes_at q r i (Some (pass (q' ∷ []))) at same (at_end {p = k} is) = absurd (cc (ends_by (first_by is_in) H p.nodes q i k (Some (pass (q' ∷ []))) at is))
  goes_at q r i (Some (pass (q' ∷ []))) at same (by_edge rs to c is on path) =
      subst (λ x. Path M x i pattern e) (only_edge rs c to q' (goes_by (first_by is_in) H p.nodes q i rs c to (Some (pass (q' ∷ []))) at is on) on ∙ same) path
  goes_at q r i (Some (pass (q' ∷ []))) at same (by_read to j is path) = absurd (cc (reads_by (first_by is_in) H p.nodes q i to j (Some (pass (q' ∷ []))) at is))
  goes_at q r i (Some (note slot q')) at same (at_end {p = k} is) = absurd (cc (ends_by (first_by is_in) H p.nodes q i k (Some (note slot q')) at is))
  goes_at q r i (Some (note slot q')) at same (by_edge rs to c is on path) =
      subst (λ x. Path M x i pattern e) (only_edge rs c to q' (goes_by (first_by is_in) H p.nodes q i rs c to (Some (note slot q')) at is on) on ∙ same) path
  goes_at q r i (Some (note slot q')) at same (by_read to j is path) = absurd (cc (reads_by (first_by is_in) H p.nodes q i to j (Some (note slot q')) at is))
  goes_at q r i (Some (look l q')) at same (at_end {p = k} is) =
      absurd (cc (only_ends (H.holds l i) (goes (q' ∷ [])) (ends_by (first_by is_in) H p.nodes q i k (Some (look l q')) at is)))
  goes_at q r i (Some (look l q')) at same (by_edge rs to c is on path) =
      subst (λ x. Path M x i pattern e) (only_edge rs c to q' (only_goes (H.holds l i) (goes (q' ∷ [])) rs c (goes_by (first_by is_in) H p.nodes q i rs c to (Some (look l q')) at is on) on) on ∙ same) path
  goes_at q r i (Some (look l q')) at same (by_read to j is path) =
      absurd (cc (only_reads (H.holds l i) (goes (q' ∷ [])) (reads_by (first_by is_in) H p.nodes q i to j (Some (look l q')) at is)))
  goes_at q r i _ at same path = absurd same

  -- an epsilon transition that is followed
  pub record IsTaken (rs : List ℕ) (i : ℕ) : Type 0 where
    pub to : ℕ
    pub index : ℕ
    pub edge : slice_get rs index ≡ Some to
    pub path : Path M to i pattern e

  passes_at : (q i : ℕ) (rs : List ℕ) → slice_get p.nodes q ≡ Some (pass rs) → Path M q i pattern e → IsTaken rs i
  passes_at q i rs at (at_end {p = k} is) = absurd (cc (ends_by (first_by is_in) H p.nodes q i k (Some (pass rs)) at is))
  passes_at q i rs at (by_edge rs' to c is on path) = record {
    to = to;
    index = c;
    edge = edge_same rs rs' c to (goes_by (first_by is_in) H p.nodes q i rs' c to (Some (pass rs)) at is on) on;
    path = path;
  }
  passes_at q i rs at (by_read to j is path) = absurd (cc (reads_by (first_by is_in) H p.nodes q i to j (Some (pass rs)) at is))

  -- a character that is read
  pub record IsRead (ranges : List Range) (r i : ℕ) : Type 0 where
    pub c : ℕ
    pub scalar : IsScalar c
    pub member : is_in ranges c ≡ true
    pub rest : List ℕ
    pub stands : drop i (take (highest s) s.content) ≡ encode_utf8 c ++ rest
    pub path : Path M r (i + length (encode_utf8 c)) pattern e

  pub reads_at : (q i r : ℕ) (ranges : List Range) → slice_get p.nodes q ≡ Some (set ranges r) → Path M q i pattern e → IsRead ranges r i
  reads_at q i r ranges at (at_end {p = k} is) =
      absurd (read_not_ends r i (first_by is_in ranges (left_from H i)) (ends_by (first_by is_in) H p.nodes q i k (Some (set ranges r)) at is))
  reads_at q i r ranges at (by_edge rs to k is on path) =
      absurd (read_not_goes r i (first_by is_in ranges (left_from H i)) rs k (goes_by (first_by is_in) H p.nodes q i rs k to (Some (set ranges r)) at is on) on)
  reads_at q i r ranges at (by_read to j is path) =
      let taken = read_takes r i (first_by is_in ranges (left_from H i)) (reads_by (first_by is_in) H p.nodes q i to j (Some (set ranges r)) at is) in
      let member = member_stands (is_in ranges) (left_from H i) taken.0 taken.1 in
      let width : j ≡ i + length (encode_utf8 member.0) = taken.2 ∙ ap (λ n. i + n) (member.3 ∙ sym (length-encode member.0)) in
      record {
        c = member.0;
        scalar = member.1.scalar;
        member = member.2;
        rest = member.1.rest;
        stands = member.1.stands;
        path = subst (λ n. Path M r n pattern e) width (subst (λ x. Path M x j pattern e) taken.3 path);
      }

-- a literal is extended by what follows it
pub occurs_longer : (bytes literal more rest : List ℕ) (i : ℕ) → OccursAt bytes literal i → drop (i + length literal) bytes ≡ more ++ rest → OccursAt bytes (literal ++ more) i
occurs_longer bytes literal more rest i occurs behind =
    let whole : drop i bytes ≡ (literal ++ more) ++ rest = OccursAt-split bytes literal i occurs ∙ ap (λ xs. literal ++ xs) behind ∙ sym (append_assoc literal more rest) in
    let long : length bytes - (i + length literal) ≡ length more + length rest = sym (length-drop (i + length literal) bytes) ∙ ap length behind ∙ length-append more rest in
    let fits : i + length (literal ++ more) ≤ length bytes = omega (arith, long, length-append literal more, occurs.fits) in
    OccursAt-from_part bytes (literal ++ more) i fits (ap (take (length (literal ++ more))) whole ∙ take-append_seam (literal ++ more) rest)

-- ---- stems are extended

pub goes_on_there : (here : Option (Node Look (List Range))) (stem : Stem) (old new : List Stem) → new ≡ old ++ stem ∷ [] → StemsGoOn here stem old new
goes_on_there here stem old new is p at is_word s i pattern e inside =
    replaced (TakesStem p is_word s i pattern e) stem old (stem ∷ []) new is (λ takes. this_one takes)

pub leads_there : (p : Program Look (List Range)) (stem : Stem) (old new : List Stem) → new ≡ old ++ stem ∷ [] → StemsLeadTo p (stem ∷ old) new
leads_there p stem old new is is_word s i pattern e inside =
    replaced (TakesStem p is_word s i pattern e) stem old (stem ∷ []) new is (λ takes. this_one takes)

pub goes_on_by : (here : Option (Node Look (List Range))) (r : ℕ) → GoesTo here r → (stem : Stem) (old new : List Stem) → new ≡ old ++ (record { literal = stem.literal; node = r }) ∷ [] → StemsGoOn here stem old new
goes_on_by here r goes_ stem old new is p at is_word s i pattern e inside =
    replaced (TakesStem p is_word s i pattern e) stem old (record { literal = stem.literal; node = r } ∷ []) new is
    (λ takes. this_one (takes.0, goes_at is_word p s pattern e stem.node r (i + length stem.literal) here at goes_ takes.1))

pub goes_on_apart : (rs : List ℕ) (stem : Stem) (old new : List Stem) → new ≡ old ++ branches stem.literal rs → StemsGoOn (Some (pass rs)) stem old new
goes_on_apart rs stem old new is p at is_word s i pattern e inside =
    replaced (TakesStem p is_word s i pattern e) stem old (branches stem.literal rs) new is one
  where
    one : TakesStem p is_word s i pattern e stem → OneOf (TakesStem p is_word s i pattern e) (branches stem.literal rs)
    one takes =
        let taken = passes_at is_word p s pattern e stem.node (i + length stem.literal) rs at takes.1 in
        one_of_map (TakesStem p is_word s i pattern e) (λ (node : ℕ). record { literal = stem.literal; node = node }) rs taken.index taken.to
        (slice_get_within rs taken.index taken.to taken.edge) (get_or_from_slice_get rs taken.index taken.to taken.to taken.edge) (takes.0, taken.path)

pub goes_on_over : (ranges : List Range) (r : ℕ) (characters : List ℕ) → HasMembers ranges characters → (stem : Stem) (old new : List Stem) → new ≡ old ++ readings stem.literal characters r → StemsGoOn (Some (set ranges r)) stem old new
goes_on_over ranges r characters has stem old new is p at is_word s i pattern e inside =
    replaced (TakesStem p is_word s i pattern e) stem old (readings stem.literal characters r) new is one
  where
    one : TakesStem p is_word s i pattern e stem → OneOf (TakesStem p is_word s i pattern e) (readings stem.literal characters r)
    one takes =
        let literal = stem.literal in
        let read = reads_at is_word p s pattern e stem.node (i + length literal) r ranges at takes.1 in
        let there = has read.c read.scalar read.member in
        let width : i + length literal + length (encode_utf8 read.c) ≡ i + length (literal ++ encode_utf8 read.c) = omega (arith, length-append literal (encode_utf8 read.c)) in
        one_of_map (TakesStem p is_word s i pattern e) (λ (c : ℕ). record { literal = literal ++ encode_utf8 c; node = r }) characters there.0 read.c there.1 there.2 (
          occurs_longer (take (highest s) s.content) literal (encode_utf8 read.c) read.rest i takes.0 read.stands,
          subst (λ n. Path (machine_of is_in is_word p s) r n pattern e) width read.path,
        )

pub leads_on : (p : Program Look (List Range)) (stems others more : List Stem) → StemsLeadTo p stems others → StemsLeadTo p others more → StemsLeadTo p stems more
leads_on p stems others more first second is_word s i pattern e inside one = second is_word s i pattern e inside (first is_word s i pattern e inside one)

pub leads_same : (p : Program Look (List Range)) (stems others : List Stem) → stems ≡ others → StemsLeadTo p stems others
leads_same p stems others same is_word s i pattern e inside one = subst (OneOf (TakesStem p is_word s i pattern e)) same one

-- ---- the literals begin each match

pub path_grows : {Q N : Type 0} {m : Machine Q N} {q : Q} {i p e : ℕ} → IsForward m → Path m q i p e → i ≤ e
path_grows forward (at_end is) = omega arith
path_grows forward (by_edge rs r k is at path) = path_grows forward path
path_grows {q = q} {i = i} forward (by_read r j is path) = omega (arith, forward i j q r is, path_grows forward path)

-- an occurrence that ends before a split is in the bytes up to it
pub occurs_in_fewer : (content literal : List ℕ) (high e i : ℕ) → i + length literal ≤ e → e ≤ high → e ≤ length content → OccursAt (take high content) literal i → OccursAt (take e content) literal i
occurs_in_fewer content literal high e i ends_ below inside occurs = record {
  fits = omega (arith, length-take e content, ends_, inside);
  reads = λ j under.
      get_or-take e content (i + j) 0 (omega (arith, ends_, under)) ∙ sym (get_or-take high content (i + j) 0 (omega (arith, ends_, under, below))) ∙ occurs.reads j under;
}

one_begins : (p : Program Look (List Range)) (is_word : ℕ → Bool) (s : Search) (i pattern e : ℕ) → e ≤ highest s → e ≤ length s.content → {stems : List Stem} → OneOf (TakesStem p is_word s i pattern e) stems → OneOccursAt (take e s.content) i (map (λ stem. stem.literal) stems)
one_begins p is_word s i pattern e top far (this_one {x = stem} takes) =
    let ends_ : i + length stem.literal ≤ e = path_grows (characters_forward put_note is_in p.nodes (haystack_of (holds_in is_word p.line_terminator s) s)) takes.1 in
    this_occurs (occurs_in_fewer s.content stem.literal (highest s) e i ends_ top far takes.0)
one_begins p is_word s i pattern e top far (other_one one) = other_occurs (one_begins p is_word s i pattern e top far one)

pub begin_with : (p : Program Look (List Range)) (stems : List Stem) (needles : List (List ℕ)) → StemsLeadTo p (record { literal = []; node = p.start } ∷ []) stems → StandFor needles (map (λ stem. stem.literal) stems) → MatchesBeginWith needles p
begin_with p stems needles leads stand is_word s i choices t inside walk =
    let at : i ≡ i + 0 = omega arith in
    let low : i ≤ length (take (highest s) s.content) = omega (arith, length-take (highest s) s.content, inside.1, inside.3, inside.4) in
    let empty : OccursAt (take (highest s) s.content) [] i = record { fits = omega (arith, low); reads = λ j below. absurd (omega (arith, below)) } in
    let path = subst (λ n. Path (machine_of is_in is_word p s) p.start n t.pattern t.end) at (walk_has_path walk) in
    let one = leads is_word s i t.pattern t.end inside (this_one (empty, path)) in
    let far = inside_of s t.end (walk_keeps is_in is_word p s walk).inside in
    stand (take t.end s.content) i (one_begins p is_word s i t.pattern t.end (omega (arith, far.1, far.3, far.4)) far.4 one)

-- ---- stems that are built one by one

pub branches_all : (literal nodes : List ℕ) (k : ℕ) (base items : List Stem) → length nodes ≤ k → items ≡ base ++ branches literal (take k nodes) → items ≡ base ++ branches literal nodes
branches_all literal nodes k base items over so_far = so_far ∙ ap (λ xs. base ++ branches literal xs) (take_all k nodes over)

pub readings_of : (first second : Stem) (characters others : List ℕ) (next : ℕ) (base items : List Stem) → first ≡ second → characters ≡ others → items ≡ base ++ readings first.literal characters next → items ≡ base ++ readings second.literal others next
readings_of first second characters others next base items same alike is =
    is ∙ ap (λ (s : Stem). base ++ readings s.literal characters next) same ∙ ap (λ xs. base ++ readings second.literal xs next) alike

-- ---- the result for a program

pub begin_if : {E : Type 0} (p : Program Look (List Range)) (stems : List Stem) (needles : List (List ℕ)) (r : Result (Option (List (List ℕ))) E)
    → StemsLeadTo p (record { literal = []; node = p.start } ∷ []) stems → StandFor needles (map (λ stem. stem.literal) stems)
    → IfOk r (λ made. ForSome made (λ prefilter. prefilter ≡ needles)) → IfOk r (λ made. ForSome made (λ prefilter. MatchesBeginWith prefilter p))
begin_if p stems needles (Ok made) leads stand is = λ prefilter e. subst (λ x. MatchesBeginWith x p) (sym (is prefilter e)) (begin_with p stems needles leads stand)
begin_if p stems needles (Err e) leads stand h = h
