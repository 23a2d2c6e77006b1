-- Reverse automata.
use Rattle.std.proofs.Common.{◌≡◌, ℕ, zero, suc, ◌<◌, ◌≤◌, Bool, true, false, cond, List, [], ◌∷◌, ◌++◌, take, drop, length, reverse, Option, Some, None, option_map, refl, sym, ap, subst, ◌∙◌, arith, length-take, length-append}
use Rattle.std.proofs.lemmas.List.{take-append-drop, reverse-append, reverse-reverse, length-reverse, take_at, append-nil}
use Rattle.std.proofs.lemmas.Str.{length-encode, len_utf8_bounds}
use Rattle.std.specs.Char.{encode_utf8, len_utf8}
use Rattle.rx_walks.specs.Bytes.{Automaton, run}
use Rattle.rx_walks.specs.Characters.{len_if, last_character}
use Rattle.rx_walks.proofs.WalkLaws.{same_some}
use Rattle.rx_walks.proofs.CharacterLaws.{member_stands, stands_first}
use Rattle.rx_walks.proofs.LookLaws.{last_stands, stands_last}
use Rattle.rx_walks.specs.Transposed.{ReadingPlace, leads_in, prior, at_the_end, StandsForPlaces, LeadsBack, ReadsFirst, ReadsLast}

-- from a position, these bytes lead to one of those
abbrev into : Automaton → (ReadingPlace → Bool) → ReadingPlace → List ℕ → Bool
into step those place [] = those place
into step those None (b ∷ bs) = false
into step those (Some s) (b ∷ bs) = leads_in (λ x. into step those x bs) (step s b)

abbrev into_from : Automaton → (ReadingPlace → Bool) → Option ReadingPlace → List ℕ → Bool
into_from step those o bs = leads_in (λ x. into step those x bs) o

from_each : (step : Automaton) (those : ReadingPlace → Bool) (bs : List ℕ) (o : Option ReadingPlace) → ((x : ReadingPlace) → into step those x bs ≡ false) → into_from step those o bs ≡ false
from_each step those bs None each = refl
from_each step those bs (Some x) each = each x

into_none : (step : Automaton) (those : ReadingPlace → Bool) → ((x : ReadingPlace) → those x ≡ false) → (bs : List ℕ) (place : ReadingPlace) → into step those place bs ≡ false
into_none step those never [] place = never place
into_none step those never (b ∷ bs) None = refl
into_none step those never (b ∷ bs) (Some s) = from_each step those bs (step s b) (λ x. into_none step those never bs x)

into_one : (step : Automaton) (those : ReadingPlace → Bool) (o : Option ReadingPlace) → into_from step those o [] ≡ leads_in those o
into_one step those None = refl
into_one step those (Some x) = refl

from_same : (step : Automaton) (those others : ReadingPlace → Bool) (bs cs : List ℕ) (o : Option ReadingPlace) → ((x : ReadingPlace) → into step those x bs ≡ into step others x cs) → into_from step those o bs ≡ into_from step others o cs
from_same step those others bs cs None same = refl
from_same step those others bs cs (Some x) same = same x

-- one more byte at the end
one_more : (step : Automaton) (those : ReadingPlace → Bool) (b : ℕ) (xs : List ℕ) (place : ReadingPlace) → into step those place (xs ++ b ∷ []) ≡ into step (prior step those b) place xs
one_more step those b [] None = refl
one_more step those b [] (Some s) = into_one step those (step s b)
one_more step those b (c ∷ xs) None = refl
one_more step those b (c ∷ xs) (Some s) = from_same step those (prior step those b) (xs ++ b ∷ []) xs (step s c) (λ x. one_more step those b xs x)

turned_one : (step : Automaton) (those : ReadingPlace → Bool) (b : ℕ) (xs : List ℕ) (place : ReadingPlace) → into step those place (reverse (b ∷ xs)) ≡ into step (prior step those b) place (reverse xs)
turned_one step those b xs place = ap (into step those place) (reverse-append (b ∷ []) xs) ∙ one_more step those b (reverse xs) place

-- reading on after a byte
abbrev after : Automaton → Option ReadingPlace → List ℕ → Option ℕ
after step None bs = None
after step (Some None) bs = Some 1
after step (Some (Some s)) bs = option_map suc (run step s bs)

run_after : (step : Automaton) (t : Option ReadingPlace) (bs : List ℕ) → (elim t [ None ↦ None | Some None ↦ Some 1 | Some (Some s') ↦ option_map suc (run step s' bs) ]) ≡ after step t bs
run_after step None bs = refl
run_after step (Some None) bs = refl
run_after step (Some (Some s)) bs = refl

runs : (step : Automaton) (s b : ℕ) (bs : List ℕ) → run step s (b ∷ bs) ≡ after step (step s b) bs
runs step s b bs = run_after step (step s b) bs

map_suc : (o : Option ℕ) (k : ℕ) → option_map suc o ≡ Some k → (j : ℕ) × (o ≡ Some j) × (k ≡ suc j)
map_suc None k e = absurd (cc e)
map_suc (Some j) k e = (j, refl, sym (same_some refl e))

-- what is read backward leads there
abbrev Sound : Automaton → Automaton → (ReadingPlace → Bool) → ℕ → List ℕ → ℕ → Type 0
Sound step back those t bs k = (into step those (Some 0) (reverse (take k bs)) ≡ true) × (k ≤ length bs) × (1 ≤ k)

sound : (n : ℕ) (step back : Automaton) (more : ℕ) (those : ReadingPlace → Bool) (t : ℕ) → StandsForPlaces n step back more those t → (bs : List ℕ) (k : ℕ) → run back t bs ≡ Some k → Sound step back those t bs k
sound n step back more those t reads [] k e = absurd (cc e)
sound n step back zero those t reads (b ∷ bs) k e = absurd (cc (sym (ap (λ o. after back o bs) (reads b)) ∙ sym (runs back t b bs) ∙ e))
sound n step back (suc more) those t reads (b ∷ bs) k e = by_lead (λ t' reads' j e'. sound n step back more (prior step those b) t' reads' bs j e') (back t b) (reads b) (sym (runs back t b bs) ∙ e)
  where
    by_lead : ((t' : ℕ) → StandsForPlaces n step back more (prior step those b) t' → (j : ℕ) → run back t' bs ≡ Some j → Sound step back (prior step those b) t' bs j)
        → (o : Option ReadingPlace) → LeadsBack n step (λ next s. StandsForPlaces n step back more next s) those b o → after back o bs ≡ Some k → Sound step back those t (b ∷ bs) k
    by_lead again None never e = absurd (cc e)
    by_lead again (Some None) is e =
        let one : 1 ≡ k = same_some refl e in
        subst (λ z. Sound step back those t (b ∷ bs) z) one (turned_one step those b [] (Some 0) ∙ is, omega arith, omega arith)
    by_lead again (Some (Some t')) reads' e =
        let one = map_suc (run back t' bs) k e in
        let on = again t' reads'.1 one.0 one.1 in
        subst (λ z. Sound step back those t (b ∷ bs) z) (sym one.2) (turned_one step those b (take one.0 bs) (Some 0) ∙ on.0, omega (arith, on.1), omega arith)

-- what leads there is read backward
complete : (n : ℕ) (step back : Automaton) (more : ℕ) (those : ReadingPlace → Bool) (t : ℕ) → StandsForPlaces n step back more those t → (bs : List ℕ) (k : ℕ) → 1 ≤ k → k ≤ more → k ≤ length bs
    → into step those (Some 0) (reverse (take k bs)) ≡ true → (j : ℕ) × (run back t bs ≡ Some j)
complete n step back zero those t reads bs k some few within e = absurd (omega (arith, some, few))
complete n step back (suc more) those t reads [] k some few within e = absurd (omega (arith, some, within))
complete n step back (suc more) those t reads (b ∷ bs) zero some few within e = absurd (omega (arith, some))
complete n step back (suc more) those t reads (b ∷ bs) (suc k) some few within e =
    by_lead (λ t' reads' some' e'. complete n step back more (prior step those b) t' reads' bs k some' (omega (arith, few)) (omega (arith, within)) e') (back t b) refl (reads b) k refl
    (sym (turned_one step those b (take k bs) (Some 0)) ∙ e)
  where
    none_left : (o : Option ReadingPlace) → LeadsBack n step (λ next s. StandsForPlaces n step back more next s) those b o → o ≡ None → (x : ReadingPlace) → prior step those b x ≡ false
    none_left None never e None = refl
    none_left None never e (Some s) = never s
    none_left (Some o) leads e x = absurd (cc e)

    by_lead : ((t' : ℕ) → StandsForPlaces n step back more (prior step those b) t' → 1 ≤ k → into step (prior step those b) (Some 0) (reverse (take k bs)) ≡ true → (j : ℕ) × (run back t' bs ≡ Some j))
        → (o : Option ReadingPlace) → back t b ≡ o → LeadsBack n step (λ next s. StandsForPlaces n step back more next s) those b o → (k' : ℕ) → k ≡ k' → into step (prior step those b) (Some 0) (reverse (take k bs)) ≡ true → (j : ℕ) × (run back t (b ∷ bs) ≡ Some j)
    by_lead again None is never k' same e = absurd (cc (sym (into_none step (prior step those b) (none_left None never refl) (reverse (take k bs)) (Some 0)) ∙ e))
    by_lead again (Some None) is leads k' same e = (1, runs back t b bs ∙ ap (λ o. after back o bs) is)
    by_lead again (Some (Some t')) is leads zero same e = absurd (cc (sym leads.0 ∙ ap (λ z. into step (prior step those b) (Some 0) (reverse (take z bs))) (sym same) ∙ e))
    by_lead again (Some (Some t')) is leads (suc k') same e =
        let on = again t' leads.1 (omega (arith, same)) e in
        (suc on.0, runs back t b bs ∙ ap (λ o. after back o bs) is ∙ ap (option_map suc) on.1)

-- bytes that lead to the end are read
takes : (step : Automaton) (s : ℕ) (xs : List ℕ) → into step at_the_end (Some s) xs ≡ true → run step s xs ≡ Some (length xs)
takes step s [] e = absurd (cc e)
takes step s (b ∷ xs) e = runs step s b xs ∙ by_lead (λ s' e'. takes step s' xs e') (step s b) xs e
  where
    by_lead : ((s' : ℕ) → into step at_the_end (Some s') xs ≡ true → run step s' xs ≡ Some (length xs)) → (o : Option ReadingPlace) → (ys : List ℕ) → into_from step at_the_end o xs ≡ true → after step o xs ≡ Some (suc (length xs))
    by_lead again None ys e = absurd (cc e)
    by_lead again (Some None) ys e = ended xs e
      where
        ended : (xs : List ℕ) → into step at_the_end None xs ≡ true → Some 1 ≡ Some (suc (length xs))
        ended [] e = refl
        ended (x ∷ xs) e = absurd (cc e)
    by_lead again (Some (Some s')) ys e = ap (option_map suc) (again s' e)

taken : (step : Automaton) (s : ℕ) (xs : List ℕ) → run step s xs ≡ Some (length xs) → into step at_the_end (Some s) xs ≡ true
taken step s [] e = absurd (cc e)
taken step s (b ∷ xs) e = by_lead (λ s' e'. taken step s' xs e') (step s b) (sym (runs step s b xs) ∙ e)
  where
    by_lead : ((s' : ℕ) → run step s' xs ≡ Some (length xs) → into step at_the_end (Some s') xs ≡ true) → (o : Option ReadingPlace) → after step o xs ≡ Some (suc (length xs)) → into_from step at_the_end o xs ≡ true
    by_lead again None e = absurd (cc e)
    by_lead again (Some None) e = ended xs (same_some refl e)
      where
        ended : (xs : List ℕ) → 1 ≡ suc (length xs) → into step at_the_end None xs ≡ true
        ended [] e = refl
        ended (x ∷ xs) e = absurd (omega (arith, e))
    by_lead again (Some (Some s')) e = let one = map_suc (run step s' xs) _ e in again s' (one.1 ∙ ap Some (omega (arith, one.2)))

same_option : (a b : Option ℕ) → ((k : ℕ) → a ≡ Some k → b ≡ Some k) → ((k : ℕ) → b ≡ Some k → a ≡ Some k) → a ≡ b
same_option None None forth back = refl
same_option None (Some k) forth back = back k refl
same_option (Some k) b forth back = sym (forth k refl)

nil_of : (xs : List ℕ) → length xs ≡ 0 → xs ≡ []
nil_of [] e = refl
nil_of (x ∷ xs) e = absurd (omega (arith, e))

module _ (member : ℕ → Bool) (step : Automaton) (reads : ReadsFirst member step) where
  last_is : (bs : List ℕ) (k : ℕ) → k ≤ length bs → 1 ≤ k → into step at_the_end (Some 0) (reverse (take k bs)) ≡ true → len_if member (last_character bs) ≡ Some k
  last_is bs k within some e =
      let xs = reverse (take k bs) in
      let size : length xs ≡ k = omega (arith, length-reverse (take k bs), length-take k bs, within) in
      let one = member_stands member xs (length xs) (sym (reads xs) ∙ takes step 0 xs e) in
      let rest : one.1.rest ≡ [] = nil_of one.1.rest (omega (arith, one.3, ap length one.1.stands, length-append (encode_utf8 one.0) one.1.rest, length-encode one.0)) in
      let whole : xs ≡ encode_utf8 one.0 = one.1.stands ∙ ap (λ z. encode_utf8 one.0 ++ z) rest ∙ append-nil (encode_utf8 one.0) in
      let stands : reverse bs ≡ reverse (drop k bs) ++ encode_utf8 one.0 =
      ap reverse (sym (take-append-drop k bs)) ∙ reverse-append (take k bs) (drop k bs) ∙ ap (λ z. reverse (drop k bs) ++ z) whole in
      let last = stands_last bs one.0 (record { scalar = one.1.scalar; front = reverse (drop k bs); stands = stands }) in
      ap (len_if member) last ∙ ap (λ b. cond b (Some (len_utf8 one.0)) None) one.2 ∙ ap Some (sym one.3 ∙ size)

  -- the last character leads to the end
  pub record LastIs (bs : List ℕ) (k : ℕ) : Type 0 where
    pub some : 1 ≤ k
    pub few : k ≤ 4
    pub within : k ≤ length bs
    pub leads : into step at_the_end (Some 0) (reverse (take k bs)) ≡ true

  of_character : (bs : List ℕ) (k c : ℕ) → last_character bs ≡ Some c → member c ≡ true → k ≡ len_utf8 c → LastIs bs k
  of_character bs k c is into_set size =
      let last = last_stands bs c is in
      let bounds = len_utf8_bounds c in
      let lengths = length-encode c in
      let turned : bs ≡ reverse (encode_utf8 c) ++ reverse last.front = sym (reverse-reverse bs) ∙ ap reverse last.stands ∙ reverse-append last.front (encode_utf8 c) in
      let whole : reverse (take k bs) ≡ encode_utf8 c =
      ap (λ z. reverse (take k z)) turned ∙ ap reverse (take_at (reverse (encode_utf8 c)) (reverse last.front) k (omega (arith, length-reverse (encode_utf8 c), lengths, size)))
      ∙ reverse-reverse (encode_utf8 c) in
      let first = stands_first (encode_utf8 c) c (record { scalar = last.scalar; rest = []; stands = sym (append-nil (encode_utf8 c)) }) in
      let read : run step 0 (encode_utf8 c) ≡ Some (length (encode_utf8 c)) =
      reads (encode_utf8 c) ∙ ap (len_if member) first ∙ ap (λ b. cond b (Some (len_utf8 c)) None) into_set ∙ ap Some (sym lengths) in
      record {
        some = omega (arith, size, bounds.0);
        few = omega (arith, size, bounds.1);
        within = omega (arith, ap length turned, length-append (reverse (encode_utf8 c)) (reverse last.front), length-reverse (encode_utf8 c), lengths, size);
        leads = ap (into step at_the_end (Some 0)) whole ∙ taken step 0 (encode_utf8 c) read;
      }

  last_of : (bs : List ℕ) (k : ℕ) → len_if member (last_character bs) ≡ Some k → LastIs bs k
  last_of bs k e = by_last (last_character bs) refl e
    where
      by_member : (c : ℕ) → last_character bs ≡ Some c → (b : Bool) → member c ≡ b → cond b (Some (len_utf8 c)) None ≡ Some k → LastIs bs k
      by_member c is false out e = absurd (cc e)
      by_member c is true inside e = of_character bs k c is inside (sym (same_some refl e))

      by_last : (o : Option ℕ) → last_character bs ≡ o → len_if member o ≡ Some k → LastIs bs k
      by_last None is e = absurd (cc e)
      by_last (Some c) is e = by_member c is (member c) refl e

  pub transposed_reads_last : (n : ℕ) (back : Automaton) → StandsForPlaces n step back 4 at_the_end 0 → ReadsLast member back
  transposed_reads_last n back reads_back bs = same_option (run back 0 bs) (len_if member (last_character bs)) forth there
    where
      forth : (k : ℕ) → run back 0 bs ≡ Some k → len_if member (last_character bs) ≡ Some k
      forth k e = let one = sound n step back 4 at_the_end 0 reads_back bs k e in last_is bs k one.1 one.2 one.0

      there : (k : ℕ) → len_if member (last_character bs) ≡ Some k → run back 0 bs ≡ Some k
      there k e =
          let last = last_of bs k e in
          let one = complete n step back 4 at_the_end 0 reads_back bs k last.some last.few last.within last.leads in
          one.1 ∙ ap Some (same_some (forth one.0 one.1) e)

-- further states change nothing
pub reads_on : (step back back' : Automaton) (n n' more : ℕ) → n ≤ n' → ((s : ℕ) → 0 < s → s < n → (b : ℕ) → back s b ≡ back' s b) → (those : ReadingPlace → Bool) (t : ℕ) → 0 < t → t < n
    → StandsForPlaces n step back more those t → StandsForPlaces n' step back' more those t
reads_on step back back' n n' zero on same those t some past reads = λ b. sym (same t some past b) ∙ reads b
reads_on step back back' n n' (suc more) on same those t some past reads = λ b.
    subst (LeadsBack n' step (λ next s. StandsForPlaces n' step back' more next s) those b) (same t some past b)
    (by_lead b (λ t' some' past' reads'. reads_on step back back' n n' more on same (prior step those b) t' some' past' reads') (back t b) (reads b))
  where
    by_lead : (b : ℕ) → ((t' : ℕ) → 0 < t' → t' < n → StandsForPlaces n step back more (prior step those b) t' → StandsForPlaces n' step back' more (prior step those b) t')
        → (o : Option ReadingPlace) → LeadsBack n step (λ next s. StandsForPlaces n step back more next s) those b o → LeadsBack n' step (λ next s. StandsForPlaces n' step back' more next s) those b o
    by_lead b again None leads = leads
    by_lead b again (Some None) leads = leads
    by_lead b again (Some (Some t')) leads = (leads.0, again t' leads.2 leads.3 leads.1, leads.2, omega (arith, leads.3, on))

-- the same positions, given by another test
same_lead : (those others : ReadingPlace → Bool) → ((x : ReadingPlace) → those x ≡ others x) → (o : Option ReadingPlace) → leads_in those o ≡ leads_in others o
same_lead those others same None = refl
same_lead those others same (Some x) = same x

same_prior : (step : Automaton) (those others : ReadingPlace → Bool) → ((x : ReadingPlace) → those x ≡ others x) → (b : ℕ) (x : ReadingPlace) → prior step those b x ≡ prior step others b x
same_prior step those others same b None = refl
same_prior step those others same b (Some s) = same_lead those others same (step s b)

pub reads_alike : (step back : Automaton) (n more : ℕ) (those others : ReadingPlace → Bool) → ((x : ReadingPlace) → those x ≡ others x) → (t : ℕ) → StandsForPlaces n step back more those t → StandsForPlaces n step back more others t
reads_alike step back n zero those others same t reads = reads
reads_alike step back n (suc more) those others same t reads = λ b.
    by_lead b (λ t' reads'. reads_alike step back n more (prior step those b) (prior step others b) (same_prior step those others same b) t' reads') (back t b) (reads b)
  where
    by_lead : (b : ℕ) → ((t' : ℕ) → StandsForPlaces n step back more (prior step those b) t' → StandsForPlaces n step back more (prior step others b) t')
        → (o : Option ReadingPlace) → LeadsBack n step (λ next s. StandsForPlaces n step back more next s) those b o → LeadsBack n step (λ next s. StandsForPlaces n step back more next s) others b o
    by_lead b again None leads = λ s. sym (same_lead those others same (step s b)) ∙ leads s
    by_lead b again (Some None) leads = sym (same_lead those others same (step 0 b)) ∙ leads
    by_lead b again (Some (Some t')) leads = (sym (same_lead those others same (step 0 b)) ∙ leads.0, again t' leads.1, leads.2, leads.3)
