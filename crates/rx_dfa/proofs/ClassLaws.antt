-- Bytes without a cut between them are in one class.
use Rattle.std.proofs.Common.{inl, inr, ◌≡◌, ◌⊎◌, ℕ, zero, suc, ◌+◌, ◌-◌, ◌<◌, ◌≤◌, Bool, true, false, ◌&&◌, cond, List, [], ◌∷◌, length, take, All, get_or, Option, Some, None, slice_get, refl, sym, ap, ap₂, subst, ◌∙◌, arith}
use Rattle.std.specs.Prelude.{nat_le, nat_lt, ◌==◌}
use Rattle.unicode.specs.Perl.{is_word_char}
use Rattle.std.proofs.lemmas.Bool.{le-leb, lt-leb, le-ltb, lt-ltb, eq-eqb, ne_eqb}
use Rattle.std.proofs.lemmas.List.Elements.{All-nil, All-cons}
use Rattle.std.proofs.lemmas.Option.{get_or_from_slice_get, slice_get_within}
use Rattle.rx_utf8.specs.declared.byte_ranges.ByteRange.{ByteRange}
use Rattle.rx_utf8.specs.Automata.{look_up}
use Rattle.rx_program.specs.declared.states.State.{State}
use Rattle.rx_program.specs.declared.states.State.TheVariants as state
use Rattle.rx_program.specs.Programs.{ByteProgram, automaton_of}
use Rattle.rx_steps.specs.declared.asked.AskedLooks.{AskedLooks}
use Rattle.rx_steps.specs.Alike.{ReadAlike}
use Rattle.rx_dfa.specs.Classes.{AreAlikeBytes, WordsAreCut, LooksAreCut, IsCut, HasCut, AreTogether, RowIsCut, StateIsCut, HasMoreCuts, ByteClassesView, byte_of, AreClasses, AreClassesOf}

pub below_or_not : (k n : ℕ) → (k < n) ⊎ (n ≤ k)
below_or_not k zero = inr (omega arith)
below_or_not zero (suc n) = inl (omega arith)
below_or_not (suc k) (suc n) = elim (below_or_not k n) [ inl lt ↦ inl (omega (arith, lt)) | inr le ↦ inr (omega (arith, le)) ]

from_alike : (cuts : List Bool) (first c b : ℕ) → AreTogether cuts c b → HasCut cuts first → nat_le first c ≡ nat_le first b
from_alike cuts first c b (le, none) cut = elim (below_or_not c first) [
  | inr above ↦ le-leb first c above ∙ sym (le-leb first b (omega (arith, above, le)))
  | inl lt ↦ elim (below_or_not b first) [
    | inl below ↦ lt-leb first c lt ∙ sym (lt-leb first b below)
    | inr past ↦ absurd (none first lt past cut)
  ]
]

to_alike : (cuts : List Bool) (last c b : ℕ) → AreTogether cuts c b → HasCut cuts (last + 1) → nat_le c last ≡ nat_le b last
to_alike cuts last c b (le, none) cut = elim (below_or_not last b) [
  | inr above ↦ le-leb c last (omega (arith, above, le)) ∙ sym (le-leb b last above)
  | inl lt ↦ elim (below_or_not last c) [
    | inl below ↦ lt-leb c last below ∙ sym (lt-leb b last lt)
    | inr past ↦ absurd (none (last + 1) (omega (arith, past)) (omega (arith, lt)) cut)
  ]
]

row_alike : (cuts : List Bool) (row : List ByteRange) (c b : ℕ) → AreTogether cuts c b → RowIsCut cuts row → look_up row c ≡ look_up row b
row_alike cuts [] c b together cut = refl
row_alike cuts (range ∷ row) c b together cut =
    let test : (nat_le range.first c && nat_le c range.last) ≡ (nat_le range.first b && nat_le b range.last) =
    ap₂ (λ x y. x && y) (from_alike cuts range.first c b together (cut 0 range (omega arith)).0) (to_alike cuts range.last c b together (cut 0 range (omega arith)).1) in
    ap₂ (λ t o. cond t (Some range.next) o) test (row_alike cuts row c b together (λ i d lt. cut (suc i) d (omega (arith, lt))))

state_alike : (cuts : List Bool) (o : Option State) (c b s : ℕ) → AreTogether cuts c b → ((x : State) → o ≡ Some x → StateIsCut cuts x) → automaton_of o s c ≡ automaton_of o s b
state_alike cuts None c b s together cut = refl
state_alike cuts (Some (state.Ranges automaton next)) c b s together cut = row_alike cuts (get_or automaton.value.rows s []) c b together (cut (state.Ranges automaton next) refl s)
state_alike cuts (Some (state.Look asked next)) c b s together cut = refl
state_alike cuts (Some (state.Empty next)) c b s together cut = refl
state_alike cuts (Some (state.BinaryUnion first second)) c b s together cut = refl
state_alike cuts (Some (state.Union alternates)) c b s together cut = refl
state_alike cuts (Some (state.Capture slot next)) c b s together cut = refl
state_alike cuts (Some (state.Match k)) c b s together cut = refl

at_number : (states : List State) (cuts : List Bool) (q : ℕ) → All (StateIsCut cuts) states → (x : State) → slice_get states q ≡ Some x → StateIsCut cuts x
at_number states cuts q all x is = subst (λ y. StateIsCut cuts y) (get_or_from_slice_get states q x x is) (all q x (slice_get_within states q x is))

pub read_alike : (p : ByteProgram) (cuts : List Bool) (c b : ℕ) → AreTogether cuts c b → All (StateIsCut cuts) p.states → ReadAlike p c b
read_alike p cuts c b together cut = λ q s. state_alike cuts (slice_get p.states q) c b s together (at_number p.states cuts q cut)

-- a test that changes only at cuts is the same for bytes without a cut between them
same_upto : (f : ℕ → Bool) (cuts : List Bool) (c n : ℕ) → ((k : ℕ) → c < k → k ≤ c + n → (f (k - 1) ≡ f k) ⊎ HasCut cuts k) → ((k : ℕ) → c < k → k ≤ c + n → HasCut cuts k → ⊥) → f c ≡ f (c + n)
same_upto f cuts c zero changes none = ap f (omega arith)
same_upto f cuts c (suc n) changes none =
    let here : c + suc n - 1 ≡ c + n = omega arith in
    same_upto f cuts c n (λ k above upto. changes k above (omega (arith, upto))) (λ k above upto. none k above (omega (arith, upto)))
    ∙ elim (changes (c + suc n) (omega arith) (omega arith)) [
      | inl e ↦ ap f (sym here) ∙ e
      | inr cut ↦ absurd (none (c + suc n) (omega arith) (omega arith) cut)
    ]

same_together : (f : ℕ → Bool) (cuts : List Bool) (c b : ℕ) → AreTogether cuts c b → ((k : ℕ) → c < k → k ≤ b → (f (k - 1) ≡ f k) ⊎ HasCut cuts k) → f c ≡ f b
same_together f cuts c b (le, none) changes =
    let there : c + (b - c) ≡ b = omega (arith, le) in
    same_upto f cuts c (b - c) (λ k above upto. changes k above (omega (arith, upto, le))) (λ k above upto. none k above (omega (arith, upto, le)))
    ∙ ap f there

below_alike : (cuts : List Bool) (end c b : ℕ) → AreTogether cuts c b → HasCut cuts end → nat_lt c end ≡ nat_lt b end
below_alike cuts end c b (le, none) cut = elim (below_or_not c end) [
  | inr above ↦ le-ltb c end above ∙ sym (le-ltb b end (omega (arith, above, le)))
  | inl lt ↦ elim (below_or_not b end) [
    | inl below ↦ lt-ltb c end lt ∙ sym (lt-ltb b end below)
    | inr past ↦ absurd (none end lt past cut)
  ]
]

-- a number is both at least and at most itself
is_number : (t b : ℕ) → (b == t) ≡ (nat_le t b && nat_le b t)
is_number t b = elim (below_or_not b t) [
  | inl lt ↦ ne_eqb b t (λ e. omega (arith, lt, e)) ∙ sym (ap (λ x. x && nat_le b t) (lt-leb t b lt))
  | inr le ↦ elim (below_or_not t b) [
    | inl lt ↦ ne_eqb b t (λ e. omega (arith, lt, e)) ∙ sym (ap₂ (λ x y. x && y) (le-leb t b le) (lt-leb b t lt))
    | inr ge ↦ eq-eqb b t (omega (arith, le, ge)) ∙ sym (ap₂ (λ x y. x && y) (le-leb t b le) (le-leb b t ge))
  ]
]

number_alike : (cuts : List Bool) (t c b : ℕ) → AreTogether cuts c b → HasCut cuts t → HasCut cuts (t + 1) → (c == t) ≡ (b == t)
number_alike cuts t c b together before behind =
    is_number t c ∙ ap₂ (λ x y. x && y) (from_alike cuts t c b together before) (to_alike cuts t c b together behind) ∙ sym (is_number t b)

alike_together : (p : ByteProgram) (asked : AskedLooks) (cuts : List Bool) (c b : ℕ) → AreTogether cuts c b → LooksAreCut asked p.line_terminator cuts → All (StateIsCut cuts) p.states → AreAlikeBytes p asked c b
alike_together p asked cuts c b together looks states = record {
  reads = read_alike p cuts c b together states;
  continue = ap₂ (λ x y. x && y) (from_alike cuts 128 c b together looks.low) (below_alike cuts 192 c b together looks.high);
  ascii = below_alike cuts 128 c b together looks.low;
  ends_line = λ on. number_alike cuts p.line_terminator c b together (looks.lines on).0 (looks.lines on).1;
  is_word = λ on low high. same_together is_word_char cuts c b together (λ k above upto. looks.words on k (omega (arith, above)) (omega (arith, upto, high)));
}

pub are_classes : (p : ByteProgram) (asked : AskedLooks) (cuts : List Bool) (classes : ByteClassesView) → LooksAreCut asked p.line_terminator cuts → All (StateIsCut cuts) p.states → AreClasses cuts classes 256 → AreClassesOf p asked classes
are_classes p asked cuts classes looks states each b lt = record {
  has_class = (each b lt).0;
  alike = alike_together p asked cuts (byte_of classes b) b (each b lt).1 looks states;
}

-- ---- more cuts

pub row_stays : (before after : List Bool) (row : List ByteRange) → HasMoreCuts before after → RowIsCut before row → RowIsCut after row
row_stays before after row more cut = λ i d lt. let this = cut i d lt in (more (get_or row i d).first this.0, more ((get_or row i d).last + 1) this.1)

pub state_stays : (before after : List Bool) (x : State) → HasMoreCuts before after → StateIsCut before x → StateIsCut after x
state_stays before after (state.Ranges automaton next) more cut = λ s. row_stays before after (get_or automaton.value.rows s []) more (cut s)
state_stays before after (state.Look asked next) more cut = tt
state_stays before after (state.Empty next) more cut = tt
state_stays before after (state.BinaryUnion first second) more cut = tt
state_stays before after (state.Union alternates) more cut = tt
state_stays before after (state.Capture slot next) more cut = tt
state_stays before after (state.Match k) more cut = tt

pub same_or_not : (k n : ℕ) → (k ≡ n) ⊎ (k ≡ n → ⊥)
same_or_not zero zero = inl refl
same_or_not zero (suc n) = inr (λ e. omega (arith, e))
same_or_not (suc k) zero = inr (λ e. omega (arith, e))
same_or_not (suc k) (suc n) = elim (same_or_not k n) [ inl e ↦ inl (ap suc e) | inr d ↦ inr (λ e. d (omega (arith, e))) ]

pub below_is : (k n : ℕ) → k < n + 1 → (k ≡ n → ⊥) → k < n
below_is k n lt d = omega (arith, lt, d)

words_stay : (before after : List Bool) (n : ℕ) → HasMoreCuts before after → WordsAreCut before n → WordsAreCut after n
words_stay before after n more cut k above lt = elim (cut k above lt) [ inl e ↦ inl e | inr is ↦ inr (more k is) ]

pub looks_stay : (asked : AskedLooks) (terminator : ℕ) (before after : List Bool) → HasMoreCuts before after → LooksAreCut asked terminator before → LooksAreCut asked terminator after
looks_stay asked terminator before after more cut = record {
  low = more 128 cut.low;
  high = more 192 cut.high;
  lines = λ on. (more terminator (cut.lines on).0, more (terminator + 1) (cut.lines on).1);
  words = λ on. words_stay before after 128 more (cut.words on);
}

-- words are cut up to the next byte
pub word_more : (before after : List Bool) (n : ℕ) (meet : Bool) → HasMoreCuts before after → (meet ≡ true → HasCut after n) → (meet ≡ false → is_word_char (n - 1) ≡ is_word_char n) → WordsAreCut before n → WordsAreCut after (n + 1)
word_more before after n meet more cut same so k above lt = elim (same_or_not k n) [
  | inr other ↦ words_stay before after n more so k above (below_is k n lt other)
  | inl e ↦ subst (λ j. (is_word_char (j - 1) ≡ is_word_char j) ⊎ HasCut after j) (sym e) (here meet refl)
]
  where
    here : (b : Bool) → meet ≡ b → (is_word_char (n - 1) ≡ is_word_char n) ⊎ HasCut after n
    here true is = inr (cut is)
    here false is = inl (same is)

-- ---- one more part

-- with one more element, each has the property
all_more : {A : Type 0} (P : A → Type 0) (xs : List A) (i : ℕ) (x d : A) → i < length xs → All P (take i xs) → get_or xs i d ≡ x → P x → All P (take (suc i) xs)
all_more P [] i x d lt all is holds = absurd (omega (arith, lt))
all_more P (y ∷ xs) zero x d lt all is holds = All-cons P y [] (subst P (sym is) holds) (All-nil P)
all_more P (y ∷ xs) (suc i) x d lt all is holds = All-cons P y (take (suc i) xs) (all 0 y (omega arith)) (all_more P xs i x d (omega (arith, lt)) (λ k e less. all (suc k) e (omega (arith, less))) is holds)

pub take_all : {A : Type 0} (xs : List A) (n : ℕ) → length xs ≤ n → take n xs ≡ xs
take_all [] zero le = refl
take_all [] (suc n) le = refl
take_all (x ∷ xs) zero le = absurd (omega (arith, le))
take_all (x ∷ xs) (suc n) le = ap (λ ys. x ∷ ys) (take_all xs n (omega (arith, le)))

pub row_more : (before after : List Bool) (row : List ByteRange) (i : ℕ) (range d : ByteRange) → i < length row → HasMoreCuts before after → All (IsCut before) (take i row) → get_or row i d ≡ range → IsCut after range
    → All (IsCut after) (take (i + 1) row)
row_more before after row i range d lt more all is cut =
    let next : suc i ≡ i + 1 = omega arith in
    subst (λ j. All (IsCut after) (take j row)) next (all_more (IsCut after) row i range d lt (row_stays before after (take i row) more all) is cut)

states_stay : (before after : List Bool) (states : List State) → HasMoreCuts before after → All (StateIsCut before) states → All (StateIsCut after) states
states_stay before after states more all = λ i d lt. state_stays before after (get_or states i d) more (all i d lt)

pub states_more : (before after : List Bool) (states : List State) (i : ℕ) (x d : State) → i < length states → HasMoreCuts before after → All (StateIsCut before) (take i states) → get_or states i d ≡ x → StateIsCut after x
    → All (StateIsCut after) (take (i + 1) states)
states_more before after states i x d lt more all is cut =
    let next : suc i ≡ i + 1 = omega arith in
    subst (λ j. All (StateIsCut after) (take j states)) next (all_more (StateIsCut after) states i x d lt (states_stay before after (take i states) more all) is cut)

-- ---- the classes

-- the classes of the bytes below a number are known, and the last one has this number
pub record IsUnderWay (cuts : List Bool) (of bytes : List ℕ) (class n : ℕ) : Type 0 where
  pub len : class + 1 ≡ length bytes
  pub below : class < n
  pub of_len : length of ≡ 256
  pub each : AreClasses cuts (record { of = of; bytes = bytes }) n
  pub last : AreTogether cuts (get_or bytes class 0) (n - 1)
