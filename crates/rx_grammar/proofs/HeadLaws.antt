-- What readers of flags, names and heads know.
use Rattle.std.proofs.Common.{◌≡◌, ◌≢◌, ◌⊎◌, inl, inr, ℕ, ◌+◌, ◌≤◌, ◌<◌, ◌==◌, true, false, List, [], ◌∷◌, ◌++◌, length, map, get_or, drop, Some, None, ⊎_elim, append_assoc, length-append, AllPairs, refl, sym, ap, ap₂, subst, ◌∙◌, arith, true≢false}
use Rattle.std.proofs.lemmas.List.{get_or_append_left, drop_at, map-append}
use Rattle.std.proofs.lemmas.List.Quantifiers.{all_pairs_push}
use Rattle.std.proofs.lemmas.Bool.Decides.{nat_tests}
use Rattle.std.specs.List.{AllByRecursion}
use Rattle.rx_grammar.specs.declared.flags.Flag.{Flag}
use Rattle.rx_grammar.specs.declared.flags.Flag.TheVariants.{CaseInsensitive, MultiLine, DotMatchesNewLine, SwapGreed}
use Rattle.rx_grammar.specs.Settings.{Settings, letter_of}
use Rattle.rx_grammar.specs.Trees.{Name}
use Rattle.rx_grammar.specs.Input.{Begins, Stops}
use Rattle.rx_grammar.specs.Readers.{SplitsFront, passes}
use Rattle.rx_grammar.specs.declared.input.CharacterTest.TheVariants.{NameCharacter}
use Rattle.rx_grammar.specs.Groups.{is_flag_letter, FlagLetters, Flags, turning_on, turning_off, flagged, Setting, setting, is_name_start, IsName, Capture, numbered, unnumbered, Opening, plain, without_number, with_name, with_short_name, changing}
use Rattle.rx_grammar.specs.Heads.{FlagsAfter, NoFlagsAfter, NoFlagLetter, FlagsChange, NoFlags, NoName, NameOpening, NoNameOpening, NoHead}
use Rattle.rx_grammar.proofs.InputLemmas.{first_is, rest_is, apart, Stops-not, Begins-from, fronts}
use Rattle.rx_grammar.proofs.GroupLaws.{letter_of-passes, letter_of-unique, letters_unique, letters_along, flags_along, IsName-passes, behind, flags_begin, setting_begins, opening_begins}

-- flags that were read after others
pub record ReadFlags (before all : List Flag) (text rest : List ℕ) : Type 0 where
  pub flags : List Flag
  pub whole : all ≡ before ++ flags
  pub text_is : text ≡ map letter_of flags ++ rest
  pub once : AllPairs (λ a b. a ≢ b) all

pub ReadFlags-more : {before all all' : List Flag} {text rest u : List ℕ} {flag : Flag} → ReadFlags before all text rest → rest ≡ letter_of flag ∷ u
    → all' ≡ all ++ flag ∷ [] → ((k : ℕ) (d : Flag) → k < length all → get_or all k d ≢ flag) → ReadFlags before all' text u
ReadFlags-more {before = before} {all = all} {rest = rest} {u = u} {flag = flag} read e is other = record {
  flags = read.flags ++ flag ∷ [];
  whole = is ∙ ap (λ l. l ++ flag ∷ []) read.whole ∙ append_assoc before read.flags (flag ∷ []);
  text_is = read.text_is ∙ ap (λ x. map letter_of read.flags ++ x) e ∙ sym (append_assoc (map letter_of read.flags) (letter_of flag ∷ []) u)
      ∙ ap (λ x. x ++ u) (sym (map-append letter_of read.flags (flag ∷ [])));
  once = subst (λ l. AllPairs (λ a b. a ≢ b) l) (sym is) (all_pairs_push (λ a b. a ≢ b) all flag read.once other);
}

Stops-letter : (t : List ℕ) → NoFlagLetter t → Stops is_flag_letter t
Stops-letter [] none = tt
Stops-letter (c ∷ cs) none = no_letter c (λ flag e. none flag cs (ap (λ x. x ∷ cs) e))
  where
    no_letter : (c : ℕ) → ((flag : Flag) → c ≡ letter_of flag → ⊥) → is_flag_letter c ≡ false
    no_letter c none =
        let i : c ≢ 105 = none CaseInsensitive in
        let m : c ≢ 109 = none MultiLine in
        let s : c ≢ 115 = none DotMatchesNewLine in
        let u : c ≢ 85 = none SwapGreed in
        grind (arith, nat_tests)

pub ReadFlags-end : {before all : List Flag} {text rest : List ℕ} → ReadFlags before all text rest → NoFlagLetter rest → FlagsAfter before all text rest
ReadFlags-end {rest = rest} read none = record {
  flags = read.flags;
  whole = read.whole;
  reads = record { whole = read.text_is; ends = Stops-letter rest none };
  once = read.once;
}

-- letters that end without a flag go on with one
record GoesOn (flags fs : List Flag) (flag : Flag) : Type 0 where
  more : List Flag
  is : flags ≡ fs ++ flag ∷ more

goes_on_with : (flags fs : List Flag) (flag : Flag) (u v : List ℕ) → Stops is_flag_letter u → map letter_of flags ++ u ≡ map letter_of fs ++ letter_of flag ∷ v → GoesOn flags fs flag
goes_on_with [] [] flag u v stops e = absurd (Stops-not is_flag_letter stops e (letter_of-passes flag))
goes_on_with [] (f ∷ fs) flag u v stops e = absurd (Stops-not is_flag_letter stops e (letter_of-passes f))
goes_on_with (g ∷ gs) [] flag u v stops e = record { more = gs; is = ap (λ x. x ∷ gs) (letter_of-unique g flag (first_is refl e)) }
goes_on_with (g ∷ gs) (f ∷ fs) flag u v stops e =
    let tails : map letter_of gs ++ u ≡ map letter_of fs ++ letter_of flag ∷ v = rest_is refl e in
    let rest = goes_on_with gs fs flag u v stops tails in
    record { more = rest.more; is = ap₂ (λ a l. a ∷ l) (letter_of-unique g f (first_is refl e)) rest.is }

-- an element of the start of a list isn't the one after the start
get_or-behind : {A : Type 0} (xs : List A) (y : A) (ys : List A) (d : A) → get_or (xs ++ y ∷ ys) (length xs) d ≡ y
get_or-behind [] y ys d = refl
get_or-behind (x ∷ xs) y ys d = get_or-behind xs y ys d

pub front_apart : {A : Type 0} (xs ys : List A) (y : A) (k : ℕ) (d : A) → k < length xs → get_or xs k d ≡ y → AllPairs (λ a b. a ≢ b) (xs ++ y ∷ ys) → ⊥
front_apart xs ys y k d lt e once =
    let within : length xs < length (xs ++ y ∷ ys) = simp length-append (omega arith) in
    once k (length xs) d lt within (get_or_append_left xs (y ∷ ys) d k lt ∙ e ∙ sym (get_or-behind xs y ys d))

pub ReadFlags-twice : {before all : List Flag} {text rest u : List ℕ} {flag : Flag} (k : ℕ) (d : Flag) → ReadFlags before all text rest → rest ≡ letter_of flag ∷ u
    → k < length all → get_or all k d ≡ flag → NoFlagsAfter before text
ReadFlags-twice {before = before} {all = all} {u = u} {flag = flag} k d read e lt same = λ flags v letters once.
    let goes = goes_on_with flags read.flags flag v u letters.ends (sym letters.whole ∙ read.text_is ∙ ap (λ x. map letter_of read.flags ++ x) e) in
    let is : before ++ flags ≡ all ++ flag ∷ goes.more = ap (λ x. before ++ x) goes.is ∙ sym (append_assoc before read.flags (flag ∷ goes.more)) ∙ ap (λ x. x ++ flag ∷ goes.more) (sym read.whole) in
    front_apart all goes.more flag k d lt same (subst (λ l. AllPairs (λ a b. a ≢ b) l) is once)

-- flags by what was read of them
once_front : {A : Type 0} (xs ys : List A) → AllPairs (λ a b. a ≢ b) (xs ++ ys) → AllPairs (λ a b. a ≢ b) xs
once_front xs ys once i j d lt within = λ e.
    let inside : j < length (xs ++ ys) = simp length-append (omega arith) in
    let first : i < length xs = omega arith in
    once i j d lt inside (get_or_append_left xs ys d i first ∙ e ∙ sym (get_or_append_left xs ys d j within))

pub no_first_flags : {t : List ℕ} → NoFlagsAfter [] t → NoFlags t
no_first_flags {t = t} none = λ on off u flags. at flags
  where
    at : {on off : List Flag} {u : List ℕ} → Flags t on off u → ⊥
    at {on = on} (turning_on letters some stop once) = none on _ letters once
    at {on = on} {off = off} (turning_off letters minus letters' some once) = none on _ letters (once_front on off once)

-- no flag is at the start of the text, and no - follows
pub no_flags : {t v : List ℕ} {all : List Flag} → FlagsAfter [] all t v → (Begins 45 v → ⊥) → length all ≡ 0 → NoFlags t
no_flags {t = t} read stop none = λ on off u flags. at flags
  where
    at : {on off : List Flag} {u : List ℕ} → Flags t on off u → ⊥
    at (turning_on letters some stop' once) =
        let same = letters_unique read.reads letters in
        let len = ap length same.0 in
        let all = ap length read.whole in
        absurd (omega (arith, some))
    at (turning_off letters minus letters' some once) = stop (Begins-from ((letters_unique read.reads letters).1 ∙ minus))

pub flags_on : {s s' : Settings} {t v : List ℕ} {all : List Flag} → FlagsAfter [] all t v → (Begins 45 v → ⊥) → (length all ≡ 0 → ⊥) → s' ≡ flagged s all [] → FlagsChange s t s' v
flags_on {t = t} {v = v} {all = all} read stop some is = record {
  on = all;
  off = [];
  reads = turning_on (subst (λ l. FlagLetters t l v) (sym read.whole) read.reads) (at_least all some) stop read.once;
  is = is;
}
  where
    at_least : (l : List Flag) → (length l ≡ 0 → ⊥) → 1 ≤ length l
    at_least [] some = absurd (some refl)
    at_least (x ∷ xs) some = omega arith

-- what follows the - reads on
pub no_later_flags : {t v w : List ℕ} {on : List Flag} → FlagsAfter [] on t v → v ≡ 45 ∷ w → NoFlagsAfter on w → NoFlags t
no_later_flags {t = t} {on = on} read minus none = λ on' off u flags. at flags
  where
    at : {on' off : List Flag} {u : List ℕ} → Flags t on' off u → ⊥
    at (turning_on letters some stop once) = stop (Begins-from (sym (letters_unique read.reads letters).1 ∙ minus))
    at {off = off} (turning_off letters minus' letters' some once) =
        let same = letters_unique read.reads letters in
        let front : on ≡ _ = read.whole ∙ same.0 in
        none off _ (letters_along (rest_is minus (same.1 ∙ minus')) letters') (subst (λ l. AllPairs (λ a b. a ≢ b) (l ++ off)) (sym front) once)

-- a - has a flag after it
pub no_empty_flags : {t v w x : List ℕ} {on all : List Flag} → FlagsAfter [] on t v → v ≡ 45 ∷ w → FlagsAfter on all w x → length all ≡ length on → NoFlags t
no_empty_flags {t = t} {on = on} read minus after same_length = λ on' off u flags. at flags
  where
    at : {on' off : List Flag} {u : List ℕ} → Flags t on' off u → ⊥
    at (turning_on letters some stop once) = stop (Begins-from (sym (letters_unique read.reads letters).1 ∙ minus))
    at (turning_off letters minus' letters' some once) =
        let same = letters_unique read.reads letters in
        let later = letters_unique after.reads (letters_along (rest_is minus (same.1 ∙ minus')) letters') in
        let all = ap length after.whole in
        let len = ap length later.0 in
        absurd (omega (arith, some, length-append on after.flags))

pub flags_off : {s s' : Settings} {t v w x : List ℕ} {on all : List Flag} → FlagsAfter [] on t v → v ≡ 45 ∷ w → FlagsAfter on all w x → (length all ≡ length on → ⊥)
    → s' ≡ flagged s on (drop (length on) all) → FlagsChange s t s' x
flags_off {t = t} {v = v} {on = on} {all = all} read minus after more is =
    let off_is : drop (length on) all ≡ after.flags = ap (drop (length on)) after.whole ∙ drop_at on after.flags (length on) refl in
    record {
      on = on;
      off = after.flags;
      reads = turning_off (subst (λ l. FlagLetters t l v) (sym read.whole) read.reads) minus after.reads (at_least after.flags (λ none. more (ap length after.whole ∙ length-append on after.flags ∙ omega_zero none)))
          (subst (λ l. AllPairs (λ a b. a ≢ b) l) after.whole after.once);
      is = is ∙ ap (λ l. flagged _ on l) off_is;
    }
  where
    at_least : (l : List Flag) → (length l ≡ 0 → ⊥) → 1 ≤ length l
    at_least [] some = absurd (some refl)
    at_least (x ∷ xs) some = omega arith

    omega_zero : length after.flags ≡ 0 → length on + length after.flags ≡ length on
    omega_zero none = omega (arith, none)

-- names
pub name_read : {text front rest u : List ℕ} {name : Name} → SplitsFront NameCharacter text front rest → text ≡ name ++ 62 ∷ u → IsName name → (front ≡ name) × (rest ≡ 62 ∷ u)
name_read {front = front} {rest = rest} {u = u} {name = name} split e is =
    fronts (passes NameCharacter) front name rest (62 ∷ u) split.all (IsName-passes name is) split.ends refl (sym split.whole ∙ e)

pub no_empty_name : {text front rest : List ℕ} → SplitsFront NameCharacter text front rest → front ≡ [] → NoName text
no_empty_name split none = λ name u e is. empty name (sym (name_read split e is).0 ∙ none) is
  where
    empty : (name : Name) → name ≡ [] → IsName name → ⊥
    empty [] e is = is
    empty (c ∷ cs) e is = absurd (cc)

pub no_other_name : {text front rest cs : List ℕ} {c : ℕ} → SplitsFront NameCharacter text front rest → front ≡ c ∷ cs → is_name_start c ≡ false → NoName text
no_other_name {c = c} split first fails = λ name u e is. start name (sym (name_read split e is).0 ∙ first) is
  where
    start : {cs : List ℕ} (name : Name) → name ≡ c ∷ cs → IsName name → ⊥
    start [] e is = is
    start (d ∷ ds) e is = true≢false (sym is.0 ∙ ap is_name_start (first_is refl e) ∙ fails)

pub no_open_name : {text front rest : List ℕ} → SplitsFront NameCharacter text front rest → (Begins 62 rest → ⊥) → NoName text
no_open_name split none = λ name u e is. none (Begins-from (name_read split e is).1)

pub name_is : {text front rest cs u : List ℕ} {c : ℕ} → SplitsFront NameCharacter text front rest → front ≡ c ∷ cs → is_name_start c ≡ true → rest ≡ 62 ∷ u → IsName front × (text ≡ front ++ 62 ∷ u)
name_is {front = front} {cs = cs} {c = c} split first starts close = (named front first split.all, split.whole ∙ ap (λ x. front ++ x) close)
  where
    named : (name : List ℕ) → name ≡ c ∷ cs → AllByRecursion (λ c. passes NameCharacter c ≡ true) name → IsName name
    named [] e all = absurd (cc)
    named (d ∷ ds) e all = (ap is_name_start (first_is refl e) ∙ starts, all)

-- heads by what follows (?
marked_unlike_plain : {t u v : List ℕ} → t ≡ 40 ∷ 63 ∷ v → t ≡ 40 ∷ u → (Begins 63 u → ⊥) → ⊥
marked_unlike_plain e e' stop = stop (Begins-from (sym (rest_is e e')))

pub colon_head : (s : Settings) {v u : List ℕ} → v ≡ 58 ∷ u → Opening s (40 ∷ 63 ∷ v) s unnumbered u
colon_head s e = without_number (ap (λ x. 40 ∷ 63 ∷ x) e)

pub name_head : (s : Settings) {v u w : List ℕ} {name : Name} → NameOpening v w → IsName name → w ≡ name ++ 62 ∷ u → Opening s (40 ∷ 63 ∷ v) s (numbered (Some name)) u
name_head s (inl e) is close = with_name (ap (λ x. 40 ∷ 63 ∷ x) e) close is
name_head s (inr e) is close = with_short_name (ap (λ x. 40 ∷ 63 ∷ x) e) close is

pub no_name_head : (s : Settings) {v w : List ℕ} → NameOpening v w → NoName w → NoHead s (40 ∷ 63 ∷ v)
no_name_head s {v = v} {w = w} opens none = record { setting = λ s' u one. no_setting one; opening = λ s' k u one. no_opening one }
  where
    no_flags_here : {on off : List Flag} {x u : List ℕ} → x ≡ v → Flags x on off u → ⊥
    no_flags_here e flags = ⊎_elim (λ p. flags_begin flags (e ∙ p) refl) (λ p. flags_begin flags (e ∙ p) refl) opens

    no_setting : {s' : Settings} {u : List ℕ} → Setting s (40 ∷ 63 ∷ v) s' u → ⊥
    no_setting (setting e flags close) = no_flags_here (behind e refl) flags

    other_start : {c : ℕ} {u : List ℕ} → v ≡ c ∷ u → ((c == 80) ≡ false) → ((c == 60) ≡ false) → ⊥
    other_start e f g = ⊎_elim (λ p. apart e p f) (λ p. apart e p g) opens

    no_opening : {s' : Settings} {k : Capture} {u : List ℕ} → Opening s (40 ∷ 63 ∷ v) s' k u → ⊥
    no_opening (plain e stop) = marked_unlike_plain refl e stop
    no_opening (without_number e) = other_start (behind refl e) refl refl
    no_opening (with_name e close is) = ⊎_elim (λ p. none _ _ (rest_is refl (rest_is p (behind refl e)) ∙ close) is) (λ p. apart p (behind refl e) refl) opens
    no_opening (with_short_name e close is) = ⊎_elim (λ p. apart p (behind refl e) refl) (λ p. none _ _ (rest_is p (behind refl e) ∙ close) is) opens
    no_opening (changing e flags close) = no_flags_here (behind e refl) flags

pub setting_head : {s s' : Settings} {v w u : List ℕ} → FlagsChange s v s' w → w ≡ 41 ∷ u → Setting s (40 ∷ 63 ∷ v) s' u
setting_head {s = s} {v = v} {u = u} change close = subst (λ x. Setting s (40 ∷ 63 ∷ v) x u) (sym change.is) (setting refl change.reads close)

pub changing_head : {s s' : Settings} {v w u : List ℕ} → FlagsChange s v s' w → w ≡ 58 ∷ u → Opening s (40 ∷ 63 ∷ v) s' unnumbered u
changing_head {s = s} {v = v} {u = u} change close = subst (λ x. Opening s (40 ∷ 63 ∷ v) x unnumbered u) (sym change.is) (changing refl change.reads close)

-- what flags are followed by
pub record NoFlagsHead (v : List ℕ) : Type 0 where
  pub none : (on off : List Flag) (w u : List ℕ) → Flags v on off w → (w ≡ 41 ∷ u) ⊎ (w ≡ 58 ∷ u) → ⊥

pub no_flagged_head : (s : Settings) {v : List ℕ} → (Begins 58 v → ⊥) → NoNameOpening v
    → ((on off : List Flag) (w u : List ℕ) → Flags v on off w → (w ≡ 41 ∷ u) ⊎ (w ≡ 58 ∷ u) → ⊥) → NoHead s (40 ∷ 63 ∷ v)
no_flagged_head s {v = v} no_colon no_name none = record { setting = λ s' u one. no_setting one; opening = λ s' k u one. no_opening one }
  where
    no_setting : {s' : Settings} {u : List ℕ} → Setting s (40 ∷ 63 ∷ v) s' u → ⊥
    no_setting (setting e flags close) = none _ _ _ _ (flags_along (behind refl e) flags) (inl close)

    no_opening : {s' : Settings} {k : Capture} {u : List ℕ} → Opening s (40 ∷ 63 ∷ v) s' k u → ⊥
    no_opening (plain e stop) = marked_unlike_plain refl e stop
    no_opening (without_number e) = no_colon (Begins-from (behind refl e))
    no_opening (with_name e close is) = no_name _ (inl (behind refl e))
    no_opening (with_short_name e close is) = no_name _ (inr (behind refl e))
    no_opening (changing e flags close) = none _ _ _ _ (flags_along (behind refl e) flags) (inr close)

pub no_marked_head : (s : Settings) {t : List ℕ} → (Begins 40 t → ⊥) → NoHead s t
no_marked_head s none = record { setting = λ s' u one. none (setting_begins one); opening = λ s' k u one. none (opening_begins one) }

pub plain_head : (s : Settings) {t u : List ℕ} → t ≡ 40 ∷ u → (Begins 63 u → ⊥) → Opening s t s (numbered None) u
plain_head s e stop = plain e stop
