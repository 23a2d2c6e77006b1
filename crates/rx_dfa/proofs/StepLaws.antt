-- A step over a byte is a step over each byte of its class.
use Rattle.std.proofs.Common.{◌≡◌, ℕ, Bool, true, false, not, ◌&&◌, ◌||◌, List, [], ◌++◌, Option, Some, refl, sym, ap, ap₂, subst, ◌∙◌}
use Rattle.std.specs.Prelude.{nat_lt, ◌==◌}
use Rattle.unicode.specs.Perl.{is_word_char}
use Rattle.rx_walks.specs.Looks as walks
use Rattle.rx_walks.specs.Looks.{start_text, end_text, start_line, end_line, word_boundary, no_word_boundary, is_same}
use Rattle.rx_program.specs.Programs.{ByteProgram}
use Rattle.rx_steps.specs.declared.asked.AskedLooks.{AskedLooks}
use Rattle.rx_steps.specs.Lists.{Asks, is_among}
use Rattle.rx_steps.specs.ListsAll.{nodes_of}
use Rattle.rx_steps.specs.AlikeBack.{StepsBackAreAlike}
use Rattle.rx_steps.specs.declared.place.Place.{Place}
use Rattle.rx_steps.specs.Threads.{Slots, Thread}
use Rattle.rx_steps.specs.Alike.{AreBare, AreAlike, StepsAreAlike}
use Rattle.rx_dfa.specs.declared.behind.Behind.TheVariants.{Byte}
use Rattle.rx_dfa.specs.declared.states.AutomatonState.{AutomatonState}
use Rattle.rx_dfa.specs.Classes.{continues, AreAlikeBytes}
use Rattle.rx_dfa.specs.declared.states.Ahead.{Ahead}
use Rattle.rx_dfa.specs.Directions.{Directed, IsList, forward, looks_by, turned_looks}
use Rattle.rx_dfa.specs.Behind.{is_word_ascii, behind_of, was_word, looks_of}
use Rattle.rx_dfa.specs.States.{ahead_of, place_of_step, start_at, started, IsStep}
use Rattle.rx_dfa.specs.Searching.{AreAskedBy}
use Rattle.rx_dfa.proofs.BareLaws.{bare_append, started_bare}
use Rattle.rx_dfa.proofs.LookLaws.{below_128, asked_lines, asked_words}

word_alike : (p : ByteProgram) (asked : AskedLooks) (b c : ℕ) → asked.words ≡ true → AreAlikeBytes p asked b c → is_word_ascii b ≡ is_word_ascii c
word_alike p asked b c words alike = by (nat_lt b 128) refl
  where
    by : (low : Bool) → nat_lt b 128 ≡ low → is_word_ascii b ≡ is_word_ascii c
    by true is = ap₂ (λ l w. l && w) alike.ascii (alike.is_word words (below_128 b is) (below_128 c (sym alike.ascii ∙ is)))
    by false is = ap (λ l. l && is_word_char b) is ∙ sym (ap (λ l. l && is_word_char c) (sym alike.ascii ∙ is))

if_asked : (asked x y : Bool) → (asked ≡ true → x ≡ y) → (asked && x) ≡ (asked && y)
if_asked true x y same = same refl
if_asked false x y same = refl

pub behind_alike : (p : ByteProgram) (asked : AskedLooks) (b c : ℕ) → AreAlikeBytes p asked b c → behind_of asked p.line_terminator (Some b) ≡ behind_of asked p.line_terminator (Some c)
behind_alike p asked b c alike =
    ap₂ (λ x y. Byte x y) (if_asked asked.lines (b == p.line_terminator) (c == p.line_terminator) alike.ends_line)
    (if_asked asked.words (is_word_ascii b) (is_word_ascii c) (λ words. word_alike p asked b c words alike))

looks_alike : (p : ByteProgram) (asked : AskedLooks) (x : AutomatonState) (b c : ℕ) (l : walks.Look) → AreAskedBy p.states asked → AreAlikeBytes p asked b c → Asks p.states l
    → is_among (looks_of p.line_terminator x.behind (Some b)) l ≡ is_among (looks_of p.line_terminator x.behind (Some c)) l
looks_alike p asked x b c start_text are alike asks = refl
looks_alike p asked x b c end_text are alike asks = refl
looks_alike p asked x b c start_line are alike asks = refl
looks_alike p asked x b c end_line are alike asks = alike.ends_line (asked_lines p.states asked end_line are refl asks)
looks_alike p asked x b c word_boundary are alike asks = ap (λ w. not (is_same (was_word x.behind) w)) (word_alike p asked b c (asked_words p.states asked word_boundary are refl asks) alike)
looks_alike p asked x b c no_word_boundary are alike asks = ap (λ w. is_same (was_word x.behind) w) (word_alike p asked b c (asked_words p.states asked no_word_boundary are refl asks) alike)

pub bare_started : (x : AutomatonState) (o : Option ℕ) → AreBare x.threads.threads → AreBare (x.threads.threads ++ started o)
bare_started x o bare = bare_append x.threads.threads (started o) bare (started_bare o)

looks_alike_back : (p : ByteProgram) (asked : AskedLooks) (x : AutomatonState) (b c : ℕ) (l : walks.Look) → AreAskedBy p.states asked → AreAlikeBytes p asked b c → Asks p.states l
    → is_among (turned_looks (looks_of p.line_terminator x.behind (Some b))) l ≡ is_among (turned_looks (looks_of p.line_terminator x.behind (Some c))) l
looks_alike_back p asked x b c start_text are alike asks = refl
looks_alike_back p asked x b c end_text are alike asks = refl
looks_alike_back p asked x b c start_line are alike asks = alike.ends_line (asked_lines p.states asked start_line are refl asks)
looks_alike_back p asked x b c end_line are alike asks = refl
looks_alike_back p asked x b c word_boundary are alike asks = ap (λ w. not (is_same (was_word x.behind) w)) (word_alike p asked b c (asked_words p.states asked word_boundary are refl asks) alike)
looks_alike_back p asked x b c no_word_boundary are alike asks = ap (λ w. is_same (was_word x.behind) w) (word_alike p asked b c (asked_words p.states asked no_word_boundary are refl asks) alike)

looks_by_alike : (is_back : Bool) (p : ByteProgram) (asked : AskedLooks) (x : AutomatonState) (b c : ℕ) (l : walks.Look) → AreAskedBy p.states asked → AreAlikeBytes p asked b c → Asks p.states l
    → is_among (looks_by is_back (looks_of p.line_terminator x.behind (Some b))) l ≡ is_among (looks_by is_back (looks_of p.line_terminator x.behind (Some c))) l
looks_by_alike false p asked x b c l are alike asks = looks_alike p asked x b c l are alike asks
looks_by_alike true p asked x b c l are alike asks = looks_alike_back p asked x b c l are alike asks

-- steps are equal at positions that are alike, forward and backward
pub record AlikeLaws : Type 0 where
  pub forward : (p : ByteProgram) → StepsAreAlike p
  pub back : (p : ByteProgram) → StepsBackAreAlike p

list_alike : AlikeLaws → (is_back : Bool) (p : ByteProgram) (here there : Place) (from next : List Thread) (ended : Option ℕ) (slots : Slots) → AreBare from → AreAlike p here there → IsList is_back p here from next ended slots → IsList is_back p there from next ended []
list_alike laws false p here there from next ended slots bare places list = laws.forward p here there from next ended slots bare places list
list_alike laws true p here there from next ended slots bare places list = laws.back p here there (nodes_of from) (nodes_of next) ended places list

pub step_alike : AlikeLaws → (p : Directed) (asked : AskedLooks) (utf8_empty : Bool) (x y : AutomatonState) (b c : ℕ) → AreAskedBy p.bytes.states asked → AreBare x.threads.threads → AreAlikeBytes p.bytes asked b c
    → IsStep p asked x (ahead_of utf8_empty b) y → IsStep p asked x (ahead_of utf8_empty c) y
step_alike laws p asked utf8_empty x y b c are bare alike step =
    let here = place_of_step p x (ahead_of utf8_empty b) in
    let there = place_of_step p x (ahead_of utf8_empty c) in
    let may : (not utf8_empty || not (continues b)) ≡ (not utf8_empty || not (continues c)) = ap (λ k. not utf8_empty || not k) alike.continue in
    let from = x.threads.threads ++ started (start_at x.starting (not utf8_empty || not (continues b))) in
    let places : AreAlike p.bytes here there = record { reads = alike.reads; looks = λ l asks. looks_by_alike p.is_back p.bytes asked x b c l are alike asks } in
    record {
      next = step.next;
      slots = [];
      list = subst (λ m. IsList p.is_back p.bytes there (x.threads.threads ++ started (start_at x.starting m)) step.next y.ended []) may
          (list_alike laws p.is_back p.bytes here there from step.next y.ended step.slots (bare_started x (start_at x.starting (not utf8_empty || not (continues b))) bare) places step.list);
      thins = step.thins;
      starting = step.starting;
      behind = step.behind ∙ behind_alike p.bytes asked b c alike;
    }

-- ---- a step of a program that is read forward

pub as_forward : (p : Directed) (asked : AskedLooks) (x y : AutomatonState) (ahead : Ahead) → p.is_back ≡ false → IsStep p asked x ahead y → IsStep (forward p.bytes) asked x ahead y
as_forward p asked x y ahead way step = record {
  next = step.next;
  slots = step.slots;
  list = subst (λ b. IsList b p.bytes (record { at = 0; byte = ahead.read; looks = looks_by b (looks_of p.bytes.line_terminator x.behind ahead.seen) }) (x.threads.threads ++ started (start_at x.starting ahead.may_begin)) step.next y.ended step.slots) way step.list;
  thins = step.thins;
  starting = step.starting;
  behind = step.behind;
}
