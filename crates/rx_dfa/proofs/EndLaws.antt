-- The highest offset of a search, at which no byte is read.
use Rattle.std.proofs.Common.{◌≡◌, ℕ, ◌<◌, ◌≤◌, Bool, false, not, ◌||◌, IsTrue, [], ◌++◌, length, Option, Some, None, refl, sym, ap, subst, ◌∙◌, arith}
use Rattle.std.specs.Prelude.{◌↔◌, ◌==◌}
use Rattle.rx_util.specs.Search.{HalfFound}
use Rattle.rx_walks.specs.Finds.{Search, IsInside}
use Rattle.rx_walks.specs.ProgramFinds.{start_node, highest}
use Rattle.rx_walks.specs.Steps.{thin_end}
use Rattle.rx_program.specs.Programs.{ByteProgram, IsByteProgram, character_program}
use Rattle.rx_steps.specs.declared.asked.AskedLooks.{AskedLooks}
use Rattle.rx_steps.specs.Alike.{AreBare}
use Rattle.rx_steps.specs.Unread.{EndsAreMetUnread}
use Rattle.rx_steps.proofs.AnswerLaws.{KeepingLaw}
use Rattle.rx_dfa.specs.declared.automaton.Automaton.{Automaton}
use Rattle.rx_dfa.specs.declared.states.Ahead.{Ahead}
use Rattle.rx_dfa.specs.declared.states.AutomatonState.{AutomatonState}
use Rattle.rx_dfa.specs.Behind.{behind_of, quits}
use Rattle.rx_dfa.specs.Classes.{byte_of, class_of, continues}
use Rattle.rx_dfa.specs.States.{ahead_of, ahead_of_end, place_of_step, started, start_at, IsStep, EndsSo}
use Rattle.rx_dfa.specs.Alphabets.{ahead_at, ahead_in, column_count}
use Rattle.rx_dfa.specs.Searching.{AreAskedBy, HasReached, IsBehind, IsHalfAnswer, byte_after, met_after}
use Rattle.rx_dfa.specs.Passing.{IsLastColumn}
use Rattle.rx_dfa.specs.Directions.{forward}
use Rattle.rx_dfa.specs.Automata.{IsAutomaton, directed}
use Rattle.rx_dfa.proofs.LoopLaws.{Laws, May, end_answers}
use Rattle.rx_dfa.proofs.PassLaws.{byte_in_class, quits_alike}
use Rattle.rx_dfa.proofs.SearchLaws.{byte_there, may_begin_is, none_read}
use Rattle.rx_dfa.proofs.StepLaws.{AlikeLaws, as_forward, bare_started, step_alike}

-- what follows if a byte is seen but not read
abbrev ahead_unread : Bool → ℕ → Ahead
ahead_unread utf8_empty b = record (ahead_of utf8_empty b) { read = None }

-- the step over a byte has the match end that is met if it isn't read
ends_unread : ((p : ByteProgram) → EndsAreMetUnread p) → (p : ByteProgram) (asked : AskedLooks) (utf8_empty : Bool) (x y : AutomatonState) (b : ℕ) → AreBare x.threads.threads → IsStep (forward p) asked x (ahead_of utf8_empty b) y → EndsSo (forward p) asked x (ahead_unread utf8_empty b) y.ended
ends_unread law p asked utf8_empty x y b bare step =
    let may = not utf8_empty || not (continues b) in
    let from = x.threads.threads ++ started (start_at x.starting may) in
    record {
      next = record { threads = record y.threads { threads = [] }; starting = y.starting; behind = behind_of asked p.line_terminator None; ended = y.ended };
      step = record {
        next = [];
        slots = [];
        list = law p (place_of_step (forward p) x (ahead_of utf8_empty b)) from step.next y.ended step.slots (bare_started x (start_at x.starting may) bare) step.list;
        thins = thin_end;
        starting = step.starting;
        behind = refl;
      };
      ended_is = refl;
    }

-- the column of a byte there
pub byte_tells : AlikeLaws → ((p : ByteProgram) → EndsAreMetUnread p) → (a : Automaton) (s : Search) (i b : ℕ) → IsAutomaton a → (directed a).is_back ≡ false → a.alphabet.now.utf8_empty ≡ s.utf8_empty → b < 256 → highest s ≤ i → byte_after s i ≡ Some b → quits a.alphabet.now.asked (Some b) ≡ false
    → IsLastColumn a s i (class_of a.alphabet.now.classes b)
byte_tells alike unread a s i b made way same low last seen told =
    let r = byte_of a.alphabet.now.classes b in
    let class = made.classes b low in
    let at = byte_in_class (directed a).bytes a.alphabet.now b made low in
    let is_last = class_of a.alphabet.now.classes b == length a.alphabet.now.classes.bytes in
    record {
      inside = omega (arith, class.has_class);
      goes_on = subst (λ o. quits a.alphabet.now.asked (ahead_at a.alphabet.now.utf8_empty is_last o).seen ≡ false) (sym at) (quits_alike (directed a).bytes a.alphabet.now.asked r b class.alike ∙ told);
      tells = λ x y bare step.
          let by_class : IsStep (directed a) a.alphabet.now.asked x (ahead_of a.alphabet.now.utf8_empty r) y = subst (λ o. IsStep (directed a) a.alphabet.now.asked x (ahead_at a.alphabet.now.utf8_empty is_last o) y) at step in
          let itself = as_forward (directed a) a.alphabet.now.asked x y (ahead_of a.alphabet.now.utf8_empty b) way (step_alike alike (directed a) a.alphabet.now.asked a.alphabet.now.utf8_empty x y r b made.asked bare class.alike by_class) in
          record {
            ahead = ahead_unread a.alphabet.now.utf8_empty b;
            read = refl;
            here = record {
              read = none_read (directed a).bytes s i last;
              seen = seen;
              told = told;
              may_begin = subst (λ u. IsTrue (not u || not (continues b)) ↔ May s i) (sym same) (may_begin_is s i b (byte_there s i b seen).0);
            };
            ends = ends_unread unread (directed a).bytes a.alphabet.now.asked a.alphabet.now.utf8_empty x y b bare itself;
          };
    }

-- the column if the slice ends there
pub end_tells : (a : Automaton) (s : Search) (i column : ℕ) (may_begin : Bool) → (directed a).is_back ≡ false → column < column_count a.alphabet.now → ahead_in a.alphabet.now column ≡ ahead_of_end may_begin → (IsTrue may_begin ↔ May s i) → highest s ≤ i → byte_after s i ≡ None → IsLastColumn a s i column
end_tells a s i column may_begin way inside is may last seen = record {
  inside = inside;
  goes_on = ap (λ (z : Ahead). quits a.alphabet.now.asked z.seen) is;
  tells = λ x y bare step. record {
    ahead = ahead_of_end may_begin;
    read = refl;
    here = record { read = none_read (directed a).bytes s i last; seen = seen; told = refl; may_begin = may };
    ends = record { next = y; step = subst (λ z. IsStep (forward (directed a).bytes) a.alphabet.now.asked x z y) is (as_forward (directed a) a.alphabet.now.asked x y (ahead_in a.alphabet.now column) way step); ended_is = refl };
  };
}

-- the search's result, with the match end of the last column
pub last_answers : Laws → (a : Automaton) (s : Search) (q i column : ℕ) (x : AutomatonState) (ended : Option ℕ) (met : Option HalfFound) → IsByteProgram (directed a).bytes → KeepingLaw → start_node (character_program (directed a).bytes) s.anchoring ≡ Some q → AreAskedBy (directed a).bytes.states a.alphabet.now.asked
    → AreBare x.threads.threads → IsInside s i → i ≡ highest s → IsLastColumn a s i column → IsBehind (directed a).bytes a.alphabet.now.asked s i x → EndsSo (directed a) a.alphabet.now.asked x (ahead_in a.alphabet.now column) ended → HasReached (directed a).bytes s q i x met → IsHalfAnswer (directed a).bytes s (met_after i ended met)
last_answers laws a s q i column x ended met reads law starts are bare inside last is behind told reached =
    let meets = is.tells x told.next bare told.step in
    let whole = end_answers laws (directed a).bytes a.alphabet.now.asked s q i x meets.ends.next meets.ahead met reads law starts are bare inside last meets.read behind meets.here meets.ends.step reached in
    subst (λ o. IsHalfAnswer (directed a).bytes s (met_after i o met)) (sym meets.ends.ended_is ∙ sym told.ended_is) whole
