-- Small inputs: how they are read, what their commands do, and what is written for them.
use Rattle.std.proofs.Common.{◌≡◌, ℕ, ◌≤◌, ◌↔◌, [], ◌∷◌, length, codes, refl, ap, inl, inr, IsUtf8, arith}
use Rattle.std.specs.Prelude.{Ok}
use Rattle.std.specs.Fmt.{digits}
use Rattle.std.proofs.Math.Utf8.{encode}
use Rattle.rope_search_io.specs.declared.faults.Fault.{Fault}
use Rattle.rope_search_io.specs.declared.faults.Fault.TheVariants.{Nothing, Range, Utf8, Pattern, Limit, Size, Memory}
use Rattle.rope_search.specs.declared.commands.Reply.TheVariants.{Done, Print}
use Rattle.rope_search.specs.declared.endings.Ended.TheVariants.{Input, Command, Cut}
use Rattle.rope_search.specs.Order.{Order, SetText, PrintText, UseBuffer}
use Rattle.rope_search.specs.Session.{first_state}
use Rattle.rope_search.specs.Step.{Refuses, Accepts, Step}
use Rattle.rope_search.specs.Reads.{IsNumber, AreSpelled, IsLine, SpellsOrder, Ends, Reads}
use Rattle.rope_search.specs.Answers.{Run, Answers}
use Rattle.rope_search.proofs.Examples.{session_of}
use Rattle.rope_search.proofs.LineLaws.{IsLine-first, IsLine-third}
use Rattle.rope_search.proofs.RunLaws.{Run-one, Run-append, SpellAll-one, SpellAll-append}
use Rattle.rope_search.proofs.RefusalLaws.{accepted_text, accepted_print}

-- ---- reading

-- the digit 2 spells two, and so does 02
pub IsNumber-two : IsNumber (codes "2") 2
IsNumber-two = record { some = omega arith; few = omega arith; decimal = omega arith; value = refl; fits = omega arith }

pub IsNumber-zeros : IsNumber (codes "02") 2
IsNumber-zeros = record { some = omega arith; few = omega arith; decimal = omega arith; value = refl; fits = omega arith }

pub two_spelled : AreSpelled (2 ∷ []) (codes " 2")
two_spelled = (codes "2", [], IsNumber-two, refl, refl)

-- a text of two bytes
pub Spells-hi : SpellsOrder (SetText (codes "hi")) (codes "text 2\nhi")
Spells-hi = record { line = codes "text 2"; is_line = (codes " 2", two_spelled, refl); whole = refl }

-- the same, spelled with a leading zero
pub Spells-zeros : SpellsOrder (SetText (codes "hi")) (codes "text 02\nhi")
Spells-zeros = record { line = codes "text 02"; is_line = (codes " 02", (codes "02", [], IsNumber-zeros, refl, refl), refl); whole = refl }

pub Spells-print : SpellsOrder PrintText (codes "print\n")
Spells-print = record { line = codes "print"; is_line = refl; whole = refl }

-- the next command starts right after a payload
pub Reads-hi : Reads (codes "text 2\nhiprint\n") (SetText (codes "hi") ∷ PrintText ∷ []) Input
Reads-hi = record {
  spelled = codes "text 2\nhiprint\n";
  rest = [];
  spells = SpellAll-append (SetText (codes "hi") ∷ []) (PrintText ∷ []) (codes "text 2\nhi") (codes "print\n")
      (SpellAll-one (SetText (codes "hi")) (codes "text 2\nhi") Spells-hi) (SpellAll-one PrintText (codes "print\n") Spells-print);
  ends = refl;
  whole = refl;
}

-- a CR before the LF makes a line no command's
pub Ends-cr : Ends (codes "print\r\n") Command
Ends-cr = inl (record { line = codes "print\r"; more = []; no_lf = omega arith; short = omega arith; whole = refl; no_command = none })
  where
    none : (o : Order) → IsLine o (codes "print\r") → ⊥
    none PrintText h = omega (arith, ap length h)
    none o h = omega (arith, IsLine-first o (codes "print\r") h, IsLine-third o (codes "print\r") h)

-- a command's line without its LF is incomplete
pub Ends-part : Ends (codes "print") Cut
Ends-part = inl (record { no_lf = omega arith; some = omega arith; short = omega arith })

-- so is one followed by too few bytes
pub Ends-payload : Ends (codes "text 2\nh") Cut
Ends-payload = inr (record { order = SetText (codes "hi"); line = codes "text 2"; part = codes "h"; is_line = (codes " 2", two_spelled, refl); whole = refl; short = omega arith })

-- ---- refusals and runs

-- the first session has no buffer 1, and that is the only reason to refuse choosing it
pub Refuses-use : (limit : ℕ) (fault : Fault) → Refuses limit first_state (UseBuffer 1) fault ↔ fault ≡ Nothing
Refuses-use limit Nothing = ((λ h. refl), (λ e. omega arith))
Refuses-use limit Range = ((λ h. absurd h), (λ e. cc))
Refuses-use limit Utf8 = ((λ h. absurd h), (λ e. cc))
Refuses-use limit Pattern = ((λ h. absurd h), (λ e. cc))
Refuses-use limit Limit = ((λ h. absurd h), (λ e. cc))
Refuses-use limit Size = ((λ h. absurd h), (λ e. cc))
Refuses-use limit Memory = ((λ h. absurd h), (λ e. cc))

pub IsUtf8-hi : IsUtf8 (codes "hi")
unfolding encode
IsUtf8-hi = (codes "hi", (refl, refl))

-- a text is set and then shown
pub Run-hi : (limit : ℕ) → 2 ≤ limit → Run limit first_state (SetText (codes "hi") ∷ PrintText ∷ []) (codes "ok\ntext 2\nhi\n") 0 (session_of (codes "hi"))
unfolding digits encode
Run-hi limit enough =
    Run-append limit first_state (session_of (codes "hi")) (session_of (codes "hi")) (SetText (codes "hi") ∷ []) (PrintText ∷ []) (codes "ok\n") (codes "text 2\nhi\n") 0 0
    (Run-one limit first_state (session_of (codes "hi")) (SetText (codes "hi")) (Ok Done) (codes "ok\n") 0
    set (inr (record { reply = Done; new = session_of (codes "hi"); step = set; rows = refl })) (record { rows = []; listed = refl; shown = refl }))
    (Run-one limit (session_of (codes "hi")) (session_of (codes "hi")) PrintText (Ok Print) (codes "text 2\nhi\n") 0
    shown (inr (record { reply = Print; new = session_of (codes "hi"); step = shown; rows = refl })) (record { rows = []; listed = refl; shown = refl }))
  where
    accepts : Accepts limit first_state (SetText (codes "hi"))
    accepts = accepted_text limit first_state (codes "hi") IsUtf8-hi (omega arith)

    set : Step limit first_state (SetText (codes "hi")) (Ok Done) (session_of (codes "hi"))
    set = (accepts, (codes "hi", record { scalars = refl; spelled = refl }, refl))

    shown : Step limit (session_of (codes "hi")) PrintText (Ok Print) (session_of (codes "hi"))
    shown = (accepted_print limit (session_of (codes "hi")), refl)

-- what is written for the whole input
pub Answers-hi : (limit : ℕ) → 2 ≤ limit → Answers limit (codes "text 2\nhiprint\n") Input (codes "ok\ntext 2\nhi\n") 0
Answers-hi limit enough = record {
  orders = SetText (codes "hi") ∷ PrintText ∷ [];
  replies = codes "ok\ntext 2\nhi\n";
  last = session_of (codes "hi");
  reads = Reads-hi;
  run = Run-hi limit enough;
  shown = refl;
}
