-- Commands one after the other: how they are spelled, read, run and answered.
use Rattle.std.proofs.Common.{◌≡◌, ℕ, ◌+◌, List, [], ◌∷◌, ◌++◌, refl, sym, ap, ◌∙◌, subst, inl, inr, add_assoc, append_assoc, append-nil, arith}
use Rattle.rope_search.specs.declared.endings.Ended.{Ended}
use Rattle.rope_search.specs.declared.endings.Ended.TheVariants.{Command}
use Rattle.rope_search.specs.Order.{Order}
use Rattle.rope_search.specs.Session.{State}
use Rattle.rope_search.specs.Step.{Answer, Step}
use Rattle.rope_search.specs.Reads.{SpellsOrder, SpellAll, IsBadLine, IsLongLine, Ends, Reads}
use Rattle.rope_search.specs.Shows.{Shows}
use Rattle.rope_search.specs.Cost.{Costs}
use Rattle.rope_search.specs.Answers.{Run, Answers}

-- commands and then others are spelled by the bytes of the first and then those of the others
pub SpellAll-append : (os ps : List Order) (xs ys : List ℕ) → SpellAll os xs → SpellAll ps ys → SpellAll (os ++ ps) (xs ++ ys)
SpellAll-append [] ps xs ys before after = subst (SpellAll ps) (ap (λ l. l ++ ys) (sym before)) after
SpellAll-append (o ∷ os) ps xs ys before after = record {
  front = before.front;
  back = before.back ++ ys;
  first = before.first;
  others = SpellAll-append os ps before.back ys before.others after;
  whole = ap (λ l. l ++ ys) before.whole ∙ append_assoc before.front before.back ys;
}

-- one command is spelled by its own bytes
pub SpellAll-one : (o : Order) (xs : List ℕ) → SpellsOrder o xs → SpellAll (o ∷ []) xs
SpellAll-one o xs spells = record { front = xs; back = []; first = spells; others = refl; whole = sym (append-nil xs) }

-- what is read after some commands follows them
pub Reads-after : (os ps : List Order) (ending : Ended) (bytes input : List ℕ) → SpellAll os bytes → Reads input ps ending → Reads (bytes ++ input) (os ++ ps) ending
Reads-after os ps ending bytes input before after = record {
  spelled = bytes ++ after.spelled;
  rest = after.rest;
  spells = SpellAll-append os ps bytes after.spelled before after.spells;
  ends = after.ends;
  whole = ap (λ l. bytes ++ l) after.whole ∙ sym (append_assoc bytes after.spelled after.rest);
}

-- a run with its output and its cost in another form
pub Run-same : (limit : ℕ) (a c : State) (os : List Order) (x y : List ℕ) (m n : ℕ) → x ≡ y → m ≡ n → Run limit a os x m c → Run limit a os y n c
Run-same limit a c os x y m n out cost run = subst (λ l. Run limit a os l n c) out (subst (λ k. Run limit a os x k c) cost run)

-- a run and then another, from where it ended, are one run
pub Run-append : (limit : ℕ) (a b c : State) (os ps : List Order) (x y : List ℕ) (m n : ℕ) → Run limit a os x m b → Run limit b ps y n c → Run limit a (os ++ ps) (x ++ y) (m + n) c
Run-append limit a b c [] ps x y m n before after =
    Run-same limit a c ps y (x ++ y) n (m + n) (ap (λ l. l ++ y) (sym before.0)) (omega arith) (subst (λ s. Run limit s ps y n c) before.2 after)
Run-append limit a b c (o ∷ os) ps x y m n before after = record {
  answer = before.answer;
  new = before.new;
  own_cost = before.own_cost;
  later = before.later ++ y;
  later_cost = before.later_cost + n;
  step = before.step;
  costs = before.costs;
  others = Run-append limit before.new b c os ps before.later y before.later_cost n before.others after;
  reply = before.reply;
  shows = before.shows;
  shown = ap (λ l. l ++ y) before.shown ∙ append_assoc before.reply before.later y;
  added = ap (λ k. k + n) before.added ∙ add_assoc before.own_cost before.later_cost n;
}

-- no command is a run
pub Run-nil : (limit : ℕ) (s : State) → Run limit s [] [] 0 s
Run-nil limit s = (refl, refl, refl)

-- one step, with what it costs, is a run of one command
pub Run-one : (limit : ℕ) (old new : State) (o : Order) (answer : Answer) (reply : List ℕ) (c : ℕ) → Step limit old o answer new → Costs limit old o c → Shows new answer reply → Run limit old (o ∷ []) reply c new
Run-one limit old new o answer reply c step costs shows = record {
  answer = answer;
  new = new;
  own_cost = c;
  later = [];
  later_cost = 0;
  step = step;
  costs = costs;
  others = Run-nil limit new;
  reply = reply;
  shows = shows;
  shown = sym (append-nil reply);
  added = omega arith;
}

-- a run and then one more step
pub Run-push : (limit : ℕ) (old mid new : State) (os : List Order) (o : Order) (x : List ℕ) (m c : ℕ) (answer : Answer) (reply : List ℕ)
    → Run limit old os x m mid → Step limit mid o answer new → Costs limit mid o c → Shows new answer reply → Run limit old (os ++ o ∷ []) (x ++ reply) (m + c) new
Run-push limit old mid new os o x m c answer reply before step costs shows =
    Run-append limit old mid new os (o ∷ []) x reply m c before (Run-one limit mid new o answer reply c step costs shows)

-- a bad line is bad whatever follows it
pub IsBadLine-more : (rest more : List ℕ) → IsBadLine rest → IsBadLine (rest ++ more)
IsBadLine-more rest more bad = record {
  line = bad.line;
  more = bad.more ++ more;
  no_lf = bad.no_lf;
  short = bad.short;
  whole = ap (λ l. l ++ more) bad.whole ∙ append_assoc bad.line (10 ∷ bad.more) more;
  no_command = bad.no_command;
}

-- a line that is too long is so whatever follows
pub IsLongLine-more : (rest more : List ℕ) → IsLongLine rest → IsLongLine (rest ++ more)
IsLongLine-more rest more long = record {
  line = long.line;
  more = long.more ++ more;
  no_lf = long.no_lf;
  long = long.long;
  whole = ap (λ l. l ++ more) long.whole ∙ append_assoc long.line long.more more;
}

-- a rest that ends by a bad line does so whatever follows
pub Ends-more : (rest more : List ℕ) → Ends rest Command → Ends (rest ++ more) Command
Ends-more rest more ends = elim ends [ inl bad ↦ inl (IsBadLine-more rest more bad) | inr long ↦ inr (IsLongLine-more rest more long) ]

-- what follows a bad line isn't read
pub Reads-more : (input more : List ℕ) (os : List Order) → Reads input os Command → Reads (input ++ more) os Command
Reads-more input more os reads = record {
  spelled = reads.spelled;
  rest = reads.rest ++ more;
  spells = reads.spells;
  ends = Ends-more reads.rest more reads.ends;
  whole = ap (λ l. l ++ more) reads.whole ∙ append_assoc reads.spelled reads.rest more;
}

-- what follows a bad line changes nothing that is written
pub Answers-more : (limit : ℕ) (input more output : List ℕ) (cost : ℕ) → Answers limit input Command output cost → Answers limit (input ++ more) Command output cost
Answers-more limit input more output cost answers = record {
  orders = answers.orders;
  replies = answers.replies;
  last = answers.last;
  reads = Reads-more input more answers.orders answers.reads;
  run = answers.run;
  shown = answers.shown;
}
