-- Whole inputs: each has an answer, and what follows a bad line changes nothing.
use Rattle.std.proofs.Common.{ℕ, List, ◌++◌, refl, sym, subst}
use Rattle.rope_search_reports.specs.Laws.{HasReport}
use Rattle.rope_search.specs.declared.endings.Ended.{Ended}
use Rattle.rope_search.specs.declared.endings.Ended.TheVariants.{Command}
use Rattle.rope_search.specs.Order.{Order}
use Rattle.rope_search.specs.Session.{first_state}
use Rattle.rope_search.specs.Reads.{Reads}
use Rattle.rope_search.specs.Shows.{closing}
use Rattle.rope_search.specs.Answers.{Run, Answers}
use Rattle.rope_search.specs.Laws.{Known}
use Rattle.rope_search.proofs.RunLaws.{Reads-more}
use Rattle.rope_search.proofs.HoldLaws.{first_holds}
use Rattle.rope_search.proofs.ExistLaws.{run_exists}
use Rattle.rope_search.proofs.ReadLaws.{reads_exist, reads_one}

-- each input has an answer
pub answers_exist : Known → HasReport → (limit : ℕ) (input : List ℕ) → (ending : Ended) × (output : List ℕ) × (cost : ℕ) × Answers limit input ending output cost
answers_exist known reported limit input =
    let reads = reads_exist input in
    let run = run_exists known reported limit first_state reads.0 first_holds in
    (reads.1, run.0 ++ closing reads.1, run.1, record { orders = reads.0; replies = run.0; last = run.2; reads = reads.2; run = run.3; shown = refl })

-- an input that ended by a bad line has the answer of the input without what follows that
pub Answers-less : (limit : ℕ) (orders : List Order) (input more output : List ℕ) (cost : ℕ) → Reads input orders Command
    → Answers limit (input ++ more) Command output cost → Answers limit input Command output cost
Answers-less limit orders input more output cost reads answers =
    let same = (reads_one (input ++ more) orders answers.orders Command Command (Reads-more input more orders reads) answers.reads).0 in
    record {
      orders = orders;
      replies = answers.replies;
      last = answers.last;
      reads = reads;
      run = subst (λ os. Run limit first_state os answers.replies cost answers.last) (sym same) answers.run;
      shown = answers.shown;
    }
