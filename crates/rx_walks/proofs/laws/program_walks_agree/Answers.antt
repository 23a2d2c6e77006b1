use Rattle.std.specs.Prelude.{[]}
use Rattle.rx_walks.specs.Refinements.{Refines}
use Rattle.rx_walks.specs.Laws.{byte_machine_of}
use Rattle.rx_walks.specs.ProgramFinds.{machine_of, first_by, haystack_of, holds_in}
use Rattle.rx_walks.specs.Programs.{put_note, fresh_notes}
use Rattle.rx_walks.proofs.AllFindLaws.{paths_agree}
use Rattle.rx_walks.proofs.ForwardLaws.{number_told, pair_told}
use Rattle.rx_walks.proofs.ProgramLaws.{bytes_refine}
use Rattle.rx_walks.proofs.RefinementLaws.{refined, unrefined, least_refined}
use Rattle.rx_walks.proofs.laws.program_walks_agree.Goals as goal

pub returns : goal.returns
returns c = λ w member is_word p step members s.
    let refines : Refines (machine_of member is_word p s) (byte_machine_of is_word p step s) (λ q. (q, 0)) =
    bytes_refine put_note (first_by member) step p.nodes (haystack_of (holds_in is_word p.line_terminator s) s) members in
    record {
      walks = λ n q i choices t. ((λ walk. refined refines walk), (λ walk. unrefined [] q refines walk));
      least = λ n q i t. least_refined refines;
      paths = λ q i a e. paths_agree q i a e refines number_told pair_told (fresh_notes 0);
    }
