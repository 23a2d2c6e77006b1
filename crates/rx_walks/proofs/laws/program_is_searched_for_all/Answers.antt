use Rattle.std.proofs.Common.{sym, subst}
use Rattle.rx_walks.specs.ProgramFinds.{IfStarts, haystack_of, holds_in, first_by, machine_of}
use Rattle.rx_walks.specs.Finds.{IsFindAll}
use Rattle.rx_walks.specs.Programs.{put_note, fresh_notes}
use Rattle.rx_walks.proofs.AllFindLaws.{readers_find_all}
use Rattle.rx_walks.proofs.WholeLaws.{reads_whole}
use Rattle.rx_walks.proofs.laws.program_is_searched_for_all.Goals as goal

pub returns : goal.returns
returns c = λ w member is_word p step members s q out starts searches.
    let h = haystack_of (holds_in is_word p.line_terminator s) s in
    let found = readers_find_all put_note (first_by member) step p.nodes h s fresh_notes q out members (reads_whole put_note member p.nodes h) searches in
    subst (λ x. IfStarts x (λ q'. IsFindAll (machine_of member is_word p s) fresh_notes s q') out) (sym starts) found
