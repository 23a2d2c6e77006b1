-- The columns so far.
use Rattle.std.proofs.Common.{◌≡◌, length, take, drop, map}
use Rattle.std.specs.Str.{IsCharBoundary}
use Rattle.rope_search_reports.specs.Text.{bytes_of}
use Rattle.rope_search_reports.specs.Report.{column, columns}
use Rattle.rope_search_reports.specs.Replacement.{FollowEachOther, alone}
use Rattle.rope_search_reports.specs.Drafts.{own_text}
use Rattle.rope_search_reports.proofs.line.Line.turn_into_columns.Given as goal

abbrev pub invariant-loop-index : goal.invariant-loop-index
invariant-loop-index l =
    let content = bytes_of (own_text l.self) in
    let all = l.fn.spans in
    (length l.spans ≡ length all) × (take l.index l.spans ≡ map (columns content) (take l.index all)) × (drop l.index l.spans ≡ drop l.index all)
    × FollowEachOther content l.place (map alone (drop l.index all)) × IsCharBoundary content l.place × (l.place_column ≡ column content l.place)
