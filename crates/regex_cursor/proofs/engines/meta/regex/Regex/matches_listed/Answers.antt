use Rattle.std.proofs.Common.{◌*◌, ◌≤◌, All, length, map, sym, ap, subst, ◌∙◌, arith}
use Rattle.rx_chunk.specs.Engines.{match_of}
use Rattle.regex_cursor.specs.Listing.{IsWhole, TellsAll, leftmost_first, match_listed}
use Rattle.regex_cursor.specs.Regexes.{search_by}
use Rattle.regex_cursor.proofs.ListingLaws.{are_whole, list_of, tells_matches}
use Rattle.regex_cursor.proofs.engines.meta.regex.Regex.matches_listed.Goals as goal

pub matches_of-requires : goal.matches_of-requires
matches_of-requires g c =
    let e = c.vm-vm.result.now in
    let len = c.implicit_slot_len-slots.result in
    let listed = c.in_ok-listed.listed.items in
    let all = list_of e c.program.result.now c.utf8_empty-inside.result c.args.input len listed c.program.ensures.program c.utf8_empty-inside.ensures c.in_ok-listed.ensures.listed in
    let room : 2 * length e.groups ≤ len = omega (arith, c.implicit_slot_len-slots.ensures.len, ap length c.group_info.ensures.groups) in
    record { whole = subst (λ xs. All IsWhole xs) (sym c.deref.ensures.value) (are_whole e c.program.ensures.engine len room (search_by e c.args.input) listed all) }

pub returns-clause-all : goal.returns-clause-all
returns-clause-all g c =
    let e = c.vm-vm.result.now in
    let len = c.implicit_slot_len-slots.result in
    let listed = c.in_ok-listed.listed.items in
    let items = c.in_ok-matches_of.field-0.items in
    let all = list_of e c.program.result.now c.utf8_empty-inside.result c.args.input len listed c.program.ensures.program c.utf8_empty-inside.ensures c.in_ok-listed.ensures.listed in
    let room : 2 * length e.groups ≤ len = omega (arith, c.implicit_slot_len-slots.ensures.len, ap length c.group_info.ensures.groups) in
    subst (λ x. TellsAll (leftmost_first x) (search_by x c.args.input) match_of items) c.vm-vm.ensures
    (tells_matches e c.program.ensures.engine len room (search_by e c.args.input) listed all items (c.in_ok-matches_of.ensures ∙ ap (λ xs. map match_listed xs) c.deref.ensures.value))
