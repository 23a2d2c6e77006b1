use Rattle.std.proofs.Common.{◌≡◌, All, length, map, sym, ap, ap₂, subst, ◌∙◌}
use Rattle.rx_util.specs.Groups.{slot_len}
use Rattle.rx_chunk.specs.Iterating.{captured_of}
use Rattle.rx_chunk.proofs.EngineLaws.{if_ok}
use Rattle.rx_lists.specs.Lists.{Listed}
use Rattle.regex_cursor.specs.Listing.{TellsAll, captures_listed, leftmost_first}
use Rattle.regex_cursor.specs.Regexes.{search_by}
use Rattle.regex_cursor.proofs.ListingLaws.{as_iterated, have_room, list_of, tells_captures}
use Rattle.regex_cursor.proofs.engines.meta.regex.Regex.all_captures.Goals as goal

pub all_captures_of-requires : goal.all_captures_of-requires
all_captures_of-requires g c =
    let e = c.vm-vm.result.now in
    let len = c.slot_len-slots.result in
    let listed = c.in_ok-listed.listed.items in
    let all = list_of e c.program.result.now c.utf8_empty-inside.result c.args.input len listed c.program.ensures.program c.utf8_empty-inside.ensures c.in_ok-listed.ensures.listed in
    record {
      room = subst (λ xs. All (λ (l : Listed). length l.slots ≡ slot_len c.group_info-groups.result.now) xs) (sym c.deref.ensures.value)
          (subst (λ n. All (λ (l : Listed). length l.slots ≡ n) listed) c.slot_len-slots.ensures (have_room e len (search_by e c.args.input) listed all));
    }

pub returns-clause-all : goal.returns-clause-all
returns-clause-all g c =
    let e = c.vm-vm.result.now in
    let len = c.slot_len-slots.result in
    let listed = c.in_ok-listed.listed.items in
    let all = list_of e c.program.result.now c.utf8_empty-inside.result c.args.input len listed c.program.ensures.program c.utf8_empty-inside.ensures c.in_ok-listed.ensures.listed in
    let same : len ≡ slot_len e.groups = c.slot_len-slots.ensures ∙ ap slot_len c.group_info-groups.ensures.groups in
    if_ok c.all_captures_of.result
    (λ found noted. subst (λ x. TellsAll (leftmost_first x) (search_by x c.args.input) (captured_of x.groups (slot_len x.groups)) found.items) c.vm-vm.ensures
    (subst (λ n. TellsAll (leftmost_first e) (search_by e c.args.input) (captured_of e.groups n) found.items) same
    (tells_captures e len (search_by e c.args.input) listed all found.items (noted ∙ ap₂ (λ groups xs. map (captures_listed groups) xs) c.group_info-groups.ensures.groups c.deref.ensures.value))))
    c.all_captures_of.ensures.noted

pub returns-clause-iterated : goal.returns-clause-iterated
returns-clause-iterated g c = λ kind.
    let re = c.args.self.now in
    if_ok c.all_captures_of.result
    (λ found told. as_iterated re.engine (search_by re.engine c.args.input) (captured_of re.engine.groups (slot_len re.engine.groups)) found.items kind told) (returns-clause-all g c)
