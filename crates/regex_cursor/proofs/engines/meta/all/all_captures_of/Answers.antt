use Rattle.std.proofs.Common.{◌≡◌, ◌∷◌, [], ◌++◌, Some, length, map, take, slice_get, sym, ap, subst, ◌∙◌}
use Rattle.std.proofs.lemmas.Option.{slice_get-get_or}
use Rattle.std.proofs.lemmas.List.Elements.{All-get_or}
use Rattle.rx_util.specs.Groups.{slot_len}
use Rattle.rx_lists.specs.Lists.{Listed}
use Rattle.rx_lists.proofs.RoundLaws.{take_one_more, take_whole}
use Rattle.regex_cursor.specs.Listing.{captures_listed}
use Rattle.regex_cursor.proofs.ListingLaws.{map_one_more}
use Rattle.regex_cursor.proofs.engines.meta.all.all_captures_of.Goals as goal

pub push_captures-requires : goal.push_captures-requires
push_captures-requires c =
    let listed = c.args.listed.now in
    let n = c.loop-one.one-index in
    let x = c.one-item.result in
    record { room = subst (λ (l : Listed). length l.slots ≡ slot_len c.args.groups.now) (sym c.one-item.is) (All-get_or (λ (l : Listed). length l.slots ≡ slot_len c.args.groups.now) listed n x c.loop-one-test.true c.requires.room) }

pub loop-one-preserved : goal.loop-one-preserved
loop-one-preserved c =
    let noted = captures_listed c.args.groups.now in
    let listed = c.args.listed.now in
    let n = c.loop-one.one-index in
    let x = c.one-item.result in
    let here : slice_get listed n ≡ Some x = slice_get-get_or listed n x c.loop-one-test.true ∙ ap (λ y. Some y) (sym c.one-item.is) in
    c.in_ok-push_captures.ensures.noted ∙ ap (λ xs. xs ++ noted x ∷ []) c.loop-one.invariant ∙ sym (map_one_more noted (take n listed) x) ∙ ap (λ xs. map noted xs) (sym (take_one_more listed n x here))

pub returns-clause-noted : goal.returns-clause-noted
returns-clause-noted c = c.loop-one.invariant ∙ ap (λ xs. map (captures_listed c.args.groups.now) xs) (take_whole c.args.listed.now c.loop-one.one-index c.loop-one-test.false)
