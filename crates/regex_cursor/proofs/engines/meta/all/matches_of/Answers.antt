use Rattle.std.proofs.Common.{◌≡◌, ◌∷◌, [], ◌++◌, Some, map, take, slice_get, sym, ap, subst, ◌∙◌}
use Rattle.std.proofs.lemmas.Option.{slice_get-get_or}
use Rattle.std.proofs.lemmas.List.Elements.{All-get_or}
use Rattle.rx_lists.proofs.RoundLaws.{take_one_more, take_whole}
use Rattle.regex_cursor.specs.Listing.{IsWhole, match_listed}
use Rattle.regex_cursor.proofs.ListingLaws.{map_one_more}
use Rattle.regex_cursor.proofs.engines.meta.all.matches_of.Goals as goal

pub push_match-requires : goal.push_match-requires
push_match-requires c =
    let listed = c.args.listed.now in
    let n = c.loop-one.one-index in
    let x = c.one-item.result in
    record { whole = subst IsWhole (sym c.one-item.is) (All-get_or IsWhole listed n x c.loop-one-test.true c.requires.whole) }

pub loop-one-preserved : goal.loop-one-preserved
loop-one-preserved c =
    let listed = c.args.listed.now in
    let n = c.loop-one.one-index in
    let x = c.one-item.result in
    let here : slice_get listed n ≡ Some x = slice_get-get_or listed n x c.loop-one-test.true ∙ ap (λ y. Some y) (sym c.one-item.is) in
    c.in_ok-push_match.ensures ∙ ap (λ xs. xs ++ match_listed x ∷ []) c.loop-one.invariant ∙ sym (map_one_more match_listed (take n listed) x) ∙ ap (λ xs. map match_listed xs) (sym (take_one_more listed n x here))

pub returns : goal.returns
returns c = c.loop-one.invariant ∙ ap (λ xs. map match_listed xs) (take_whole c.args.listed.now c.loop-one.one-index c.loop-one-test.false)
