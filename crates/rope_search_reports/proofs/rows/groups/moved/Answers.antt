use Rattle.std.proofs.Common.{◌≡◌, ◌+◌, ◌<◌, [], ◌∷◌, ◌++◌, length, map, take, get_or, refl, ap, sym, ◌∙◌, arith}
use Rattle.std.specs.Prelude.{option_map}
use Rattle.std.proofs.lemmas.List.{length-set, map-append, take_all, take_more}
use Rattle.std.proofs.lemmas.Grind.{take-set_at}
use Rattle.rope_search_reports.specs.LineGroups.{moved, moved_span}
use Rattle.rope_search_reports.proofs.ListedLemmas.{fits-moved}
use Rattle.rope_search_reports.proofs.rows.groups.moved.Goals as goal

pub moved_span-requires : goal.moved_span-requires
moved_span-requires c =
    fits-moved _ c.args.start _ (c.requires.spans c.loop-k.k _ (omega (arith, c.told-groups, c.loop-k-test.true))) (omega (arith, c.requires.fits))

pub loop-k-init : goal.loop-k-init
loop-k-init c = (refl, refl)

pub loop-k-preserved : goal.loop-k-preserved
loop-k-preserved c =
    let f = option_map (moved_span c.args.start) in
    let groups = c.args.groups.now in
    let k = c.loop-k.k in
    let long = c.loop-k.invariant.0 in
    let below : k < length c.loop-k.told = omega (arith, long, c.loop-k-test.true) in
    let inside : k < length groups = omega (arith, c.told-groups, c.loop-k-test.true) in (
      length-set c.loop-k.told k c.moved_span.result ∙ long,
      take-set_at c.loop-k.told k (k + 1) c.moved_span.result refl below
          ∙ ap (λ gs. gs ++ c.moved_span.result ∷ []) c.loop-k.invariant.1
          ∙ ap (λ g. map f (take k groups) ++ g ∷ []) c.moved_span.ensures
          ∙ sym (ap (map f) (take_more groups k _ inside) ∙ map-append f (take k groups) (get_or groups k _ ∷ [])),
    )

pub returns : goal.returns
returns c =
    let ten : c.loop-k.k ≡ 10 = omega (arith, c.loop-k-test.false, c.loop-k.auto.k-end) in
    sym (take_all c.loop-k.k c.loop-k.told (omega (arith, ten, c.loop-k.invariant.0)))
    ∙ c.loop-k.invariant.1 ∙ ap (moved c.args.start) (take_all c.loop-k.k c.args.groups.now (omega (arith, ten, c.told-groups)))
