use Rattle.std.proofs.Common.{◌≡◌, ◌+◌, ◌<◌, [], ◌∷◌, ◌++◌, length, map, option_map, take, get_or, refl, ap, sym, ◌∙◌, arith}
use Rattle.std.proofs.lemmas.List.{length-set, map-append, take_all, take_more}
use Rattle.std.proofs.lemmas.Grind.{take-set_at}
use Rattle.str_indices.specs.Text.{byte_len}
use Rattle.ropey.specs.Chunks.{text_of}
use Rattle.ropey.specs.Slices.{slice_text}
use Rattle.rope_search_reports.specs.Position.{line_start, line_text}
use Rattle.rope_search.specs.MatchEdits.{placed, placed_behind}
use Rattle.rope_search.proofs.PartLaws.{byte_len-append}
use Rattle.rope_search.proofs.match_edits.groups_in_text.Goals as goal

pub loop-k-init : goal.loop-k-init
loop-k-init c = (refl, refl)

pub span_from-requires : goal.span_from-requires
span_from-requires c =
    let text = text_of c.args.text.now in
    let h = c.lines_in_place.ensures text c.args.line c.requires in
    let own = line_text text c.args.line in
    omega (
      arith,
      c.line_to_byte-start.ensures,
      h.starts,
      ap byte_len c.line_text-own.ensures,
      ap byte_len h.parts,
      byte_len-append h.before (own ++ h.behind),
      byte_len-append own h.behind,
      c.len_bytes.ensures.bytes,
      c.len_bytes.ensures.fits,
    )

pub loop-k-preserved : goal.loop-k-preserved
loop-k-preserved c =
    let f = option_map (placed_behind c.line_to_byte-start.result (slice_text c.line_text-own.result)) in
    let groups = c.args.groups.now in
    let k = c.loop-k.k in
    let long = c.loop-k.invariant.0 in
    let below : k < length c.loop-k.placed = omega (arith, long, c.loop-k-test.true) in
    let inside : k < length groups = omega (arith, c.told-groups, c.loop-k-test.true) in (
      length-set c.loop-k.placed k c.span_from.result ∙ long,
      take-set_at c.loop-k.placed k (k + 1) c.span_from.result refl below
          ∙ ap (λ gs. gs ++ c.span_from.result ∷ []) c.loop-k.invariant.1
          ∙ ap (λ g. map f (take k groups) ++ g ∷ []) c.span_from.ensures
          ∙ sym (ap (map f) (take_more groups k _ inside) ∙ map-append f (take k groups) (get_or groups k _ ∷ [])),
    )

pub returns : goal.returns
returns c =
    let ten : c.loop-k.k ≡ 10 = omega (arith, c.loop-k-test.false, c.loop-k.auto.k-end) in
    let groups = c.args.groups.now in
    sym (take_all c.loop-k.k c.loop-k.placed (omega (arith, ten, c.loop-k.invariant.0)))
    ∙ c.loop-k.invariant.1
    ∙ ap (map (option_map (placed_behind c.line_to_byte-start.result (slice_text c.line_text-own.result)))) (take_all c.loop-k.k groups (omega (arith, ten, c.told-groups)))
    ∙ ap (λ n. map (option_map (placed_behind n (slice_text c.line_text-own.result))) groups) c.line_to_byte-start.ensures
    ∙ ap (λ t. map (option_map (placed_behind (line_start (text_of c.args.text.now) c.args.line) t)) groups) c.line_text-own.ensures
