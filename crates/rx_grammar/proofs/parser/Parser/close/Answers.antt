use Rattle.std.proofs.Common.{◌≡◌, ◌+◌, ◌-◌, ◌^◌, min, [], ◌∷◌, length, reverse, sym, ap, ◌∙◌, arith}
use Rattle.std.proofs.lemmas.List.{reverse-append}
use Rattle.rx_grammar.specs.Groups.{opened, grouped}
use Rattle.rx_grammar.specs.Heads.{capture_of}
use Rattle.rx_grammar.specs.Resuming.{tree_at}
use Rattle.rx_grammar.proofs.PlaceLaws.{refusal_map, result_map, no_arounds, innermost, captured_grouped, behind_group, close_read, close_refused, close_unopened, held-next}
use Rattle.rx_grammar.proofs.parser.Parser.close.Goals as goal

pub returns-in_default : goal.returns-in_default
returns-in_default c = record {
  reads = λ place stands.
      let e = c.in_ok-end_level.ensures.ends place stands in
      let around = c.end_level.new.self.around in
      let none : length around.items ≡ 0 = omega (arith, c.in_default.ensures.cases.0, around.ok.0) in
      close_unopened c.args.rest.now place (no_arounds around.items none e.around);
}

pub push_group-requires : goal.push_group-requires
push_group-requires c =
    let e = c.in_ok-end_level.ensures.ends c.requires.stands.0 c.requires.stands.1 in
    omega (arith, ap length e.trees_are)

pub finish_item-requires : goal.finish_item-requires
finish_item-requires c =
    let place = c.requires.stands.0 in
    let e = c.in_ok-end_level.ensures.ends place c.requires.stands.1 in
    let turned = ap reverse c.in-Some.ensures.items ∙ reverse-append c.pop.new.self.items (c.in-Some.field-0 ∷ []) in
    let inner = innermost turned e.around in
    let k = capture_of c.in-Some.field-0.captures in
    let made = c.in_ok-push_group.ensures (tree_at place.level) e.below e.trees_are in
    let same = captured_grouped c.in-Some.field-0.number inner.group.groups k (tree_at place.level) (inner.number ∙ ap (opened inner.group.groups) (sym inner.captures)) ∙ ap (λ x. grouped inner.group.groups x (tree_at place.level)) inner.captures in record {
      stands = (
        behind_group place inner.group inner.others,
        grouped inner.group.groups inner.group.capture (tree_at place.level),
        record {
          trees = e.below;
          below = inner.below;
          trees_are = made ∙ ap (λ x. x ∷ e.below) same;
          level = inner.level;
          settings = inner.settings;
          groups = e.groups_are;
          around = inner.rest;
        },
      );
    }

pub returns : goal.returns
returns c = record {
  reads = λ place stands.
      let e = c.in_ok-end_level.ensures.ends place stands in
      let turned = ap reverse c.in-Some.ensures.items ∙ reverse-append c.pop.new.self.items (c.in-Some.field-0 ∷ []) in
      let inner = innermost turned e.around in
      let k = capture_of c.in-Some.field-0.captures in
      let made = c.in_ok-push_group.ensures (tree_at place.level) e.below e.trees_are in
      let same = captured_grouped c.in-Some.field-0.number inner.group.groups k (tree_at place.level) (inner.number ∙ ap (opened inner.group.groups) (sym inner.captures)) ∙ ap (λ x. grouped inner.group.groups x (tree_at place.level)) inner.captures in
      let deep = c.saturating_add-depth.ensures ∙ ap (λ x. min (x + 1) (2 ^ 64 - 1)) e.depth_is ∙ held-next place.level.depth in
      result_map _ _ _ _ c.finish_item.result (λ rest read. close_read place inner.groups_are read e.groups)
      (λ err h. refusal_map err (λ none. close_refused place inner.groups_are none) h)
      (c.finish_item.ensures.reads (behind_group place inner.group inner.others) (grouped inner.group.groups inner.group.capture (tree_at place.level)) (place.level.depth + 1) (record {
        trees = e.below;
        below = inner.below;
        trees_are = made ∙ ap (λ x. x ∷ e.below) same;
        level = inner.level;
        settings = inner.settings;
        groups = e.groups_are;
        around = inner.rest;
      }) deep);
}
