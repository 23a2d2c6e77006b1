use Rattle.std.proofs.Common.{sym, ap, ap₂, ◌∙◌}
use Rattle.rx_util.specs.Captured.{span_between}
use Rattle.rx_chunk.proofs.pikevm.match_in.Goals as goal

pub new-requires : goal.new-requires
new-requires c =
    let start = sym (ap (λ places. places.0) c.whole_places.ensures) ∙ c.in-Some-Some.is-0 in
    let end = sym (ap (λ places. places.1) c.whole_places.ensures) ∙ c.in-Some-Some.is-1 in
    record { ordered = c.requires.ordered (record { start = c.in-Some-Some.start; end = c.in-Some-Some.end }) (ap₂ (λ i j. span_between i j) start end) }
