use Rattle.std.proofs.Common.{◌≡◌, ◌+◌, length, sym, subst, arith}
use Rattle.rx_walks.specs.Finds.{IsInside}
use Rattle.rx_steps.specs.Searching.{search_of}
use Rattle.rx_onepass.specs.Alone.{AreAhead, IsAlone}
use Rattle.rx_onepass.proofs.AloneLaws.{ahead_inside}
use Rattle.rx_onepass.proofs.search.Walker.run.Goals as goal

pub returns-clause-inside : goal.returns-clause-inside
returns-clause-inside g c = λ utf8_empty inside.
    let s = search_of utf8_empty c.args.input.now in
    let i = c.args.input.now.position in
    let at : c.position-at.result ≡ i = c.position-at.ensures.position in
    let there : IsInside s (i + c.run-read.result.0) = ahead_inside s i c.run-read.result.0 c.bytes_ahead.result.now (c.bytes_ahead.ensures utf8_empty inside) inside c.run-read.ensures.within in
    let to : c.move_to.new.self.position ≡ i + c.run-read.result.0 = omega (arith, c.move_to.ensures.position_is, there.4, at) in
    subst (λ j. IsInside s j) (sym to) there

pub returns-clause-alone : goal.returns-clause-alone
returns-clause-alone g c = λ p utf8_empty q are inside alone.
    let s = search_of utf8_empty c.args.input.now in
    let i = c.args.input.now.position in
    let len = length c.args.slots.now in
    let at : c.position-at.result ≡ i = c.position-at.ensures.position in
    let ahead = c.bytes_ahead.ensures utf8_empty inside in
    let there : IsInside s (i + c.run-read.result.0) = ahead_inside s i c.run-read.result.0 c.bytes_ahead.result.now ahead inside c.run-read.ensures.within in
    let to : c.position-at.result + c.run-read.result.0 ≡ c.move_to.new.self.position = omega (arith, c.move_to.ensures.position_is, there.4, at) in
    subst (λ j. IsAlone p s q len j c.run-read.new.slots c.run-read.result.1) to
    (c.run-read.ensures.alone p s q len are (subst (λ j. AreAhead s j c.bytes_ahead.result.now) (sym at) ahead) (subst (λ j. IsAlone p s q len j c.args.slots.now c.args.node) (sym at) alone))
