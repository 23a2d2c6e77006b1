use Rattle.std.proofs.Common.{◌≡◌, length, sym, ◌∙◌, arith}
use Rattle.std.proofs.lemmas.Bool.{eqb-true}
use Rattle.rx_onepass.proofs.MarkLaws.{all_bare}
use Rattle.rx_onepass.proofs.noted.are_bare.Goals as goal

pub returns : goal.returns
returns c = λ yes i slots same.
    let all : c.first_marked.result ≡ length c.args.marks.now = eqb-true c.first_marked.result (length c.args.marks.now) yes in
    all_bare i c.args.marks.now slots (λ k lt. c.first_marked.ensures.before k (omega (arith, all, lt))) same
