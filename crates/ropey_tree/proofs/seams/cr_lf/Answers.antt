use Rattle.std.proofs.Common.{◌≡◌, ◌++◌, take, ap, arith, ◌∙◌}
use Rattle.std.specs.Str.{chars}
use Rattle.str_indices.specs.Text.{byte_len}
use Rattle.ropey_tree.proofs.OverSeams.{chars-cr_lf, cr_lf, cr_lf_len}
use Rattle.ropey_tree.proofs.seams.cr_lf.Goals as goal
use Rattle.ropey_tree.proofs.seams.cr_lf.Goals.{After-fill}

text_is : (c : After-fill) → c.fill.new.self ≡ cr_lf
text_is c =
    let none = ap byte_len c.new-leaf.ensures in
    let all : c.fill.result ≡ 2 = c.fill.ensures.all (omega (arith, none)) in
    c.fill.ensures.text ∙ ap (λ t. t ++ chars (take c.fill.result cr_lf)) c.new-leaf.ensures ∙ ap (λ n. chars (take n cr_lf)) all ∙ chars-cr_lf

pub returns-clause-text : goal.returns-clause-text
returns-clause-text c = text_is (goal.at.returns-clause-text c).After-fill

pub returns-clause-some : goal.returns-clause-some
returns-clause-some c = omega (arith, ap byte_len (text_is (goal.at.returns-clause-some c).After-fill), cr_lf_len)
