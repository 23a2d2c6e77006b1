use Rattle.std.proofs.Common.{◌≡◌, ◌≢◌, ◌≤◌, ◌<◌, AllPairs, refl, sym, ap, subst, ◌∙◌, arith}
use Rattle.std.proofs.lemmas.Result.{err_from_is_err_and}
use Rattle.rx_grammar.specs.Grammar.{Spells}
use Rattle.rx_grammar.specs.Postorder.{first_of, tree_of, names_in}
use Rattle.rx_grammar.specs.Resuming.{tree_at}
use Rattle.rx_grammar.specs.Places.{place_at_start}
use Rattle.rx_grammar.proofs.NameLaws.{names_in-tree}
use Rattle.rx_grammar.proofs.OutcomeLaws.{reason_of}
use Rattle.rx_grammar.proofs.WellFormedLaws.{well_formed}
use Rattle.rx_grammar.proofs.PatternLaws.{NoEnds-before, never_spells, spells_by, names_stand_twice, too_deep}
use Rattle.rx_grammar.proofs.patterns.parse_characters.Goals as goal

pub returns-in_err-read-clause-refused : goal.returns-in_err-read-clause-refused
returns-in_err-read-clause-refused c =
    let h = c.in_err-read.ensures.reads (place_at_start c.args.config.now) c.new-parser.ensures.stands in
    let p = err_from_is_err_and c.from_residual.result c.from_residual.ensures.1 in
    rw (p.1, p.2) (reason_of c.args.text.now c.args.config.now c.in_err-read.field-0.0 never_spells h)

pub finish-requires : goal.finish-requires
finish-requires c =
    let read = c.in_ok-read.ensures.reads (place_at_start c.args.config.now) c.new-parser.ensures.stands in
    record { stands = (read.next, read.stands) }

pub returns-in_err-trees-clause-refused : goal.returns-in_err-trees-clause-refused
returns-in_err-trees-clause-refused c =
    let read = c.in_ok-read.ensures.reads (place_at_start c.args.config.now) c.new-parser.ensures.stands in
    let h = c.in_err-trees.ensures.ends read.next read.stands in
    let p = err_from_is_err_and c.from_residual-in_err-trees.result c.from_residual-in_err-trees.ensures.1 in
    rw (p.1, p.2) (reason_of c.args.text.now c.args.config.now c.in_err-trees.field-0.0 (λ none. never_spells (NoEnds-before read.same none)) h)

pub into_hir-requires : goal.into_hir-requires
into_hir-requires c =
    let read = c.in_ok-read.ensures.reads (place_at_start c.args.config.now) c.new-parser.ensures.stands in
    let done = c.in_ok-trees.ensures.ends read.next read.stands in
    let once = rw c.if-not-distinct.false at c.in_ok-distinct.ensures in
    let names = ap names_in c.nodes.ensures ∙ names_in-tree c.in_ok-trees.trees done.tree_is in
    let fits : read.next.level.depth ≤ c.args.config.now.nest_limit =
    omega (arith, c.if-depth-get_nest_limit.false, c.get_nest_limit.ensures, c.get_nest_limit.type_inv, done.depth_is) in
    let spells = spells_by c.args.text.now c.args.config.now read.next (tree_at read.next.level) read.same done.nothing_open refl fits
    (subst (λ l. AllPairs (λ a b. a ≢ b) l) names once) c.requires.size in
    (tree_at read.next.level, done.tree_is, well_formed spells)

pub returns-clause-spells : goal.returns-clause-spells
returns-clause-spells c =
    let read = c.in_ok-read.ensures.reads (place_at_start c.args.config.now) c.new-parser.ensures.stands in
    let done = c.in_ok-trees.ensures.ends read.next read.stands in
    let once = rw c.if-not-distinct.false at c.in_ok-distinct.ensures in
    let names = ap names_in c.nodes.ensures ∙ names_in-tree c.in_ok-trees.trees done.tree_is in
    let fits : read.next.level.depth ≤ c.args.config.now.nest_limit =
    omega (arith, c.if-depth-get_nest_limit.false, c.get_nest_limit.ensures, c.get_nest_limit.type_inv, done.depth_is) in
    let is : tree_of c.into_hir.result ≡ tree_at read.next.level = ap tree_of c.into_hir.ensures ∙ ap first_of done.tree_is in
    subst (λ x. Spells c.args.text.now c.args.config.now x) (sym is)
    (spells_by c.args.text.now c.args.config.now read.next (tree_at read.next.level) read.same done.nothing_open refl fits (subst (λ l. AllPairs (λ a b. a ≢ b) l) names once) c.requires.size)

pub returns-then-not-distinct-clause-refused : goal.returns-then-not-distinct-clause-refused
returns-then-not-distinct-clause-refused c =
    let read = c.in_ok-read.ensures.reads (place_at_start c.args.config.now) c.new-parser.ensures.stands in
    let done = c.in_ok-trees.ensures.ends read.next read.stands in
    let twice = rw c.if-not-distinct.true at c.in_ok-distinct.ensures in
    let names = ap names_in c.nodes.ensures ∙ names_in-tree c.in_ok-trees.trees done.tree_is in
    names_stand_twice read.next (tree_at read.next.level) read.same done.nothing_open refl (λ once. twice (subst (λ l. AllPairs (λ a b. a ≢ b) l) (sym names) once))

pub returns-then-depth-get_nest_limit-clause-refused : goal.returns-then-depth-get_nest_limit-clause-refused
returns-then-depth-get_nest_limit-clause-refused c =
    let read = c.in_ok-read.ensures.reads (place_at_start c.args.config.now) c.new-parser.ensures.stands in
    let done = c.in_ok-trees.ensures.ends read.next read.stands in
    let once = rw c.if-not-distinct.false at c.in_ok-distinct.ensures in
    let names = ap names_in c.nodes.ensures ∙ names_in-tree c.in_ok-trees.trees done.tree_is in
    let deep : c.args.config.now.nest_limit < read.next.level.depth =
    omega (arith, c.if-depth-get_nest_limit.true, c.get_nest_limit.ensures, done.depth_is) in
    too_deep c.args.text.now c.args.config.now read.next read.same done.nothing_open deep (subst (λ l. AllPairs (λ a b. a ≢ b) l) names once) c.requires.size
