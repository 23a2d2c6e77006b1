use Rattle.std.proofs.Common.{◌≡◌, ◌∷◌, [], ℕ, List, length, sym, subst, ◌∙◌}
use Rattle.rx_literals.specs.declared.prefilter.Searcher.{Searcher}
use Rattle.rx_literals.specs.declared.prefilter.Searcher.TheVariants as searcher
use Rattle.rx_literals.specs.declared.first_bytes.FirstBytes.{FirstBytes}
use Rattle.rx_literals.specs.FirstBytes.{BeginAmong}
use Rattle.rx_literals.specs.NeedleTables.{BeginInTable}
use Rattle.rx_literals.specs.Needles.{FoundBetween}
use Rattle.rx_literals.specs.Prefilters.{SearchesNeedles}
use Rattle.rx_literals.proofs.SliceLaws.{only_needle}
use Rattle.rx_literals.proofs.prefilter.Parts.find.Goals as goal

one_by : (s : Searcher) (finder : List ℕ) (needles : List (List ℕ)) → s ≡ searcher.One finder → SearchesNeedles s needles → needles ≡ finder ∷ []
one_by s finder needles is searches = subst (λ x. SearchesNeedles x needles) is searches

pub find_one-requires : goal.find_one-requires
find_one-requires c = only_needle _ c.in-One.finder (one_by c.self.inside.searcher c.in-One.finder _ c.in-One.is c.self.invariant.searches) c.self.invariant.are.each

pub returns-in-One : goal.returns-in-One
returns-in-One c =
    let one : c.args.self.now ≡ c.in-One.finder ∷ [] = sym c.self.view_is ∙ one_by c.self.inside.searcher c.in-One.finder _ c.in-One.is c.self.invariant.searches in
    subst (λ needles. FoundBetween c.args.hay.now needles 0 (length c.args.hay.now) c.find_one.result) (sym one) c.find_one.ensures

first_by : (s : Searcher) (first : FirstBytes) (needles : List (List ℕ)) → s ≡ searcher.First first → SearchesNeedles s needles → BeginAmong first needles
first_by s first needles is searches = subst (λ x. SearchesNeedles x needles) is searches

pub try_first-requires : goal.try_first-requires
try_first-requires c =
    subst (λ needles. BeginAmong c.in-First.first needles) c.self.view_is (first_by c.self.inside.searcher c.in-First.first _ c.in-First.is c.self.invariant.searches)

table_by : (s : Searcher) (table : List ℕ) (needles : List (List ℕ)) → s ≡ searcher.Table table → SearchesNeedles s needles → BeginInTable table needles
table_by s table needles is searches = subst (λ x. SearchesNeedles x needles) is searches

pub try_table-requires : goal.try_table-requires
try_table-requires c =
    subst (λ needles. BeginInTable c.in-Table.table needles) c.self.view_is (table_by c.self.inside.searcher c.in-Table.table _ c.in-Table.is c.self.invariant.searches)
