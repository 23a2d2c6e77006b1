-- The starts of branches, from the last one to the first.
use Rattle.std.proofs.Common.{◌≡◌, ℕ, suc, ◌+◌, ◌-◌, ◌<◌, ◌≤◌, ◌^◌, List, [], ◌∷◌, ◌++◌, length, reverse, append_assoc, sym, ap, subst, ◌∙◌, arith}
use Rattle.std.proofs.lemmas.List.{reverse-append}
use Rattle.rx_grammar.specs.declared.properties.Properties.{Properties}
use Rattle.rx_grammar.specs.Trees.{Tree}
use Rattle.rx_grammar.specs.Subtrees.{subtrees_of}
use Rattle.rx_grammar.specs.Weights.{size_of}
use Rattle.rx_grammar.specs.Nodes.{properties_of}
use Rattle.rx_program.specs.Jobs.{part_at, trees_before, HasPartsBefore, sizes_of, starts_of}
use Rattle.rx_program.proofs.FactLaws.{known_by}
use Rattle.rx_program.proofs.RowLaws.{sizes_of-append, starts_of-last}

-- the parts that are left come before those whose starts are known, the last one of these first
pub record Left (parts : List Tree) (n root end most base : ℕ) (all starts : List ℕ) : Type 0 where
  pub row : HasPartsBefore parts n root
  pub end_is : end ≡ base + sizes_of (trees_before parts n root)
  pub few : end ≤ most
  pub some : 1 ≤ base
  pub starts_are : all ≡ starts_of (trees_before parts n root) base ++ reverse starts

left_as : (parts : List Tree) (n m root end most base : ℕ) (all starts : List ℕ) → n ≡ suc m → Left parts n root end most base all starts → Left parts (suc m) root end most base all starts
left_as parts n m root end most base all starts e left = subst (λ k. Left parts k root end most base all starts) e left

pub left_below : (parts : List Tree) (n m root end most base : ℕ) (all starts : List ℕ) → n ≡ suc m → Left parts n root end most base all starts → root < length parts
left_below parts n m root end most base all starts e left = (left_as parts n m root end most base all starts e left).row.0

pub left_size : (parts : List Tree) (n m root end most base : ℕ) (all starts : List ℕ) (part : Properties) → n ≡ suc m → most < 2 ^ 64 → Left parts n root end most base all starts → part ≡ properties_of (part_at parts root)
    → part.size ≡ size_of (part_at parts root)
left_size parts n m root end most base all starts part e top left is =
    let on = left_as parts n m root end most base all starts e left in
    let t = part_at parts root in
    let sum = sizes_of-append (trees_before parts m (root - length (subtrees_of t))) (t ∷ []) in
    (known_by parts root part is).size (omega (arith, on.end_is, sum, on.few, on.some, top))

pub left_enough : (parts : List Tree) (n m root end most base : ℕ) (all starts : List ℕ) (part : Properties) → n ≡ suc m → most < 2 ^ 64 → Left parts n root end most base all starts → part ≡ properties_of (part_at parts root)
    → part.size ≤ end
left_enough parts n m root end most base all starts part e top left is =
    let on = left_as parts n m root end most base all starts e left in
    let t = part_at parts root in
    let sum = sizes_of-append (trees_before parts m (root - length (subtrees_of t))) (t ∷ []) in
    omega (arith, on.end_is, sum, left_size parts n m root end most base all starts part e top left is)

pub left_next : (parts : List Tree) (n m root root' end end' most base : ℕ) (all starts more : List ℕ) (part : Properties) → n ≡ suc m → most < 2 ^ 64 → Left parts n root end most base all starts → part ≡ properties_of (part_at parts root)
    → root' ≡ root - part.extent → end' ≡ end - part.size → more ≡ starts ++ end' ∷ [] → Left parts m root' end' most base all more
left_next parts n m root root' end end' most base all starts more part e top left is root_is end_is more_is =
    let on = left_as parts n m root end most base all starts e left in
    let t = part_at parts root in
    let ts = trees_before parts m (root - length (subtrees_of t)) in
    let sum = sizes_of-append ts (t ∷ []) in
    let size = left_size parts n m root end most base all starts part e top left is in
    let root_is' : root' ≡ root - length (subtrees_of t) = root_is ∙ ap (λ k. root - k) (known_by parts root part is).extent in
    let here : base + sizes_of ts ≡ end' = omega (arith, end_is, size, on.end_is, sum) in
    let back : reverse more ≡ end' ∷ reverse starts = ap reverse more_is ∙ reverse-append starts (end' ∷ []) in
    record {
      row = subst (HasPartsBefore parts m) (sym root_is') on.row.1;
      end_is = sym here ∙ ap (λ k. base + sizes_of (trees_before parts m k)) (sym root_is');
      few = omega (arith, end_is, on.few);
      some = on.some;
      starts_are = on.starts_are ∙ ap (λ x. x ++ reverse starts) (starts_of-last ts t base ∙ ap (λ k. starts_of ts base ++ k ∷ []) here)
          ∙ append_assoc (starts_of ts base) (end' ∷ []) (reverse starts) ∙ ap (λ x. starts_of ts base ++ x) (sym back) ∙ ap (λ k. starts_of (trees_before parts m k) base ++ reverse more) (sym root_is');
    }
