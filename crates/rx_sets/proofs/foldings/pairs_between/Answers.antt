use Rattle.std.proofs.Common.{ℕ, nat_lt, nat_le, sym, subst, rules}
use Rattle.std.specs.List.Sorted.{IsNonDecreasingBy}
use Rattle.std.proofs.lemmas.List.Sorted.{IsPartitionPoint-from_clause, IsPartitionedBy-leb, IsPartitionedBy-ltb, IsNonDecreasingBy-drop}
use Rattle.rx_sets.proofs.PairLemmas.{IsNonDecreasingBy-fold_pairs, pairs_found}
use Rattle.rx_sets.proofs.foldings.pairs_between.Goals as goal

pub returns : goal.returns
returns c =
    let table = c.fold_pairs-pairs.result.now in
    let rest = c.split_at.result.1.now in
    let rise : IsNonDecreasingBy (λ (p : ℕ × ℕ). p.0) table = subst (IsNonDecreasingBy (λ (p : ℕ × ℕ). p.0)) (sym c.fold_pairs-pairs.ensures.table) IsNonDecreasingBy-fold_pairs in
    let rise_on : IsNonDecreasingBy (λ (p : ℕ × ℕ). p.0) rest =
    subst (IsNonDecreasingBy (λ (p : ℕ × ℕ). p.0)) (sym c.split_at.ensures.back) (IsNonDecreasingBy-drop (λ (p : ℕ × ℕ). p.0) c.partition_point.result table rise) in
    let first = IsPartitionPoint-from_clause (λ (p : ℕ × ℕ). nat_lt p.0 c.args.low) _ _ c.partition_point.ensures.partitioned
    (IsPartitionedBy-ltb (λ (p : ℕ × ℕ). p.0) _ c.args.low rise) (λ a r q k. search rules) in
    let last = IsPartitionPoint-from_clause (λ (p : ℕ × ℕ). nat_le p.0 c.args.high) _ _ c.partition_point-2.ensures.partitioned
    (IsPartitionedBy-leb (λ (p : ℕ × ℕ). p.0) _ c.args.high rise_on) (λ a r q k. search rules) in
    pairs_found table rest _ _ _ c.args.low c.args.high c.fold_pairs-pairs.ensures.meaning c.partition_point.ensures.bound first c.split_at.ensures.back
    c.partition_point-2.ensures.bound last c.split_at-2.ensures.front
