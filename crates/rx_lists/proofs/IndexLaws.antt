-- Sets of nodes in bits.
use Rattle.std.proofs.Common.{◌≡◌, ◌≢◌, ℕ, true, List, Some, sym, ap, ap₂, ◌∙◌, inl, inr}
use Rattle.std.proofs.lemmas.Bool.{cases_eq}
use Rattle.rx_steps.specs.Nodes.{index_from}
use Rattle.rx_steps.proofs.IndexLaws.{one_index}
use Rattle.rx_lists.specs.Bits.{has_bit, IsPut}

pub put_one : (widths old new : List ℕ) (x : ℕ × ℕ) (n : ℕ) → index_from 0 widths x.0 x.1 ≡ Some n → has_bit new n ≡ true → ((k : ℕ) → k ≢ n → has_bit new k ≡ has_bit old k) → IsPut widths old x new
put_one widths old new x n at there others = record {
  only = λ q has. elim (cases_eq has.0 n) [
    | inl same ↦ let one = one_index 0 widths x.0 x.1 q.0 q.1 n at (has.1 ∙ ap (λ k. Some k) same) in inr (ap₂ (λ a b. (a, b)) one.0 one.1)
    | inr other ↦ inl (has.0, has.1, sym (others has.0 other) ∙ has.2)
  ];
  others = λ q has. elim (cases_eq has.0 n) [
    | inl same ↦ (has.0, has.1, ap (λ k. has_bit new k) same ∙ there)
    | inr other ↦ (has.0, has.1, others has.0 other ∙ has.2)
  ];
  there = λ k at'. (n, at, there);
}
