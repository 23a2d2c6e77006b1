-- A program has at most one find, and at most one list of matches.
use Rattle.std.proofs.Common.{◌≡◌, ℕ, Bool, List, Option, Some, None, refl, sym, ap, ◌∙◌, arith}
use Rattle.rx_walks.specs.Machines.{Machine, Outcome}
use Rattle.rx_walks.specs.Looks.{Look}
use Rattle.rx_walks.specs.Finds.{Search, from_place_on, PatternMatch, IsAtLeast, IsFindAll, none_at_all, greatest}
use Rattle.rx_walks.specs.Programs.{Program, Notes}
use Rattle.rx_walks.specs.ProgramFinds.{start_node, IfStarts, ProgramFinds, ProgramFindsAll, ProgramMatches, ProgramMatchesAll}
use Rattle.rx_walks.proofs.FindLaws.{find_unique, matches_unique}

pub match_is : (a b : PatternMatch) → a.start ≡ b.start → a.pattern ≡ b.pattern → a.end ≡ b.end → a ≡ b
match_is a b start pattern end =
    ap (λ x. record { start = x; pattern = a.pattern; end = a.end }) start
    ∙ ap (λ x. record { start = b.start; pattern = x; end = a.end }) pattern
    ∙ ap (λ x. record { start = b.start; pattern = b.pattern; end = x }) end

at_least_same : (a b : PatternMatch) → IsAtLeast a b → IsAtLeast b a → a ≡ b
at_least_same a b one other =
    let end : a.end ≡ b.end = omega (arith, one.by_end, other.by_end) in
    let start : a.start ≡ b.start = omega (arith, one.by_start (sym end), other.by_start end) in
    match_is a b start (omega (arith, one.by_pattern (sym end) (sym start), other.by_pattern end start)) end

pub find_all_unique : {Q N : Type 0} {m : Machine Q N} {fresh : ℕ → N} {s : Search} {q : Q} {out out' : Option PatternMatch} → IsFindAll m fresh s q out → IsFindAll m fresh s q out' → out ≡ out'
find_all_unique (none_at_all never) (none_at_all never') = refl
find_all_unique (none_at_all never) (greatest {a = a} counts best) = absurd (never a counts)
find_all_unique (greatest {a = a} counts best) (none_at_all never) = absurd (never a counts)
find_all_unique (greatest {a = a} counts best) (greatest {a = b} counts' best') = ap Some (at_least_same a b (best b counts') (best' a counts))

-- if there is a start node
pub starts_unique : {A : Type 0} (o : Option ℕ) (finds : ℕ → Option A → Type 0) (out out' : Option A) → ((q : ℕ) → finds q out → finds q out' → out ≡ out') → IfStarts o finds out → IfStarts o finds out' → out ≡ out'
starts_unique None finds out out' one e e' = e ∙ sym e'
starts_unique (Some q) finds out out' one is is' = one q is is'

module _ {S : Type 0} (member : S → ℕ → Bool) (is_word : ℕ → Bool) (p : Program Look S) where
  pub program_find_unique : (s : Search) (out out' : Option (Outcome Notes)) → ProgramFinds member is_word p s out → ProgramFinds member is_word p s out' → out ≡ out'
  program_find_unique s out out' is is' = starts_unique (start_node p s.anchoring) _ out out' (λ q one other. find_unique one other) is is'

  pub program_find_all_unique : (s : Search) (out out' : Option PatternMatch) → ProgramFindsAll member is_word p s out → ProgramFindsAll member is_word p s out' → out ≡ out'
  program_find_all_unique s out out' is is' = starts_unique (start_node p s.anchoring) _ out out' (λ q one other. find_all_unique one other) is is'

  pub program_matches_unique : (s : Search) (ms ms' : List (Outcome Notes)) → ProgramMatches member is_word p s ms → ProgramMatches member is_word p s ms' → ms ≡ ms'
  program_matches_unique s ms ms' is is' = matches_unique (λ i out out' one other. program_find_unique (from_place_on s i) out out' one other) is is'

  pub program_matches_all_unique : (s : Search) (ms ms' : List PatternMatch) → ProgramMatchesAll member is_word p s ms → ProgramMatchesAll member is_word p s ms' → ms ≡ ms'
  program_matches_all_unique s ms ms' is is' = matches_unique (λ i out out' one other. program_find_all_unique (from_place_on s i) out out' one other) is is'
