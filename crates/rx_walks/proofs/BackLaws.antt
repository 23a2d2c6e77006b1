-- A backward search has one result.
use Rattle.std.proofs.Common.{◌≡◌, ℕ, Bool, Option, Some, refl, sym, ap, ◌∙◌, arith}
use Rattle.rx_walks.specs.Machines.{Machine}
use Rattle.rx_walks.specs.Looks.{Look}
use Rattle.rx_walks.specs.Finds.{Search, PatternMatch}
use Rattle.rx_walks.specs.Programs.{Program}
use Rattle.rx_walks.specs.ProgramFinds.{start_node}
use Rattle.rx_walks.proofs.UniqueLaws.{match_is, starts_unique}
use Rattle.rx_walks.specs.Backward.{IsFindBack, none_back, least_back, ProgramFindsBack}

one_answer : {Q N : Type 0} {m : Machine Q N} {fresh : ℕ → N} {s : Search} {q : Q} {out out' : Option PatternMatch} → IsFindBack m fresh s q out → IsFindBack m fresh s q out' → out ≡ out'
one_answer (none_back never) (none_back never') = refl
one_answer (none_back never) (least_back {a = a} counts best) = absurd (never a counts)
one_answer (least_back {a = a} counts best) (none_back never) = absurd (never a counts)
one_answer (least_back {a = a} counts best) (least_back {a = b} counts' best') =
    let one = best b counts' in
    let other = best' a counts in
    let start : a.start ≡ b.start = omega (arith, one.0, other.0) in
    ap Some (match_is a b start (omega (arith, one.1 (sym start), other.1 start)) (counts.at_end ∙ sym counts'.at_end))

pub program_find_back_unique : {S : Type 0} (member : S → ℕ → Bool) (is_word : ℕ → Bool) (p : Program Look S) (s : Search) (out out' : Option PatternMatch)
    → ProgramFindsBack member is_word p s out → ProgramFindsBack member is_word p s out' → out ≡ out'
program_find_back_unique member is_word p s out out' is is' = starts_unique (start_node p s.anchoring) _ out out' (λ q one other. one_answer one other) is is'
