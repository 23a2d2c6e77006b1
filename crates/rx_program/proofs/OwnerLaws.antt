-- Edges of a program stay in their patterns.
use Rattle.std.proofs.Common.{◌≡◌, ℕ, zero, suc, ◌+◌, ◌-◌, ◌*◌, ◌<◌, ◌≤◌, true, false, cond, nat_lt, List, [], ◌∷◌, ◌++◌, length, Option, Some, slice_get, refl, sym, ap, subst, ◌∙◌, arith, inl, inr}
use Rattle.std.specs.List.{All}
use Rattle.std.proofs.lemmas.Bool.{cases_order}
use Rattle.std.proofs.lemmas.Bool.Decides.{nat_tests}
use Rattle.std.proofs.lemmas.List.Elements.{All-head, All-tail}
use Rattle.rx_sets.specs.Sets.{Range}
use Rattle.rx_grammar.specs.Trees.{Tree, numbers_of}
use Rattle.rx_grammar.specs.Weights.{size_of}
use Rattle.rx_walks.specs.Looks as walks
use Rattle.rx_walks.specs.Programs.{Node, match, pass, note, look, set}
use Rattle.rx_walks.specs.Owners.{HasOwners, StaysWith}
use Rattle.rx_program.specs.Code.{pattern_code, patterns_code, pattern_starts, program_of}
use Rattle.rx_program.specs.Owned.{owner_from, below_top, owner_in}
use Rattle.rx_program.proofs.ClosedLaws.{In, StaysIn, pattern_length, pattern_stays}

same_some : {X : Type 0} {o : Option X} {x y : X} → o ≡ Some x → o ≡ Some y → x ≡ y
same_some e f = cc (e, f)

-- items of concatenated lists
in_second : {X : Type 0} (xs ys : List X) (n k : ℕ) → length xs ≡ n → slice_get (xs ++ ys) (n + k) ≡ slice_get ys k
in_second [] ys n k e = ap (slice_get ys) (omega (arith, e))
in_second (x ∷ xs) ys zero k e = absurd (omega (arith, e))
in_second (x ∷ xs) ys (suc n) k e = let next : suc n + k ≡ suc (n + k) = omega arith in ap (slice_get (x ∷ (xs ++ ys))) next ∙ in_second xs ys n k (omega (arith, e))

in_first : {X : Type 0} (xs ys : List X) (k : ℕ) (x : X) → slice_get xs k ≡ Some x → slice_get (xs ++ ys) k ≡ Some x
in_first [] ys k x e = absurd (cc e)
in_first (x' ∷ xs) ys zero x e = e
in_first (x' ∷ xs) ys (suc k) x e = in_first xs ys k x e

get_below : {X : Type 0} (xs : List X) (k : ℕ) → k < length xs → (x : X) × (slice_get xs k ≡ Some x)
get_below [] k below = absurd (omega (arith, below))
get_below (x ∷ xs) zero below = (x, refl)
get_below (x ∷ xs) (suc k) below = get_below xs k (omega (arith, below))

each : {X : Type 0} (P : X → Type 0) (xs : List X) (d : ℕ) (x : X) → All P xs → slice_get xs d ≡ Some x → P x
each P [] d x all e = absurd (cc e)
each P (y ∷ ys) zero x all e = subst P (same_some refl e) (All-head P y ys all)
each P (y ∷ ys) (suc d) x all e = each P ys d x (All-tail P y ys all) e

with_owner : (low n k : ℕ) (owner : ℕ → Option ℕ) (node : Node walks.Look (List Range)) → ((r : ℕ) → In low n r → owner r ≡ Some k) → StaysIn low n k node → StaysWith owner k node
with_owner low n k owner (match p) own stays = stays
with_owner low n k owner (pass rs) own stays = λ d r got. own r (each (In low n) rs d r stays got)
with_owner low n k owner (note slot r) own stays = own r stays
with_owner low n k owner (look l r) own stays = own r stays
with_owner low n k owner (set x r) own stays = own r stays

-- the pattern of a node
first_is : (p r n : ℕ) (others : Option ℕ) → r < n → cond (nat_lt r n) (Some p) others ≡ Some p
first_is p r n others below = let e : nat_lt r n ≡ true = grind (arith, nat_tests) in ap (λ b. cond b (Some p) others) e

other_is : (p r n : ℕ) (others : Option ℕ) → n ≤ r → cond (nat_lt r n) (Some p) others ≡ others
other_is p r n others past = let e : nat_lt r n ≡ false = grind (arith, nat_tests) in ap (λ b. cond b (Some p) others) e

abbrev Agrees : (ℕ → Option ℕ) → ℕ → List Tree → ℕ → Type 0
Agrees owner p trees at = (r : ℕ) → at ≤ r → owner r ≡ owner_from p trees at r

of_first : (owner : ℕ → Option ℕ) (p : ℕ) (tree : Tree) (trees : List Tree) (at : ℕ) → Agrees owner p (tree ∷ trees) at → (r : ℕ) → In at (at + 3 + size_of tree) r → owner r ≡ Some p
of_first owner p tree trees at agrees r inside = agrees r inside.above ∙ first_is p r (at + 3 + size_of tree) _ inside.below

of_others : (owner : ℕ → Option ℕ) (p : ℕ) (tree : Tree) (trees : List Tree) (at : ℕ) → Agrees owner p (tree ∷ trees) at → Agrees owner (p + 1) trees (at + 3 + size_of tree)
of_others owner p tree trees at agrees r past = agrees r (omega (arith, past)) ∙ other_is p r (at + 3 + size_of tree) _ past

stays_from : (slots p : ℕ) (trees : List Tree) (at : ℕ) (owner : ℕ → Option ℕ) → Agrees owner p trees at → (d k : ℕ) (node : Node walks.Look (List Range)) → slice_get (patterns_code slots p trees at) d ≡ Some node
    → owner (at + d) ≡ Some k → StaysWith owner k node
stays_from slots p [] at owner agrees d k node e own = absurd (cc e)
stays_from slots p (tree ∷ trees) at owner agrees d k node e own =
    let again = λ (d' : ℕ). stays_from (slots + 2 * length (numbers_of tree)) (p + 1) trees (at + 3 + size_of tree) owner (of_others owner p tree trees at agrees) d' k node in
    elim (cases_order d (3 + size_of tree)) [
      | inl same ↦ later again (omega (arith, same))
      | inr (inl below) ↦ here below
      | inr (inr above) ↦ later again (omega (arith, above))
    ]
  where
    here : d < 3 + size_of tree → StaysWith owner k node
    here below =
        let one = get_below (pattern_code slots p tree at) d (omega (arith, below, pattern_length slots p tree at)) in
        let same : one.0 ≡ node = same_some (in_first (pattern_code slots p tree at) _ d one.0 one.1) e in
        let mine = of_first owner p tree trees at agrees in
        let which : p ≡ k = same_some (mine (at + d) (record { above = omega arith; below = omega (arith, below) })) own in
        subst (λ z. StaysWith owner z node) which
        (with_owner at (at + 3 + size_of tree) p owner node mine (subst (StaysIn at (at + 3 + size_of tree) p) same (each (StaysIn at (at + 3 + size_of tree) p) (pattern_code slots p tree at) d one.0 (pattern_stays slots p tree at) one.1)))

    later : ((d' : ℕ) → slice_get (patterns_code (slots + 2 * length (numbers_of tree)) (p + 1) trees (at + 3 + size_of tree)) d' ≡ Some node → owner (at + 3 + size_of tree + d') ≡ Some k → StaysWith owner k node)
        → 3 + size_of tree ≤ d → StaysWith owner k node
    later again past =
        let d' = d - (3 + size_of tree) in
        let place : d ≡ 3 + size_of tree + d' = omega (arith, past) in
        let next : at + d ≡ at + 3 + size_of tree + d' = omega (arith, past) in
        again d' (sym (in_second (pattern_code slots p tree at) _ (3 + size_of tree) d' (pattern_length slots p tree at)) ∙ ap (slice_get (patterns_code slots p (tree ∷ trees) at)) (sym place) ∙ e) (ap owner (sym next) ∙ own)

starts_from : (p : ℕ) (trees : List Tree) (at : ℕ) (owner : ℕ → Option ℕ) → Agrees owner p trees at → (k q : ℕ) → slice_get (pattern_starts trees at) k ≡ Some q → owner q ≡ Some (p + k)
starts_from p [] at owner agrees k q e = absurd (cc e)
starts_from p (tree ∷ trees) at owner agrees zero q e =
    let which : p ≡ p + 0 = omega arith in
    ap owner (sym (same_some refl e)) ∙ of_first owner p tree trees at agrees at (record { above = omega arith; below = omega arith }) ∙ ap Some which
starts_from p (tree ∷ trees) at owner agrees (suc k) q e =
    let which : p + 1 + k ≡ p + suc k = omega arith in
    starts_from (p + 1) trees (at + 3 + size_of tree) owner (of_others owner p tree trees at agrees) k q e ∙ ap Some which

under_top : (p : ℕ) (trees : List Tree) → Agrees (below_top (owner_from p trees 1)) p trees 1
under_top p trees zero past = absurd (omega (arith, past))
under_top p trees (suc r) past = refl

pub programs_have_owners : (trees : List Tree) (terminator : ℕ) → HasOwners (program_of trees terminator) (owner_in trees)
programs_have_owners [] terminator = record { starts = λ k q e. absurd (cc e); stays = stays }
  where
    stays : (q k : ℕ) (node : Node walks.Look (List Range)) → slice_get (program_of [] terminator).nodes q ≡ Some node → owner_in [] q ≡ Some k → StaysWith (owner_in []) k node
    stays zero k node e own = absurd (cc own)
    stays (suc q) k node e own = absurd (cc e)
programs_have_owners (tree ∷ []) terminator = record { starts = starts; stays = stays }
  where
    starts : (k q : ℕ) → slice_get (0 ∷ []) k ≡ Some q → owner_in (tree ∷ []) q ≡ Some k
    starts k q e = starts_from 0 (tree ∷ []) 0 (owner_in (tree ∷ [])) (λ r past. refl) k q e ∙ ap Some (omega arith)

    stays : (q k : ℕ) (node : Node walks.Look (List Range)) → slice_get (pattern_code 0 0 tree 0) q ≡ Some node → owner_in (tree ∷ []) q ≡ Some k → StaysWith (owner_in (tree ∷ [])) k node
    stays q k node e own =
        let place : 0 + q ≡ q = omega arith in
        stays_from 0 0 (tree ∷ []) 0 (owner_in (tree ∷ [])) (λ r past. refl) q k node (in_first (pattern_code 0 0 tree 0) [] q node e) (ap (owner_in (tree ∷ [])) place ∙ own)
programs_have_owners (tree ∷ other ∷ trees) terminator = record { starts = starts; stays = stays }
  where
    starts : (k q : ℕ) → slice_get (pattern_starts (tree ∷ other ∷ trees) 1) k ≡ Some q → owner_in (tree ∷ other ∷ trees) q ≡ Some k
    starts k q e = starts_from 0 (tree ∷ other ∷ trees) 1 (owner_in (tree ∷ other ∷ trees)) (under_top 0 (tree ∷ other ∷ trees)) k q e ∙ ap Some (omega arith)

    stays : (q k : ℕ) (node : Node walks.Look (List Range)) → slice_get (program_of (tree ∷ other ∷ trees) terminator).nodes q ≡ Some node → owner_in (tree ∷ other ∷ trees) q ≡ Some k
        → StaysWith (owner_in (tree ∷ other ∷ trees)) k node
    stays zero k node e own = absurd (cc own)
    stays (suc q) k node e own =
        let place : 1 + q ≡ suc q = omega arith in
        stays_from _ 0 (tree ∷ other ∷ trees) 1 (owner_in (tree ∷ other ∷ trees)) (under_top 0 (tree ∷ other ∷ trees)) q k node e (ap (owner_in (tree ∷ other ∷ trees)) place ∙ own)
