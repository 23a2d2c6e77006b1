use Rattle.std.proofs.Common.{◌≡◌, ℕ, zero, suc, List, [], ◌∷◌, ◌++◌, Option, Vec, String, Global, ◌+◌, replicate, ap, ap₂, ◌∙◌, arith, refl}
use Rattle.std.proofs.lemmas.List.{map-append}
use Rattle.rx_util.specs.Groups.{Name, names_of, named_groups}
use Rattle.rx_util.proofs.captures.without_further_groups.Goals as goal

abbrev no_names : List (Option Name)
no_names = []

one_more : (n : ℕ) → replicate n no_names ++ no_names ∷ [] ≡ replicate (suc n) no_names
one_more zero = refl
one_more (suc n) = ap (λ xs. no_names ∷ xs) (one_more n)

pub loop-preserved : goal.loop-preserved
loop-preserved c =
    let more : suc c.loop.counter ≡ c.loop.counter + 1 = omega arith in
    record {
      names = ap (λ (xs : List (Vec (Option (String Global)) Global)). named_groups xs) c.in_ok-push.ensures.items
          ∙ map-append (λ (pattern : Vec (Option (String Global)) Global). names_of pattern.items) c.loop.names.items (c.new.result ∷ [])
          ∙ ap₂ (λ xs (ys : List (Option (String Global))). xs ++ names_of ys ∷ []) c.loop.invariant.names c.new.ensures.items
          ∙ one_more c.loop.counter ∙ ap (λ n. replicate n no_names) more;
      within = omega (arith, c.loop-test.true);
    }
