-- The worked examples of templates.
use Rattle.std.proofs.Common.{◌≡◌, [], ◌∷◌, refl}
use Rattle.std.specs.Prelude.{Some, None}
use Rattle.std.specs.Str.{chars}
use Rattle.rope_search_reports.specs.Replacement.{expand, replaced}

-- `$2$1` with group 1 `a` and group 2 `b`, in `ab ab`
swapped : replaced (97 ∷ 98 ∷ 32 ∷ 97 ∷ 98 ∷ []) (36 ∷ 50 ∷ 36 ∷ 49 ∷ []) 0 ((Some (0, 2) ∷ Some (0, 1) ∷ Some (1, 2) ∷ []) ∷ (Some (3, 5) ∷ Some (3, 4) ∷ Some (4, 5) ∷ []) ∷ [])
    ≡ 98 ∷ 97 ∷ 32 ∷ 98 ∷ 97 ∷ []
unfolding chars
swapped = refl

-- `$$$0$x` in `a`
dollars : replaced (97 ∷ []) (36 ∷ 36 ∷ 36 ∷ 48 ∷ 36 ∷ 120 ∷ []) 0 ((Some (0, 1) ∷ []) ∷ []) ≡ 36 ∷ 97 ∷ 36 ∷ 120 ∷ []
unfolding chars
dollars = refl

-- a lone dollar at the end, and groups that are absent or not in the pattern
absent : expand (97 ∷ []) (Some (0, 1) ∷ None ∷ []) (36 ∷ 49 ∷ 36 ∷ 57 ∷ 36 ∷ []) ≡ 36 ∷ []
absent = refl

-- CR LF whose CR is kept: `a`, CR, LF, `b` and an empty template for the LF
parted : replaced (97 ∷ 13 ∷ 10 ∷ 98 ∷ []) [] 0 ((Some (2, 3) ∷ []) ∷ []) ≡ 97 ∷ 13 ∷ 98 ∷ []
unfolding chars
parted = refl
