use Rattle.std.proofs.Common.{◌≡◌, ℕ, Bool, true, false, ◌&&◌, ◌==◌, refl, ap, ap₂}
use Rattle.std.proofs.lemmas.Bool.Decides.{Decides-eqb}
use Rattle.std.proofs.lemmas.Slice.Eq.{slice_eq-Decides}
use Rattle.std.specs.Bool.{Decides}
use Rattle.rx_sets.proofs.character_set.is_same.Goals as goal

both : (a b : Bool) → (a && b) ≡ true → (a ≡ true) × (b ≡ true)
both true b e = (refl, e)
both false b e = absurd (cc e)

both_true : (a b : Bool) → a ≡ true → b ≡ true → (a && b) ≡ true
both_true a b e f = ap₂ (λ s t. s && t) e f

pairs_decide : (x y : ℕ × ℕ) → Decides ((x.0 == y.0) && (x.1 == y.1)) (x ≡ y)
pairs_decide x y = (
  (λ e. let h = both (x.0 == y.0) (x.1 == y.1) e in
      ap₂ (λ a b. (a, b)) ((Decides-eqb x.0 y.0).0 h.0) ((Decides-eqb x.1 y.1).0 h.1)),
  λ e. both_true (x.0 == y.0) (x.1 == y.1) ((Decides-eqb x.0 y.0).1 (ap (λ u. u.0) e))
      ((Decides-eqb x.1 y.1).1 (ap (λ u. u.1) e)),
)

pub returns : goal.returns
returns c = slice_eq-Decides pairs_decide _ _ _ c.eq.ensures
