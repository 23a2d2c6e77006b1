-- Small lemmas.
use Rattle.std.proofs.Common.{◌≡◌, ℕ, suc, Bool, true, false, ◌&&◌, cond, Option, Some, None, option_map, refl, sym}

pub same_some : {X : Type 0} {o : Option X} {x y : X} → o ≡ Some x → o ≡ Some y → x ≡ y
same_some e f = cc (e, f)

pub both : (a b : Bool) → (a && b) ≡ true → (a ≡ true) × (b ≡ true)
both true b e = (refl, e)
both false b e = absurd (cc e)

pub cond_true : {A : Type 0} (b : Bool) (x y : A) → b ≡ true → cond b x y ≡ x
cond_true true x y e = refl
cond_true false x y e = absurd (cc e)

pub cond_some : (b : Bool) (x : Option ℕ) (k : ℕ) → cond b x None ≡ Some k → (b ≡ true) × (x ≡ Some k)
cond_some true x k e = (refl, e)
cond_some false x k e = absurd (cc e)

pub map_some : (x : Option ℕ) (k : ℕ) → option_map suc x ≡ Some k → (j : ℕ) × (x ≡ Some j) × (k ≡ suc j)
map_some None k e = absurd (cc e)
map_some (Some j) k e = (j, refl, same_some e refl)

pub same_option : (a b : Option ℕ) → ((k : ℕ) → a ≡ Some k → b ≡ Some k) → ((k : ℕ) → b ≡ Some k → a ≡ Some k) → a ≡ b
same_option (Some k) b to from = sym (to k refl)
same_option None None to from = refl
same_option None (Some k) to from = from k refl
