-- What is known of literals, if they are known.
use Rattle.std.proofs.Common.{Option, Some, None, IfSome, refl}
use Rattle.std.specs.Borrow.{Bor}
use Rattle.std.specs.Option.{ForSome, option_copied}

pub if_there : {A : Type 0} {P : A → Type 0} (o : Option A) → ForSome o P → IfSome o P
if_there None all = tt
if_there (Some x) all = all x refl

-- and what is lent is what is known
pub lent : {A : Type 0} (P : A → Type 0) (o : Option (Bor A)) → IfSome (option_copied o) P → IfSome o (λ x. P x.now)
lent P None p = p
lent P (Some x) p = p
