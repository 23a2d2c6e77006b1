-- Automata whose states fit read the members.
use Rattle.std.proofs.Common.{◌≡◌, ℕ, zero, suc, ◌+◌, ◌-◌, ◌*◌, ◌≤◌, Bool, true, false, cond, List, [], ◌∷◌, Option, Some, None, option_map, refl, sym, ap, subst, ◌∙◌, arith}
use Rattle.std.specs.Str.{continuation_len, lead_bits}
use Rattle.rx_walks.specs.Characters.{member_len}
use Rattle.rx_utf8.specs.Blocks.{high, is_next, rest, of_len, first_len, IsPast, Fits, Starts}
use Rattle.rx_walks.specs.Bytes.{run}
use Rattle.rx_walks.specs.Laws.{FirstCharacterStands}
use Rattle.rx_utf8.proofs.FirstLaws.{read_is, next_range, first_is}
use Rattle.rx_utf8.proofs.Helpers.{cond_true, same_option}

abbrev pub Step : Type 0
Step = ℕ → ℕ → Option (Option ℕ)

-- what is read after a byte that leads there
abbrev pub after : Step → Option (Option ℕ) → List ℕ → Option ℕ
after step None bs = None
after step (Some None) bs = Some 1
after step (Some (Some s)) bs = option_map suc (run step s bs)

run_after : (step : Step) (s : ℕ) (t : Option (Option ℕ)) (bs : List ℕ) → (elim t [ None ↦ None | Some None ↦ Some 1 | Some (Some s') ↦ option_map suc (run step s' bs) ]) ≡ after step t bs
run_after step s None bs = refl
run_after step s (Some None) bs = refl
run_after step s (Some (Some s')) bs = refl

last_or : (step : Step) (b : Bool) (bs : List ℕ) → after step (cond b (Some None) None) bs ≡ option_map suc (cond b (Some 0) None)
last_or step true bs = refl
last_or step false bs = refl

none_read : (p : ℕ → Bool) (r v : ℕ) (bs : List ℕ) → ((c : ℕ) → high r c ≡ v → p c ≡ false) → rest p r v bs ≡ None
none_read p r v bs empty = same_option (rest p r v bs) None (λ k e. let one = read_is p r v bs k e in absurd (cc (empty one.c one.bits, one.is_in))) (λ k e. absurd (cc e))

cond_from : {A : Type 0} (b : Bool) (x y z : A) → (b ≡ true → z ≡ x) → (b ≡ false → z ≡ y) → z ≡ cond b x y
cond_from true x y z is not = is refl
cond_from false x y z is not = not refl

pub fits_read : (step : Step) (n : ℕ) (p : ℕ → Bool) (r v : ℕ) (t : Option (Option ℕ)) → Fits step n p r v t → (bs : List ℕ) → after step t bs ≡ option_map suc (rest p r v bs)
fits_read step n p zero v t fits bs = ap (λ x. after step x bs) fits ∙ last_or step (p v) bs
fits_read step n p (suc r) v None fits bs = ap (option_map suc) (sym (none_read p (suc r) v bs fits))
fits_read step n p (suc r) v (Some None) fits bs = absurd fits
fits_read step n p (suc r) v (Some (Some s)) fits [] = refl
fits_read step n p (suc r) v (Some (Some s)) fits (b ∷ bs) = ap (option_map suc) (run_after step s (step s b) bs ∙ cond_from (is_next b) _ _ _
    (λ is. fits_read step n p r (v * 64 + (b - 128)) (step s b) (fits.1 b is) bs)
    (λ is. ap (λ x. after step x bs) (fits.2 b is)))

starts_read : (step : Step) (n : ℕ) (member : ℕ → Bool) → Starts step n member → (bs : List ℕ) → run step 0 bs ≡ first_len member bs
starts_read step n member starts [] = refl
starts_read step n member starts (b ∷ bs) = run_after step 0 (step 0 b) bs ∙ fits_read step n (of_len member (continuation_len b)) (continuation_len b) (lead_bits b) (step 0 b) (starts b) bs

pub automata_read : FirstCharacterStands → (step : Step) (n : ℕ) (member : ℕ → Bool) → Starts step n member → (bs : List ℕ) → run step 0 bs ≡ member_len member bs
automata_read law step n member starts bs = starts_read step n member starts bs ∙ first_is law member bs

-- further states change nothing
pub fits_on : (step step' : Step) (n n' : ℕ) → n ≤ n' → ((s : ℕ) → IsPast n s → (b : ℕ) → step s b ≡ step' s b) → (p : ℕ → Bool) (r v : ℕ) (t : Option (Option ℕ)) → Fits step n p r v t → Fits step' n' p r v t
fits_on step step' n n' on same p zero v t fits = fits
fits_on step step' n n' on same p (suc r) v None fits = fits
fits_on step step' n n' on same p (suc r) v (Some None) fits = fits
fits_on step step' n n' on same p (suc r) v (Some (Some s)) fits = (
  (fits.0.0, omega (arith, fits.0.1, on)),
  (λ b is. subst (Fits step' n' p r (v * 64 + (b - 128))) (same s fits.0 b) (fits_on step step' n n' on same p r (v * 64 + (b - 128)) (step s b) (fits.1 b is))),
  (λ b is. sym (same s fits.0 b) ∙ fits.2 b is),
)

-- a block of which all characters are members: f is the state for each number of bytes to come
abbrev pub Full : Step → ℕ → (ℕ → Option (Option ℕ)) → ℕ → Type 0
Full step n f zero = f zero ≡ Some None
Full step n f (suc r) = (s : ℕ) × (f (suc r) ≡ Some (Some s)) × IsPast n s × ((b : ℕ) → step s b ≡ cond (is_next b) (f r) None) × Full step n f r

next_high : (r v b c : ℕ) → is_next b ≡ true → high r c ≡ v * 64 + (b - 128) → high (suc r) c ≡ v
next_high r v b c is e = omega (arith, e, next_range b is)

pub full_fits : (step : Step) (n : ℕ) (p : ℕ → Bool) (f : ℕ → Option (Option ℕ)) (r v : ℕ) → Full step n f r → ((c : ℕ) → high r c ≡ v → p c ≡ true) → Fits step n p r v (f r)
full_fits step n p f zero v full all = full ∙ sym (cond_true (p v) (Some None) None (all v refl))
full_fits step n p f (suc r) v full all = subst (Fits step n p (suc r) v) (sym full.1) (
  full.2,
  (λ b is. subst (Fits step n p r (v * 64 + (b - 128))) (sym (full.3 b ∙ cond_true (is_next b) (f r) None is)) (full_fits step n p f r (v * 64 + (b - 128)) full.4 (λ c e. all c (next_high r v b c is e)))),
  (λ b is. full.3 b ∙ ap (λ x. cond x (f r) None) is),
)

-- only members of the block matter
pub fits_alike : (step : Step) (n : ℕ) (p q : ℕ → Bool) (r v : ℕ) (t : Option (Option ℕ)) → ((c : ℕ) → high r c ≡ v → p c ≡ q c) → Fits step n p r v t → Fits step n q r v t
fits_alike step n p q zero v t same fits = fits ∙ ap (λ x. cond x (Some None) None) (same v refl)
fits_alike step n p q (suc r) v None same fits = λ c e. sym (same c e) ∙ fits c e
fits_alike step n p q (suc r) v (Some None) same fits = fits
fits_alike step n p q (suc r) v (Some (Some s)) same fits = (
  fits.0,
  (λ b is. fits_alike step n p q r (v * 64 + (b - 128)) (step s b) (λ c e. same c (next_high r v b c is e)) (fits.1 b is)),
  fits.2,
)
