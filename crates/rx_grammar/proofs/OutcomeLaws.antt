-- Why a text is refused, in both directions.
use Rattle.std.proofs.Common.{◌≡◌, ◌≢◌, ◌↔◌, ℕ, ◌≤◌, List, Result, Ok, Err, IfOk, IfErr, refl}
use Rattle.rx_grammar.specs.declared.error.SyntaxError.{SyntaxError}
use Rattle.rx_grammar.specs.declared.error.SyntaxError.TheVariants.{TooLong, Nesting, Outside, Memory}
use Rattle.rx_grammar.specs.Settings.{Settings}
use Rattle.rx_grammar.specs.Trees.{Tree}
use Rattle.rx_grammar.specs.Grammar.{Spells, NeverSpells, IsTooDeep}
use Rattle.rx_grammar.specs.Stacks.{IsRefusedWhere, IsReason}

not_never : {text : List ℕ} {settings : Settings} → IsTooDeep text settings → NeverSpells text settings → ⊥
not_never deep never = never deep.limit deep.tree deep.spells

pub never_here : {text : List ℕ} {settings : Settings} {tree : Tree} → Spells text settings tree → NeverSpells text settings → ⊥
never_here {settings = settings} {tree = tree} spells never = never settings.nest_limit tree spells

pub nesting_exactly : {T : Type 0} (text : List ℕ) (settings : Settings) (tree : T → Tree) (r : Result T SyntaxError) → IfOk r (λ x. Spells text settings (tree x)) → IfErr r (λ e. IsReason e text settings)
    → r ≢ Err Memory → (r ≡ Err Nesting) ↔ IsTooDeep text settings
nesting_exactly text settings tree (Ok x) spells reason some = (λ e. absurd (cc), λ deep. absurd (deep.nothing (tree x) spells))
nesting_exactly text settings tree (Err TooLong) spells reason some = absurd reason
nesting_exactly text settings tree (Err Nesting) spells reason some = (λ e. reason, λ deep. refl)
nesting_exactly text settings tree (Err Outside) spells reason some = (λ e. absurd (cc), λ deep. absurd (not_never deep reason))
nesting_exactly text settings tree (Err Memory) spells reason some = absurd (some refl)

pub outside_exactly : {T : Type 0} (text : List ℕ) (settings : Settings) (tree : T → Tree) (size : ℕ) (r : Result T SyntaxError) → size ≤ 65536 → IfOk r (λ x. Spells text settings (tree x))
    → IfErr r (λ e. IsReason e text settings) → r ≢ Err Memory → (r ≡ Err Outside) ↔ ((size ≤ 65536) × NeverSpells text settings)
outside_exactly text settings tree size (Ok x) fits spells reason some = (λ e. absurd (cc), λ never. absurd (never_here spells never.1))
outside_exactly text settings tree size (Err TooLong) fits spells reason some = absurd reason
outside_exactly text settings tree size (Err Nesting) fits spells reason some = (λ e. absurd (cc), λ never. absurd (not_never reason never.1))
outside_exactly text settings tree size (Err Outside) fits spells reason some = (λ e. (fits, reason), λ never. refl)
outside_exactly text settings tree size (Err Memory) fits spells reason some = absurd (some refl)

-- a reader's error is a reason
pub reason_of : (text : List ℕ) (settings : Settings) {P : Type 0} (e : SyntaxError) → (P → NeverSpells text settings) → IsRefusedWhere e P → IsReason e text settings
reason_of text settings TooLong f h = absurd h
reason_of text settings Nesting f h = absurd h
reason_of text settings Outside f h = f h
reason_of text settings Memory f h = tt
