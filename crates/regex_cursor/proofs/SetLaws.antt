-- Equations of programs hold in one way, so that "a cache is for a regex" does too.
use Rattle.std.proofs.Common.{◌≡◌, ℕ, Bool, ap₂}
use Rattle.std.proofs.Props.{props}
use Rattle.rx_program.specs.declared.states.State.{State}
use Rattle.rx_program.specs.Programs.{ByteProgram}
use Rattle.regex_cursor.specs.Configs.{capacity_of}
use Rattle.regex_cursor.specs.Regexes.{CacheView, RegexView, IsCacheOf}

states-are-a-set : IsSet State
states-are-a-set = hlevel props

programs-are-a-set : IsSet ByteProgram
programs-are-a-set = hlevel (props, states-are-a-set)

answers-are-a-set : IsSet Bool
answers-are-a-set = hlevel props

numbers-are-a-set : IsSet ℕ
numbers-are-a-set = hlevel props

-- its other facts
abbrev Rest : RegexView → CacheView → Type 0
Rest re cache = (cache.utf8_empty ≡ re.engine.utf8_empty) × (cache.capacity ≡ capacity_of re.settings)

same-rest : (re : RegexView) (cache : CacheView) (one other : Rest re cache) → one ≡ other
same-rest re cache one other =
    ap₂ (λ x y. (x, y)) (answers-are-a-set cache.utf8_empty re.engine.utf8_empty one.0 other.0) (numbers-are-a-set cache.capacity (capacity_of re.settings) one.1 other.1)

pub same-serves : (re : RegexView) (cache : CacheView) (one other : IsCacheOf re cache) → one ≡ other
same-serves re cache one other =
    ap₂ (λ p (q : Rest re cache). record { program = p; utf8_empty = q.0; capacity = q.1 }) (programs-are-a-set cache.program re.engine.program one.program other.program)
    (same-rest re cache (one.utf8_empty, one.capacity) (other.utf8_empty, other.capacity))
