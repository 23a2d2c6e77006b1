-- The groups that a template names. If it names none, it is one text at every match.
use Rattle.std.specs.Prelude.{◌≡◌, ℕ, ◌-◌, ◌<◌, ◌≤◌, nat_le, nat_lt, Bool, true, false, ◌==◌, ◌&&◌, ◌||◌, if◌then◌else◌, List, [], ◌∷◌}
use Rattle.str_indices.specs.Text.{byte_len}
use Rattle.rope_search_changes.specs.Replacement.{expand, is_digit}

-- The template names a group that passes a test. `$` and a digit name a group; `$$` doesn't, and
-- neither does its second dollar with a digit.
abbrev pub names : (ℕ → Bool) → List ℕ → Bool
names test [] = false
names test (c ∷ []) = false
names test (c ∷ d ∷ rest) =
    if (c == 36) && (d == 36) then names test rest
    else if (c == 36) && is_digit d then test (d - 48) || names test rest
    else names test (d ∷ rest)

-- it names a group
abbrev pub names_groups : List ℕ → Bool
names_groups template = names (λ number. true) template

-- it names a group other than the whole match
abbrev pub names_explicit_groups : List ℕ → Bool
names_explicit_groups template = names (λ number. nat_lt 0 number) template

-- the number of groups, from group 0 on, that a template needs: it names none from this number on;
-- and it names the last of them, unless that is group 0
pub record NeedsGroups (template : List ℕ) (count : ℕ) : Type 0 where
  pub some : 1 ≤ count
  pub few : count ≤ 10
  pub none_further : names (nat_le count) template ≡ false
  pub last : 1 < count → names (nat_le (count - 1)) template ≡ true

-- it names no group, and its text has this number of bytes
pub record IsSame (template : List ℕ) (len : ℕ) : Type 0 where
  pub names_none : names_groups template ≡ false
  pub len_is : byte_len (expand [] [] template) ≡ len
