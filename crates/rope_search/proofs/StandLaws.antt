-- Every command represents some command of the definition.
use Rattle.std.proofs.Common.{◌≡◌, ◌≢◌, ℕ, zero, suc, true, false, List, [], ◌∷◌, ◌++◌, get_or, replicate, refl, ap, IsUtf8, arith}
use Rattle.std.proofs.lemmas.Bool.Decides.{nat_tests}
use Rattle.std.proofs.lemmas.List.{length-replicate}
use Rattle.std.proofs.lemmas.Str.{IsUtf8-nil, IsUtf8-append}
use Rattle.std.proofs.Math.Utf8.{encode, encodes, scalar, scalars}
use Rattle.rope_search.specs.declared.commands.CommandOf.{CommandOf}
use Rattle.rope_search.specs.declared.commands.Payload.{Payload}
use Rattle.rope_search.specs.declared.commands.Payload.TheVariants.{Kept, Long, Lost}
use Rattle.rope_search.specs.Order.{Order, SetText, EditText, UndoEdit, RedoEdit, PrintText, ForkBuffer, SetPattern, DropPattern, ListMatches, FindNext, ReplaceAll, UseBuffer}
use Rattle.rope_search_reports.specs.Pattern.{pattern_limit}
use Rattle.rope_search.specs.Stands.{StandsFor, Stands}

-- ---- a text, and bytes that aren't one, of each length

IsUtf8-nul : IsUtf8 (0 ∷ [])
unfolding encode
IsUtf8-nul = (0 ∷ [], (refl, refl))

IsUtf8-nuls : (n : ℕ) → IsUtf8 (replicate n 0)
IsUtf8-nuls zero = IsUtf8-nil
IsUtf8-nuls (suc n) = IsUtf8-append (0 ∷ []) (replicate n 0) IsUtf8-nul (IsUtf8-nuls n)

-- no character's first byte is 255
first_byte : (c : ℕ) (rest : List ℕ) → scalar c ≡ true → get_or (encode c ++ rest) 0 0 ≢ 255
unfolding encode
first_byte c rest valid = grind (arith, nat_tests)

head_scalar : (c : ℕ) (cs : List ℕ) → scalars (c ∷ cs) ≡ true → scalar c ≡ true
head_scalar c cs valid = grind (arith, nat_tests)

starts_no_text : (cs bytes : List ℕ) → scalars cs ≡ true → encodes cs ≡ 255 ∷ bytes → ⊥
starts_no_text [] bytes valid whole = cc
starts_no_text (c ∷ cs) bytes valid whole = first_byte c (encodes cs) (head_scalar c cs valid) (ap (λ bs. get_or bs 0 0) whole)

-- ---- what a command represents

payload_for : (limit : ℕ) (payload : Payload) → (bytes : List ℕ) × StandsFor limit payload bytes
payload_for limit (Kept bytes) = (bytes.now, refl)
payload_for limit (Long true) = (replicate (suc limit) 0, (omega (arith, length-replicate {A = ℕ} (suc limit) 0), ((λ told. IsUtf8-nuls (suc limit)), λ text. refl)))
payload_for limit (Long false) =
    (255 ∷ replicate limit 0, (omega (arith, length-replicate {A = ℕ} limit 0), ((λ told. cc), λ text. absurd (starts_no_text text.0 (replicate limit 0) text.1.0 text.1.1))))
payload_for limit Lost = ([], tt)

pub stands_exist : (limit : ℕ) (command : CommandOf Payload) → (order : Order) × Stands limit command order
stands_exist limit (SetText payload) = let whole = payload_for limit payload in (SetText whole.0, whole.1)
stands_exist limit (EditText from to payload) = let whole = payload_for limit payload in (EditText from to whole.0, (refl, refl, whole.1))
stands_exist limit UndoEdit = (UndoEdit, tt)
stands_exist limit RedoEdit = (RedoEdit, tt)
stands_exist limit PrintText = (PrintText, tt)
stands_exist limit ForkBuffer = (ForkBuffer, tt)
stands_exist limit (SetPattern payload) = let whole = payload_for pattern_limit payload in (SetPattern whole.0, whole.1)
stands_exist limit DropPattern = (DropPattern, tt)
stands_exist limit ListMatches = (ListMatches, tt)
stands_exist limit (FindNext from) = (FindNext from, refl)
stands_exist limit (ReplaceAll payload) = let whole = payload_for limit payload in (ReplaceAll whole.0, whole.1)
stands_exist limit (UseBuffer k) = (UseBuffer k, refl)
