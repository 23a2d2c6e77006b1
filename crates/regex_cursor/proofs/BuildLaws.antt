-- A regex of one pattern is one of a list of patterns.
use Rattle.std.proofs.Common.{ℕ, zero, suc, List, [], ◌∷◌, Result, Ok, Err, IfErr, unwrap_or, sym, ap, subst}
use Rattle.std.proofs.lemmas.Option.{none-some}
use Rattle.rx_grammar.specs.Trees.{Tree}
use Rattle.rx_program.specs.declared.error.BuildError.{BuildError}
use Rattle.rx_engine.specs.Engines.{AreRefused, IsRefused, IsRefusedOfAll, IsRefusedText, Spell, Wanted, by_first_text, by_text, by_weight, by_weight_of_all, memory, want_of_memory}
use Rattle.regex_cursor.specs.Configs.{RegexWanted}
use Rattle.regex_cursor.specs.Regexes.{RegexView, IsRegexOfTrees, IsRegexUnder, IsRegexOfAllUnder}

pub if_err : {A E : Type 0} {P Q : E → Type 0} (r : Result A E) → ((e : E) → P e → Q e) → IfErr r P → IfErr r Q
if_err (Ok x) f h = h
if_err (Err e) f h = f e h

pub regex_alone : (text : List ℕ) (wanted : RegexWanted) (re : RegexView) → IsRegexOfAllUnder (text ∷ []) wanted re → IsRegexUnder text wanted re
regex_alone text wanted re is = alone is.trees is.spell is.built
  where
    alone : (trees : List Tree) → Spell (text ∷ []) wanted.syntax trees → IsRegexOfTrees trees wanted.settings re → IsRegexUnder text wanted re
    alone [] spell built = absurd spell
    alone (tree ∷ trees) spell built = record { tree = tree; spells = spell.0; built = subst (λ xs. IsRegexOfTrees (tree ∷ xs) wanted.settings re) spell.1 built }

pub refused_alone : (text : List ℕ) (wanted : Wanted) (error : BuildError) → IsRefusedOfAll (text ∷ []) wanted error → IsRefused text wanted error
refused_alone text wanted error (by_first_text {k = zero} {error = e} t trees here before refused) = by_text (subst (λ x. IsRefusedText x wanted.syntax e) (ap (λ o. unwrap_or o text) (sym here)) refused)
refused_alone text wanted error (by_first_text {k = suc k} t trees here before refused) = absurd (none-some t here)
refused_alone text wanted error (by_weight_of_all [] spell refused) = absurd spell
refused_alone text wanted error (by_weight_of_all (tree ∷ trees) spell refused) = by_weight tree spell.0 (subst (λ xs. AreRefused (tree ∷ xs) wanted.settings error) spell.1 refused)
refused_alone text wanted error want_of_memory = memory
