-- What a builder builds of patterns.
use Rattle.std.proofs.Common.{◌≡◌, ℕ, zero, suc, ◌*◌, ◌<◌, ◌≤◌, ◌⊎◌, Bool, true, List, [], ◌∷◌, ◌++◌, All, length, take, Result, Ok, Err, IfErr, IfOk, Option, Some, None, slice_get, unwrap_or, chars, refl, sym, ap, subst, ◌∙◌, inl, inr, arith}
use Rattle.std.proofs.lemmas.List.{length-replicate}
use Rattle.std.proofs.lemmas.Option.{none-some}
use Rattle.rx_sets.specs.Sets.{Range}
use Rattle.rx_util.specs.declared.search.MatchKind.{MatchKind}
use Rattle.rx_util.specs.declared.search.MatchKind.TheVariants.{LeftmostFirst}
use Rattle.rx_util.specs.declared.captures.WhichCaptures.{WhichCaptures}
use Rattle.rx_util.specs.declared.captures.WhichCaptures.TheVariants as which
use Rattle.rx_util.specs.Groups.{GroupNames, slot_len}
use Rattle.rx_util.specs.Captured.{Captured, nothing_noted}
use Rattle.rx_grammar.specs.declared.error.SyntaxError.{SyntaxError}
use Rattle.rx_grammar.specs.declared.error.SyntaxError.TheVariants as errors
use Rattle.rx_grammar.specs.Trees.{Tree}
use Rattle.rx_grammar.specs.Subtrees.{IsWellFormed}
use Rattle.rx_grammar.specs.StaticGroups.{static_captures_of_all}
use Rattle.rx_grammar.specs.Settings.{Settings}
use Rattle.rx_grammar.specs.Grammar.{Spells, IsTooDeep, NeverSpells}
use Rattle.rx_walks.specs.Looks as walks
use Rattle.rx_walks.specs.Programs.{Program}
use Rattle.rx_program.specs.declared.error.BuildError.{BuildError}
use Rattle.rx_program.specs.declared.error.BuildError.TheVariants as build
use Rattle.rx_program.specs.Code.{program_of}
use Rattle.rx_program.specs.Programs.{ByteProgram, character_program}
use Rattle.rx_program.specs.Sizes.{IsTooLarge, told_limit, weight_of_all}
use Rattle.rx_engine.specs.Engines.{AreNotedOf, AreRefused, Engine, EngineSettings, IsBuiltOf, IsBuiltOfAll, IsBuiltOfTrees, IsOfTrees, IsRefused, IsRefusedAt, IsRefusedOfAll, IsRefusedText, Spell, Wanted, by_first_text, by_text, by_weight, by_weight_of_all, memory, captures_len_of, memory_there, no_memory, nesting, outside, refusal_of, size_limit_of, text_there, too_large, too_long, want_of_memory}

-- ---- why texts are refused

-- a refusal for another reason than memory
pub other_refusal : (k : ℕ) (error : SyntaxError) → (error ≡ errors.Memory → ⊥) → build.Syntax k error ≡ refusal_of k error
other_refusal k errors.TooLong other = refl
other_refusal k errors.Nesting other = refl
other_refusal k errors.Outside other = refl
other_refusal k errors.Memory other = absurd (other refl)

-- what is told of a text that was refused so: T is what it would have spelled
abbrev pub Refused : Type 0 → SyntaxError → SyntaxError → Type 0
Refused T error reason = ◌≡◌ {A = Result T SyntaxError} (Err error) (Err reason)

-- why a text is refused is why its pattern has no engine
pub refused_text : {T : Type 0} (k : ℕ) (text : List ℕ) (settings : Settings) (error : SyntaxError) → (Refused T error errors.TooLong → 65536 < length text)
    → ((Refused T error errors.Memory → ⊥) → Refused T error errors.Nesting → IsTooDeep (chars text) settings)
    → ((Refused T error errors.Memory → ⊥) → Refused T error errors.Outside → (length text ≤ 65536) × NeverSpells (chars text) settings)
    → IsRefusedAt k text settings (refusal_of k error)
refused_text k text settings errors.TooLong long deep never = text_there (too_long (long refl))
refused_text k text settings errors.Nesting long deep never = text_there (nesting (deep (λ e. cc) refl))
refused_text k text settings errors.Outside long deep never = let told = never (λ e. cc) refl in text_there (outside told.0 told.1)
refused_text k text settings errors.Memory long deep never = memory_there

-- the first that is refused, where those before it spell trees
pub refused_first : (k : ℕ) (text : List ℕ) (texts : List (List ℕ)) (trees : List Tree) (wanted : Wanted) (error : BuildError) → slice_get texts k ≡ Some text
    → Spell (take k texts) wanted.syntax trees → IsRefusedAt k text wanted.syntax error → IsRefusedOfAll texts wanted error
refused_first k text texts trees wanted error here before (text_there refused) = by_first_text text trees here before refused
refused_first k text texts trees wanted error here before memory_there = want_of_memory

-- those of one tree more
pub one_more_spelled : (texts : List (List ℕ)) (settings : Settings) (trees : List Tree) (text : List ℕ) (tree : Tree) → Spell texts settings trees → Spells (chars text) settings tree
    → Spell (texts ++ text ∷ []) settings (trees ++ tree ∷ [])
one_more_spelled [] settings trees text tree spell spells = subst (λ x. Spell (text ∷ []) settings (x ++ tree ∷ [])) (sym spell) (spells, refl)
one_more_spelled (t ∷ texts) settings [] text tree spell spells = absurd spell
one_more_spelled (t ∷ texts) settings (x ∷ trees) text tree spell spells = (spell.0, one_more_spelled texts settings trees text tree spell.1 spells)

-- ---- why trees are refused

pub refused_trees : (trees : List Tree) (settings : EngineSettings) (error : BuildError) (limit : Option ℕ) → limit ≡ size_limit_of settings
    → (error ≡ build.Size (told_limit limit) → IsTooLarge limit (weight_of_all trees)) → (error ≡ build.Size (told_limit limit)) ⊎ (error ≡ build.Memory)
    → AreRefused trees settings error
refused_trees trees settings error limit set large (inl is) =
    subst (λ e. AreRefused trees settings e) (sym is)
    (subst (λ l. AreRefused trees settings (build.Size (told_limit l))) (sym set) (too_large (subst (λ l. IsTooLarge l (weight_of_all trees)) set (large is))))
refused_trees trees settings error limit set large (inr is) = subst (λ e. AreRefused trees settings e) (sym is) no_memory

-- ---- a pattern as a list of one

pub built_alone : (text : List ℕ) (wanted : Wanted) (e : Engine) → IsBuiltOfAll (text ∷ []) wanted e → IsBuiltOf text wanted e
built_alone text wanted e is = alone is.trees is.spell is.built
  where
    alone : (trees : List Tree) → Spell (text ∷ []) wanted.syntax trees → IsBuiltOfTrees trees wanted.settings e → IsBuiltOf text wanted e
    alone [] spell built = absurd spell
    alone (tree ∷ trees) spell built = record { tree = tree; spells = spell.0; built = subst (λ xs. IsBuiltOfTrees (tree ∷ xs) wanted.settings e) spell.1 built }

pub refused_alone : (text : List ℕ) (wanted : Wanted) (error : BuildError) → IsRefusedOfAll (text ∷ []) wanted error → IsRefused text wanted error
refused_alone text wanted error (by_first_text {k = zero} {error = e} t trees here before refused) = by_text (subst (λ x. IsRefusedText x wanted.syntax e) (ap (λ o. unwrap_or o text) (sym here)) refused)
refused_alone text wanted error (by_first_text {k = suc k} t trees here before refused) = absurd (none-some t here)
refused_alone text wanted error (by_weight_of_all [] spell refused) = absurd spell
refused_alone text wanted error (by_weight_of_all (tree ∷ trees) spell refused) = by_weight tree spell.0 (subst (λ xs. AreRefused (tree ∷ xs) wanted.settings error) spell.1 refused)
refused_alone text wanted error want_of_memory = memory

-- ---- what is built

pub if_ok : {A E : Type 0} {P Q : A → Type 0} (r : Result A E) → ((x : A) → P x → Q x) → IfOk r P → IfOk r Q
if_ok (Ok x) f h = f x h
if_ok (Err e) f h = h

pub if_err : {A E : Type 0} {P Q : E → Type 0} (r : Result A E) → ((e : E) → P e → Q e) → IfErr r P → IfErr r Q
if_err (Ok x) f h = h
if_err (Err e) f h = f e h

-- what is there was not refused
pub not_refused : {A E : Type 0} (x : A) (error : E) → ◌≡◌ {A = Result A E} (Ok x) (Err error) → ⊥
not_refused x error is = cc

terminator_of : (p : ByteProgram) (trees : List Tree) (terminator : ℕ) → character_program p ≡ program_of trees terminator → p.line_terminator ≡ terminator
terminator_of p [] terminator is = ap (λ (q : Program walks.Look (List Range)). q.line_terminator) is
terminator_of p (tree ∷ []) terminator is = ap (λ (q : Program walks.Look (List Range)). q.line_terminator) is
terminator_of p (tree ∷ other ∷ trees) terminator is = ap (λ (q : Program walks.Look (List Range)). q.line_terminator) is

-- an engine without its program
pub record Beside : Type 0 where
  pub match_kind : MatchKind
  pub groups : GroupNames
  pub which_captures : WhichCaptures
  pub captures_len : ℕ
  pub static_captures_len : Option ℕ
  pub utf8_empty : Bool

abbrev pub engine_of : ByteProgram → Beside → Engine
engine_of p b =
    record {
      program = p;
      match_kind = b.match_kind;
      groups = b.groups;
      which_captures = b.which_captures;
      captures_len = b.captures_len;
      static_captures_len = b.static_captures_len;
      utf8_empty = b.utf8_empty;
    }

-- its groups are those of trees
pub record AreOfTrees (trees : List Tree) (b : Beside) : Type 0 where
  pub well_formed : All IsWellFormed trees
  pub groups : AreNotedOf b.which_captures trees b.groups
  pub captures_len : b.captures_len ≡ captures_len_of trees
  pub static_captures_len : b.static_captures_len ≡ static_captures_of_all trees

-- and it is as it was set
pub record IsAsSet (settings : EngineSettings) (b : Beside) : Type 0 where
  pub match_kind : b.match_kind ≡ unwrap_or settings.match_kind LeftmostFirst
  pub utf8_empty : b.utf8_empty ≡ unwrap_or settings.utf8_empty true
  pub which_captures : b.which_captures ≡ unwrap_or settings.which_captures which.All

pub of_trees : (p : ByteProgram) (b : Beside) (trees : List Tree) (terminator : ℕ) → AreOfTrees trees b → character_program p ≡ program_of trees terminator → IsOfTrees (engine_of p b) trees
of_trees p b trees terminator are is =
    record {
      well_formed = are.well_formed;
      program = is ∙ ap (λ t. program_of trees t) (sym (terminator_of p trees terminator is));
      groups = are.groups;
      captures_len = are.captures_len;
      static_captures_len = are.static_captures_len;
    }

pub built : (settings : EngineSettings) (p : ByteProgram) (b : Beside) (trees : List Tree) (terminator : ℕ) → AreOfTrees trees b → IsAsSet settings b
    → (IsTooLarge (size_limit_of settings) (weight_of_all trees) → ⊥) → character_program p ≡ program_of trees terminator
    → terminator ≡ unwrap_or settings.line_terminator 10 → IsBuiltOfTrees trees settings (engine_of p b)
built settings p b trees terminator are as_set fits is set = record {
  fits = fits;
  of_trees = of_trees p b trees terminator are is;
  match_kind = as_set.match_kind;
  line_terminator = terminator_of p trees terminator is ∙ set;
  utf8_empty = as_set.utf8_empty;
  which_captures = as_set.which_captures;
}

pub room_for_matches : (e : Engine) (caps : Captured) → caps ≡ nothing_noted e.groups (slot_len e.groups) → 2 * length e.groups ≤ length caps.slots
room_for_matches e caps is =
    let len : length caps.slots ≡ slot_len e.groups = ap (λ c. length c.slots) is ∙ length-replicate (slot_len e.groups) None in
    omega (arith, len)
