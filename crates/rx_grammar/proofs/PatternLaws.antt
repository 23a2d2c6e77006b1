-- What a whole pattern spells, by where its reading ends.
use Rattle.std.proofs.Common.{◌≡◌, ◌≢◌, ℕ, ◌≤◌, ◌<◌, List, [], ◌∷◌, length, AllPairs, encode_utf8_all, refl, sym, subst, ◌∙◌, arith}
use Rattle.rx_grammar.specs.Settings.{Settings}
use Rattle.rx_grammar.specs.Trees.{Tree, names_of}
use Rattle.rx_grammar.specs.Grammar.{Spells, NeverSpells, IsTooDeep, with_limit}
use Rattle.rx_grammar.specs.Resuming.{Level, OpenGroup, PatternPlace, no_level, tree_at, CompletesLevel, Resumes, whole, Completes, SameEnds, NoEnds}
use Rattle.rx_grammar.specs.Places.{place_at_start, PartRead, TextRead, ParserIsAt}
use Rattle.rx_grammar.specs.declared.parser.Parser.{Parser}
use Rattle.rx_grammar.proofs.LimitLaws.{branches_limit}
use Rattle.rx_grammar.proofs.ResumeLaws.{ends_branches, branches_of, ends_here, end_of_text, end_in_group}

pub SameEnds-none : (place : PatternPlace) (t : List ℕ) → SameEnds place t place t
SameEnds-none place t = record { on = λ tree depth r. r; back = λ tree depth r. r }

pub SameEnds-more : {place place' place'' : PatternPlace} {t t' t'' : List ℕ} → SameEnds place t place' t' → SameEnds place' t' place'' t'' → SameEnds place t place'' t''
SameEnds-more a b = record { on = λ tree depth r. b.on tree depth (a.on tree depth r); back = λ tree depth r. a.back tree depth (b.back tree depth r) }

pub NoEnds-before : {place place' : PatternPlace} {t t' : List ℕ} → SameEnds place t place' t' → NoEnds place' t' → NoEnds place t
NoEnds-before same none = λ tree depth r. none tree depth (same.on tree depth r)

-- a text that is read in part
pub record ReadSoFar (after : Parser) (place : PatternPlace) (t u : List ℕ) : Type 0 where
  pub next : PatternPlace
  pub stands : ParserIsAt after [] next
  pub same : SameEnds place t next u

pub ReadSoFar-more : {middle after : Parser} {place : PatternPlace} {t u v : List ℕ} → (read : ReadSoFar middle place t u) → PartRead middle after read.next u v → ReadSoFar after place t v
ReadSoFar-more read part = record { next = part.next; stands = part.stands; same = SameEnds-more read.same part.same }

pub ReadSoFar-end : {after : Parser} {place : PatternPlace} {t u : List ℕ} → ReadSoFar after place t u → u ≡ [] → TextRead after place t
ReadSoFar-end {place = place} {t = t} read is = record { next = read.next; stands = read.stands; same = subst (λ x. SameEnds place t read.next x) is read.same }

-- the end of the text in an open group
pub group_open_at_end : (place : PatternPlace) → (place.around ≡ [] → ⊥) → NoEnds place []
group_open_at_end place some = λ tree depth r. at place.around refl r
  where
    at : {tree : Tree} {depth : ℕ} (os : List OpenGroup) → place.around ≡ os → Resumes place.around place.level place.settings place.groups [] tree depth → ⊥
    at [] e r = some e
    at {tree = tree} {depth = depth} (o ∷ os) e r = end_in_group (subst (λ x. Resumes x place.level place.settings place.groups [] tree depth) e r)

completes_here : (place : PatternPlace) → place.around ≡ [] → Completes place [] (tree_at place.level) place.level.depth
completes_here place is =
    subst (λ x. Resumes x place.level place.settings place.groups [] (tree_at place.level) place.level.depth) (sym is) (whole (ends_here place.level place.settings place.groups tt))

record Whole (s : Settings) (t : List ℕ) (tree : Tree) (depth : ℕ) : Type 0 where
  groups : ℕ
  ends : CompletesLevel no_level s 0 t tree depth groups []

whole_of : {s : Settings} {t : List ℕ} {tree : Tree} {depth : ℕ} → Completes (place_at_start s) t tree depth → Whole s t tree depth
whole_of completes = let found = at completes in record { groups = found.0; ends = found.1 }
  where
    at : {l : Level} {s : Settings} {m depth : ℕ} {t : List ℕ} {tree : Tree} → Resumes [] l s m t tree depth → (n : ℕ) × CompletesLevel l s m t tree depth n []
    at (whole ends) = (_, ends)

pub spells_by : (text : List ℕ) (settings : Settings) (next : PatternPlace) (tree : Tree) → SameEnds (place_at_start settings) text next [] → next.around ≡ [] → tree ≡ tree_at next.level
    → next.level.depth ≤ settings.nest_limit → AllPairs (λ a b. a ≢ b) (names_of tree) → length (encode_utf8_all text) ≤ 65536 → Spells text settings tree
spells_by text settings next tree same closed is fits once size =
    let found = whole_of (same.back (tree_at next.level) next.level.depth (completes_here next closed)) in
    let branches = branches_of found.ends in
    record {
      first = branches.first;
      others = branches.others;
      depth = next.level.depth;
      groups = found.groups;
      settings_after = branches.after;
      whole = branches.branches;
      tree_is = is ∙ branches.tree_is;
      nesting = fits;
      names = once;
      size = size;
    }

-- at a limit that is deep enough
spells_deeper : (text : List ℕ) (settings : Settings) (next : PatternPlace) (tree : Tree) → SameEnds (place_at_start settings) text next [] → next.around ≡ [] → tree ≡ tree_at next.level
    → AllPairs (λ a b. a ≢ b) (names_of tree) → length (encode_utf8_all text) ≤ 65536 → Spells text (with_limit next.level.depth settings) tree
spells_deeper text settings next tree same closed is once size =
    let found = whole_of (same.back (tree_at next.level) next.level.depth (completes_here next closed)) in
    let branches = branches_of found.ends in
    record {
      first = branches.first;
      others = branches.others;
      depth = next.level.depth;
      groups = found.groups;
      settings_after = with_limit next.level.depth branches.after;
      whole = branches_limit next.level.depth branches.branches;
      tree_is = is ∙ branches.tree_is;
      nesting = omega arith;
      names = once;
      size = size;
    }

-- what a text spells, at any limit, completes it from its start
completes_from : {text : List ℕ} {settings : Settings} {tree : Tree} (limit : ℕ) → (spells : Spells text (with_limit limit settings) tree) → Completes (place_at_start settings) text tree spells.depth
completes_from {text = text} {settings = settings} limit spells =
    subst (λ x. Resumes [] no_level settings 0 text x spells.depth) (sym spells.tree_is) (whole (ends_branches (branches_limit settings.nest_limit spells.whole)))

pub never_spells : {text : List ℕ} {settings : Settings} → NoEnds (place_at_start settings) text → NeverSpells text settings
never_spells none = λ limit tree spells. none tree spells.depth (completes_from limit spells)

-- what the text would spell
ended_so : {text : List ℕ} {settings : Settings} {other : Tree} (next : PatternPlace) (limit : ℕ) → SameEnds (place_at_start settings) text next [] → next.around ≡ []
    → (spells : Spells text (with_limit limit settings) other) → (other ≡ tree_at next.level) × (spells.depth ≡ next.level.depth)
ended_so {other = other} next limit same closed spells =
    end_of_text (subst (λ x. Resumes x next.level next.settings next.groups [] other spells.depth) closed (same.on other spells.depth (completes_from limit spells)))

pub names_stand_twice : {text : List ℕ} {settings : Settings} (next : PatternPlace) (tree : Tree) → SameEnds (place_at_start settings) text next [] → next.around ≡ [] → tree ≡ tree_at next.level
    → (AllPairs (λ a b. a ≢ b) (names_of tree) → ⊥) → NeverSpells text settings
names_stand_twice next tree same closed is twice = λ limit other spells.
    let equal : tree ≡ other = is ∙ sym (ended_so next limit same closed spells).0 in
    twice (subst (λ x. AllPairs (λ a b. a ≢ b) (names_of x)) (sym equal) spells.names)

pub too_deep : (text : List ℕ) (settings : Settings) (next : PatternPlace) → SameEnds (place_at_start settings) text next [] → next.around ≡ [] → settings.nest_limit < next.level.depth
    → AllPairs (λ a b. a ≢ b) (names_of (tree_at next.level)) → length (encode_utf8_all text) ≤ 65536 → IsTooDeep text settings
too_deep text settings next same closed deep once size = record {
  nothing = λ other spells. absurd (omega (arith, deep, spells.nesting, (ended_so next settings.nest_limit same closed spells).1));
  limit = next.level.depth;
  tree = tree_at next.level;
  spells = spells_deeper text settings next (tree_at next.level) same closed refl once size;
}
