-- Patterns read in part: how the rest of the text completes them.
use Rattle.std.specs.Prelude.{◌≡◌, ℕ, ◌+◌, List, [], ◌∷◌, ◌++◌, max}
use Rattle.rx_grammar.specs.Settings.{Settings}
use Rattle.rx_grammar.specs.Trees.{Tree, concat_of}
use Rattle.rx_grammar.specs.Postorder.{alternate}
use Rattle.rx_grammar.specs.Input.{Stops}
use Rattle.rx_grammar.specs.Repetitions.{Postfixes}
use Rattle.rx_grammar.specs.Groups.{Capture, grouped}
use Rattle.rx_grammar.specs.Grammar.{Items, Branches, goes_on_in_branches}

-- what was read of a group, or of the whole pattern: the finished branches, the items of the
-- current one, and the depth
pub record Level : Type 0 where
  pub branches : List Tree
  pub items : List Tree
  pub depth : ℕ

-- an open group: what was read around it, with which settings, the number of groups opened before
-- it, and what it captures
pub record OpenGroup : Type 0 where
  pub level : Level
  pub settings : Settings
  pub groups : ℕ
  pub capture : Capture

-- a position between two items of a pattern: its settings, the number of groups opened before it,
-- what was read of the innermost group, and the groups around that, the innermost one first
pub record PatternPlace : Type 0 where
  pub settings : Settings
  pub groups : ℕ
  pub level : Level
  pub around : List OpenGroup

abbrev pub no_level : Level
no_level = record { branches = []; items = []; depth = 0 }

abbrev pub with_item : Level → Tree → ℕ → Level
with_item level tree depth = record level { items = level.items ++ tree ∷ []; depth = max level.depth depth }

abbrev pub with_branch : Level → Level
with_branch level = record level { branches = level.branches ++ concat_of level.items ∷ []; items = [] }

-- the tree of a level with more items, and branches after these
abbrev pub tree_with : Level → List Tree → List Tree → Tree
tree_with level items later = alternate (level.branches ++ concat_of (level.items ++ items) ∷ later)

-- the tree of a level that nothing follows
abbrev pub tree_at : Level → Tree
tree_at level = alternate (level.branches ++ concat_of level.items ∷ [])

-- more items and then branches, up to the end of the group; their depth, the number of groups
-- opened after them, and the rest of the text
pub data Rest : Settings → ℕ → List ℕ → List Tree → List Tree → ℕ → ℕ → List ℕ → Type 0 where
  last : {s s' : Settings} {m n d : ℕ} {t u : List ℕ} {hs : List Tree} → Items s m t hs d s' n u → Stops goes_on_in_branches u → Rest s m t hs [] d n u
  bar : {s s' s'' : Settings} {m n k d e : ℕ} {t u v w : List ℕ} {g : Tree} {hs gs : List Tree} → Items s m t hs d s' k v → v ≡ 124 ∷ w
      → Branches s' k w g gs e s'' n u → Rest s m t hs (g ∷ gs) (max d e) n u

-- the text completes a level to a tree of this depth
pub record CompletesLevel (level : Level) (s : Settings) (m : ℕ) (t : List ℕ) (tree : Tree) (depth n : ℕ) (u : List ℕ) : Type 0 where
  pub items : List Tree
  pub later : List Tree
  pub deep : ℕ
  pub rest : Rest s m t items later deep n u
  pub tree_is : tree ≡ tree_with level items later
  pub depth_is : depth ≡ max level.depth deep

-- the group ends, and postfixes follow it
pub record ClosesGroup (around : OpenGroup) (inside : Tree) (depth : ℕ) (t : List ℕ) (tree : Tree) (deep : ℕ) (u : List ℕ) : Type 0 where
  pub behind : List ℕ
  pub parenthesis : t ≡ 41 ∷ behind
  pub postfixes : Postfixes around.settings.swap_greed (grouped around.groups around.capture inside) (depth + 1) behind tree deep u

-- the text completes the pattern to a tree of this depth
pub data Resumes : List OpenGroup → Level → Settings → ℕ → List ℕ → Tree → ℕ → Type 0 where
  whole : {level : Level} {s : Settings} {m depth n : ℕ} {t : List ℕ} {tree : Tree} → CompletesLevel level s m t tree depth n [] → Resumes [] level s m t tree depth
  within : {around : OpenGroup} {others : List OpenGroup} {level : Level} {s : Settings} {m depth n d e : ℕ} {t u v : List ℕ} {tree h g : Tree}
      → CompletesLevel level s m t h d n u → ClosesGroup around h d u g e v → Resumes others (with_item around.level g e) around.settings n v tree depth
      → Resumes (around ∷ others) level s m t tree depth

abbrev pub Completes : PatternPlace → List ℕ → Tree → ℕ → Type 0
Completes place t tree depth = Resumes place.around place.level place.settings place.groups t tree depth

-- a text at one position completes the pattern to the same trees as another text at another
-- position
pub record SameEnds (place : PatternPlace) (t : List ℕ) (place' : PatternPlace)
    (t' : List ℕ) : Type 0 where
  pub on : (tree : Tree) (depth : ℕ) → Completes place t tree depth → Completes place' t' tree depth
  pub back : (tree : Tree) (depth : ℕ) → Completes place' t' tree depth → Completes place t tree depth

-- the text completes the pattern to no tree
abbrev pub NoEnds : PatternPlace → List ℕ → Type 0
NoEnds place t = (tree : Tree) (depth : ℕ) → Completes place t tree depth → ⊥
