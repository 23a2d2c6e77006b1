-- The state of the parser in a pattern.
use Rattle.std.specs.Prelude.{◌≡◌, ℕ, ◌+◌, ◌≤◌, ◌<◌, List, [], ◌∷◌, ◌++◌, length, reverse}
use Rattle.rx_grammar.specs.declared.parser.Heights.{Heights}
use Rattle.rx_grammar.specs.declared.parser.Around.{Around}
use Rattle.rx_grammar.specs.declared.parser.Parser.{Parser}
use Rattle.rx_grammar.specs.Settings.{Settings}
use Rattle.rx_grammar.specs.Trees.{Tree}
use Rattle.rx_grammar.specs.Subtrees.{NodeKind}
use Rattle.rx_grammar.specs.Weights.{held}
use Rattle.rx_grammar.specs.Postorder.{trees_of}
use Rattle.rx_grammar.specs.Input.{Begins, Stops}
use Rattle.rx_grammar.specs.Repetitions.{Postfixes}
use Rattle.rx_grammar.specs.Groups.{Capture, opened}
use Rattle.rx_grammar.specs.Grammar.{goes_on}
use Rattle.rx_grammar.specs.Heads.{capture_of}
use Rattle.rx_grammar.specs.Resuming.{Level, OpenGroup, PatternPlace, SameEnds, no_level, with_item, tree_at}

-- the trees of a level are on top of those of the levels around it, the last one first
pub record IsLevel (heights : Heights) (level : Level) (trees below : List Tree) : Type 0 where
  pub trees_are : trees ≡ reverse level.items ++ (reverse level.branches ++ below)
  pub group_is : heights.group ≡ length below
  pub branch_is : heights.branch ≡ length (reverse level.branches ++ below)
  pub depth_is : heights.depth ≡ held level.depth

-- the groups around a position, the innermost one first
pub data Surround : List Around → List OpenGroup → List Tree → Type 0 where
  outermost : Surround [] [] []
  further : {around : Around} {group : OpenGroup} {arounds : List Around} {groups : List OpenGroup} {trees below : List Tree}
      → IsLevel around.heights group.level trees below → around.config ≡ group.settings → around.number ≡ opened group.groups group.capture
      → capture_of around.captures ≡ group.capture → Surround arounds groups below → Surround (around ∷ arounds) (group ∷ groups) trees

-- the parser is at a position, with more trees that are no items yet, the last one first
pub record ParserIsAt (parser : Parser) (pending : List Tree) (place : PatternPlace) : Type 0 where
  pub trees : List Tree
  pub below : List Tree
  pub trees_are : trees_of parser.trees ≡ pending ++ trees
  pub level : IsLevel parser.heights place.level trees below
  pub settings : parser.config ≡ place.settings
  pub groups : parser.groups ≡ place.groups
  pub around : Surround (reverse parser.around.items) place.around below

abbrev pub IsAtSomePlace : Parser → Type 0
IsAtSomePlace parser = (place : PatternPlace) × ParserIsAt parser [] place

-- the start of a pattern
abbrev pub place_at_start : Settings → PatternPlace
place_at_start settings = record { settings = settings; groups = 0; level = no_level; around = [] }

abbrev pub item_at : PatternPlace → Tree → ℕ → PatternPlace
item_at place tree depth = record place { level = with_item place.level tree depth }

abbrev pub opened_at : PatternPlace → Settings → Capture → PatternPlace
opened_at place inside capture = record {
  settings = inside;
  groups = opened place.groups capture;
  level = no_level;
  around = (record { level = place.level; settings = place.settings; groups = place.groups; capture = capture }) ∷ place.around;
}

-- the postfixes after an atom were read, and it is an item with them
pub record ItemRead (before after : Parser) (place : PatternPlace) (tree : Tree) (depth : ℕ) (t u : List ℕ) : Type 0 where
  pub made : Tree
  pub deep : ℕ
  pub postfixes : Postfixes place.settings.swap_greed tree depth t made deep u
  pub stands : ParserIsAt after [] (item_at place made deep)
  pub groups : after.groups ≡ before.groups

-- the branches of the level are one tree, and all else is unchanged
pub record EndsLevel (before after : Parser) (place : PatternPlace) : Type 0 where
  pub below : List Tree
  pub trees_are : trees_of after.trees ≡ tree_at place.level ∷ below
  pub depth_is : after.heights.depth ≡ held place.level.depth
  pub around : Surround (reverse after.around.items) place.around below
  pub groups_are : after.groups ≡ place.groups
  pub groups : after.groups ≡ before.groups

-- a part of the text was read, and the rest completes the pattern as before
pub record PartRead (before after : Parser) (place : PatternPlace) (t u : List ℕ) : Type 0 where
  pub next : PatternPlace
  pub stands : ParserIsAt after [] next
  pub same : SameEnds place t next u
  pub shorter : length u < length t
  pub groups : after.groups + length u ≤ before.groups + length t

-- the text may start with an atom other than a group
pub record IsAtomPlace (t : List ℕ) : Type 0 where
  pub no_group : Begins 40 t → ⊥
  pub inside : Stops goes_on t → ⊥

-- the whole text was read
pub record TextRead (after : Parser) (place : PatternPlace) (t : List ℕ) : Type 0 where
  pub next : PatternPlace
  pub stands : ParserIsAt after [] next
  pub same : SameEnds place t next []

-- no group is open, and the tree and its depth are those of the text read
pub record IsFinished (place : PatternPlace) (nodes : List NodeKind) (depth : ℕ) : Type 0 where
  pub nothing_open : place.around ≡ []
  pub tree_is : trees_of nodes ≡ tree_at place.level ∷ []
  pub depth_is : depth ≡ held place.level.depth
