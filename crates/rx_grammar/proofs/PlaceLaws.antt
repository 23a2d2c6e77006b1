-- How the parser's position advances with what it reads.
use Rattle.std.proofs.Common.{◌≡◌, ℕ, ◌+◌, ◌≤◌, ◌<◌, List, [], ◌∷◌, ◌++◌, length, reverse, min, max, ◌-◌, ◌^◌, Result, Ok, Err, MatchResult, IsErrAnd, refl, sym, ap, ap₂, subst, ◌∙◌, arith, length-append}
use Rattle.std.proofs.lemmas.List.{reverse-append, length-reverse}
use Rattle.rx_grammar.specs.declared.error.SyntaxError.{SyntaxError}
use Rattle.rx_grammar.specs.declared.error.SyntaxError.TheVariants.{TooLong, Nesting, Outside, Memory}
use Rattle.rx_grammar.specs.declared.parser.Heights.{Heights}
use Rattle.rx_grammar.specs.declared.parser.Around.{Around}
use Rattle.rx_grammar.specs.declared.parser.Parser.{Parser}
use Rattle.rx_grammar.specs.Settings.{Settings}
use Rattle.rx_grammar.specs.Trees.{Tree}
use Rattle.rx_grammar.specs.Input.{Begins}
use Rattle.rx_grammar.specs.Groups.{Setting, Capture, numbered, unnumbered, Opening, opened, grouped}
use Rattle.rx_grammar.specs.Repetitions.{Postfixes}
use Rattle.rx_grammar.specs.Grammar.{PlainAtom, plain_atom}
use Rattle.rx_grammar.specs.Heads.{NoHead, capture_of}
use Rattle.rx_grammar.specs.Atoms.{NoPlainAtom}
use Rattle.rx_grammar.specs.Weights.{held}
use Rattle.rx_grammar.specs.Stacks.{captured, IsRefusedWhere, NoPostfixes}
use Rattle.rx_grammar.specs.Resuming.{Level, OpenGroup, PatternPlace, no_level, with_item, with_branch, tree_at, Resumes, SameEnds, NoEnds}
use Rattle.rx_grammar.specs.Places.{IsLevel, Surround, outermost, further, ParserIsAt, item_at, opened_at, ItemRead, PartRead, IsAtomPlace}
use Rattle.rx_grammar.proofs.ShorterLaws.{plain_shorter, postfixes_shorter}
use Rattle.rx_grammar.proofs.ResumeLaws.{setting_on, setting_back, item_on, item_back, branch_on, branch_back, open_on, open_back, close_on, close_back, no_item, no_close, no_open_group, no_head, no_atom}

pub refusal_map : {P Q : Type 0} (e : SyntaxError) → (P → Q) → IsRefusedWhere e P → IsRefusedWhere e Q
refusal_map TooLong f h = h
refusal_map Nesting f h = h
refusal_map Outside f h = f h
refusal_map Memory f h = h

pub result_map : {T E : Type 0} (P P' : T → Type 0) (Q Q' : E → Type 0) (r : Result T E) → ((x : T) → P x → P' x) → ((e : E) → Q e → Q' e) → MatchResult r P Q → MatchResult r P' Q'
result_map P P' Q Q' (Ok x) f g h = f x h
result_map P P' Q Q' (Err e) f g h = g e h

-- an error that `?` returns
pub err_map : {T : Type 0} (P : T → Type 0) (Q : Type 0) (r : Result T SyntaxError) → IsErrAnd r (λ e. e ≡ Memory) → MatchResult r P (λ e. IsRefusedWhere e Q)
err_map P Q (Ok x) h = absurd h
err_map P Q (Err e) h = subst (λ x. IsRefusedWhere x Q) (sym h) tt

-- depths as they are kept
pub held-max : (a b : ℕ) → max (held a) (held b) ≡ held (max a b)
held-max a b = grind arith

pub held-next : (a : ℕ) → min (held a + 1) (2 ^ 64 - 1) ≡ held (a + 1)
held-next a = grind arith

-- levels
pub group_within : {heights : Heights} {level : Level} {trees below : List Tree} → IsLevel heights level trees below → heights.group ≤ length trees
group_within {level = level} {below = below} is =
    omega (arith, is.group_is, ap length is.trees_are, length-append (reverse level.items) (reverse level.branches ++ below), length-append (reverse level.branches) below)

pub level_none : (trees : List Tree) (n : ℕ) → n ≡ length trees → IsLevel (record { group = n; branch = n; depth = 0 }) no_level trees trees
level_none trees n is = record { trees_are = refl; group_is = is; branch_is = is; depth_is = refl }

pub level_item : {heights heights' : Heights} {kept : ℕ} {level : Level} {trees below : List Tree} (made : Tree) (deep : ℕ) → IsLevel heights level trees below
    → heights'.group ≡ heights.group → heights'.branch ≡ heights.branch → heights'.depth ≡ max heights.depth kept → kept ≡ held deep
    → IsLevel heights' (with_item level made deep) (made ∷ trees) below
level_item {level = level} {below = below} made deep is group branch depth kept_is = record {
  trees_are = ap (λ x. made ∷ x) is.trees_are ∙ ap (λ x. x ++ (reverse level.branches ++ below)) (sym (reverse-append level.items (made ∷ [])));
  group_is = group ∙ is.group_is;
  branch_is = branch ∙ is.branch_is;
  depth_is = depth ∙ ap₂ (λ x y. max x y) is.depth_is kept_is ∙ held-max level.depth deep;
}

-- the groups around a position
pub record Innermost (around : Around) (arounds : List Around) (groups : List OpenGroup) (trees : List Tree) : Type 0 where
  pub group : OpenGroup
  pub others : List OpenGroup
  pub below : List Tree
  pub groups_are : groups ≡ group ∷ others
  pub level : IsLevel around.heights group.level trees below
  pub settings : around.config ≡ group.settings
  pub number : around.number ≡ opened group.groups group.capture
  pub captures : capture_of around.captures ≡ group.capture
  pub rest : Surround arounds others below

pub innermost : {around : Around} {arounds all : List Around} {groups : List OpenGroup} {trees : List Tree} → all ≡ around ∷ arounds → Surround all groups trees
    → Innermost around arounds groups trees
innermost e outermost = absurd (cc)
innermost {around = around} {arounds = arounds} {groups = groups} {trees = trees} e (further {group = group} {arounds = arounds'} {groups = others} {below = below} level settings number captures rest) =
    let head = first_of e in
    let tail = rest_of e in
    record {
      group = group;
      others = others;
      below = below;
      groups_are = refl;
      level = subst (λ x. IsLevel x.heights group.level trees below) head level;
      settings = ap (λ x. x.config) (sym head) ∙ settings;
      number = ap (λ x. x.number) (sym head) ∙ number;
      captures = ap (λ x. capture_of x.captures) (sym head) ∙ captures;
      rest = subst (λ x. Surround x others below) tail rest;
    }
  where
    first_of : {a b : Around} {xs ys : List Around} → a ∷ xs ≡ b ∷ ys → a ≡ b
    first_of e = cc

    rest_of : {a b : Around} {xs ys : List Around} → a ∷ xs ≡ b ∷ ys → xs ≡ ys
    rest_of e = cc

pub none_around : {all : List Around} {groups : List OpenGroup} {trees : List Tree} → all ≡ [] → Surround all groups trees → groups ≡ []
none_around e outermost = refl
none_around e (further level settings number captures rest) = absurd (cc)

pub no_arounds : {groups : List OpenGroup} {trees : List Tree} (items : List Around) → length items ≡ 0 → Surround (reverse items) groups trees → groups ≡ []
no_arounds [] none surround = none_around refl surround
no_arounds (item ∷ items) none surround = absurd (omega arith)

pub some_arounds : {groups : List OpenGroup} {trees : List Tree} (items : List Around) → (length items ≡ 0 → ⊥) → Surround (reverse items) groups trees → groups ≡ [] → ⊥
some_arounds {trees = trees} items some surround none = at (reverse items) (λ e. some (sym (length-reverse items) ∙ ap length e)) surround none
  where
    at : {groups' : List OpenGroup} (all : List Around) → (all ≡ [] → ⊥) → Surround all groups' trees → groups' ≡ [] → ⊥
    at [] some' found e = some' refl
    at (x ∷ xs) some' (further level settings number captures rest) e = absurd (cc)

pub nothing_below : {all : List Around} {groups : List OpenGroup} {trees : List Tree} → Surround all groups trees → groups ≡ [] → trees ≡ []
nothing_below outermost e = refl
nothing_below (further level settings number captures rest) e = absurd (cc)

pub opened_by : (n : ℕ) (k : Capture) → opened n k ≡ n + opened 0 k
opened_by n (numbered name) = omega arith
opened_by n unnumbered = omega arith

pub captured_grouped : (number n : ℕ) (k : Capture) (tree : Tree) → number ≡ opened n k → captured number k tree ≡ grouped n k tree
captured_grouped number n (numbered name) tree e = ap (λ x. captured x (numbered name) tree) e
captured_grouped number n unnumbered tree e = refl

-- how a position and the text there lead to the next position
pub same_setting : {t u : List ℕ} {s' : Settings} (place : PatternPlace) → Setting place.settings t s' u → SameEnds place t (record place { settings = s' }) u
same_setting place one = record { on = λ tree depth r. setting_on one r; back = λ tree depth r. setting_back one r }

pub same_opening : {t u : List ℕ} {s' : Settings} {k : Capture} (place : PatternPlace) → Opening place.settings t s' k u → SameEnds place t (opened_at place s' k) u
same_opening place one = record { on = λ tree depth r. open_on one r; back = λ tree depth r. open_back one r }

pub same_branch : {t u : List ℕ} (place : PatternPlace) → t ≡ 124 ∷ u → SameEnds place t (record place { level = with_branch place.level }) u
same_branch place e = record { on = λ tree depth r. branch_on e r; back = λ tree depth r. branch_back e r }

pub same_atom : {t v u : List ℕ} {h g : Tree} {e : ℕ} (place : PatternPlace) → PlainAtom place.settings t h v → Postfixes place.settings.swap_greed h 0 v g e u → SameEnds place t (item_at place g e) u
same_atom place one postfixes = record {
  on = λ tree depth r. item_on (plain_atom one) postfixes r;
  back = λ tree depth r. item_back (plain_atom one) postfixes r;
}

-- the position after a group
abbrev pub behind_group : PatternPlace → OpenGroup → List OpenGroup → PatternPlace
behind_group place group others = record { settings = group.settings; groups = place.groups; level = group.level; around = others }

pub same_close : {v u : List ℕ} {o : OpenGroup} {os : List OpenGroup} {g : Tree} {e : ℕ} (place : PatternPlace) → place.around ≡ o ∷ os
    → Postfixes o.settings.swap_greed (grouped o.groups o.capture (tree_at place.level)) (place.level.depth + 1) v g e u
    → SameEnds place (41 ∷ v) (item_at (behind_group place o os) g e) u
same_close {v = v} place is postfixes = record {
  on = λ tree n r. close_on refl postfixes (subst (λ x. Resumes x place.level place.settings place.groups (41 ∷ v) tree n) is r);
  back = λ tree n r. subst (λ x. Resumes x place.level place.settings place.groups (41 ∷ v) tree n) (sym is) (close_back refl postfixes r);
}

-- reads
pub setting_read : {before after : Parser} {t u : List ℕ} {s' : Settings} (place : PatternPlace) → Setting place.settings t s' u → ParserIsAt after [] (record place { settings = s' }) → length u < length t
    → after.groups ≡ before.groups → PartRead before after place t u
setting_read {s' = s'} place one stands shorter groups = record {
  next = record place { settings = s' };
  stands = stands;
  same = same_setting place one;
  shorter = shorter;
  groups = omega (arith, groups, shorter);
}

pub opening_read : {before after : Parser} {t u : List ℕ} {s' : Settings} {k : Capture} (place : PatternPlace) → Opening place.settings t s' k u → ParserIsAt after [] (opened_at place s' k) → length u < length t
    → after.groups ≤ before.groups + 1 → PartRead before after place t u
opening_read {s' = s'} {k = k} place one stands shorter groups = record {
  next = opened_at place s' k;
  stands = stands;
  same = same_opening place one;
  shorter = shorter;
  groups = omega (arith, groups, shorter);
}

pub branch_read : {before after : Parser} {t u : List ℕ} (place : PatternPlace) → t ≡ 124 ∷ u → ParserIsAt after [] (record place { level = with_branch place.level })
    → after.groups ≡ before.groups → PartRead before after place t u
branch_read place e stands groups = record {
  next = record place { level = with_branch place.level };
  stands = stands;
  same = same_branch place e;
  shorter = omega (arith, ap length e);
  groups = omega (arith, groups, ap length e);
}

pub atom_read : {before middle after : Parser} {t v u : List ℕ} {h : Tree} (place : PatternPlace) → PlainAtom place.settings t h v → ItemRead middle after place h 0 v u
    → middle.groups ≡ before.groups → PartRead before after place t u
atom_read place one read groups = record {
  next = item_at place read.made read.deep;
  stands = read.stands;
  same = same_atom place one read.postfixes;
  shorter = omega (arith, plain_shorter one, postfixes_shorter read.postfixes);
  groups = omega (arith, read.groups, groups, plain_shorter one, postfixes_shorter read.postfixes);
}

pub atom_refused : {t v : List ℕ} {h : Tree} (place : PatternPlace) → PlainAtom place.settings t h v → NoPostfixes place.settings.swap_greed h 0 v → NoEnds place t
atom_refused place one none = λ tree depth r. no_item (plain_atom one) none r

pub no_atom_here : {t : List ℕ} (place : PatternPlace) → IsAtomPlace t → NoPlainAtom place.settings t → NoEnds place t
no_atom_here place at none = λ tree depth r. no_atom at.no_group at.inside none r

pub no_head_here : {t : List ℕ} (place : PatternPlace) → Begins 40 t → NoHead place.settings t → NoEnds place t
no_head_here place begins none = λ tree depth r. no_head begins none r

pub close_read : {before middle after : Parser} {v u : List ℕ} {o : OpenGroup} {os : List OpenGroup} (place : PatternPlace) → place.around ≡ o ∷ os
    → ItemRead middle after (behind_group place o os) (grouped o.groups o.capture (tree_at place.level)) (place.level.depth + 1) v u
    → middle.groups ≡ before.groups → PartRead before after place (41 ∷ v) u
close_read {o = o} {os = os} place is read groups = record {
  next = item_at (behind_group place o os) read.made read.deep;
  stands = read.stands;
  same = same_close place is read.postfixes;
  shorter = omega (arith, postfixes_shorter read.postfixes);
  groups = omega (arith, read.groups, groups, postfixes_shorter read.postfixes);
}

pub close_refused : {v : List ℕ} {o : OpenGroup} {os : List OpenGroup} (place : PatternPlace) → place.around ≡ o ∷ os
    → NoPostfixes o.settings.swap_greed (grouped o.groups o.capture (tree_at place.level)) (place.level.depth + 1) v → NoEnds place (41 ∷ v)
close_refused {v = v} place is none = λ tree n r.
    no_close refl none (subst (λ x. Resumes x place.level place.settings place.groups (41 ∷ v) tree n) is r)

pub close_unopened : (v : List ℕ) (place : PatternPlace) → place.around ≡ [] → NoEnds place (41 ∷ v)
close_unopened v place is = λ tree depth r.
    no_open_group refl (subst (λ x. Resumes x place.level place.settings place.groups (41 ∷ v) tree depth) is r)
