-- How each part of a pattern advances the position in it.
use Rattle.std.proofs.Common.{◌≡◌, ℕ, ◌+◌, Bool, false, List, [], ◌∷◌, ◌++◌, append-nil, append_assoc, max, refl, sym, ap, ap₂, subst, ◌∙◌, arith}
use Rattle.std.proofs.lemmas.Bool.Decides.{nat_tests}
use Rattle.rx_grammar.specs.Settings.{Settings}
use Rattle.rx_grammar.specs.Trees.{Tree, concat_of, alternation_of}
use Rattle.rx_grammar.specs.Postorder.{alternate}
use Rattle.rx_grammar.specs.Input.{Begins, Stops}
use Rattle.rx_grammar.specs.Repetitions.{Postfixes}
use Rattle.rx_grammar.specs.Groups.{Setting, Capture, Opening, opened, grouped}
use Rattle.rx_grammar.specs.Grammar.{Atom, plain_atom, group, Items, ended, setting, item, Branches, goes_on, goes_on_in_branches}
use Rattle.rx_grammar.specs.Grammar as grammar
use Rattle.rx_grammar.specs.Heads.{NoHead}
use Rattle.rx_grammar.specs.Atoms.{NoPlainAtom}
use Rattle.rx_grammar.specs.Resuming.{Level, OpenGroup, no_level, with_item, with_branch, tree_with, tree_at, Rest, last, bar, CompletesLevel, ClosesGroup, Resumes, whole, within}
use Rattle.rx_grammar.proofs.InputLemmas.{rest_is, Stops-not}
use Rattle.rx_grammar.proofs.RepetitionLaws.{postfixes_unique, postfixes_along}
use Rattle.rx_grammar.proofs.GroupLaws.{setting_unique, opening_unique, setting_or_opening, setting_begins, opening_begins}
use Rattle.rx_grammar.proofs.GrammarLaws.{atom_unique, items_along, branches_along, setting_or_atom, setting_goes_on, atom_goes_on, plain_begins, Stops-paren, no_paren}

-- what completes the level completes the pattern
resume_by : {os : List OpenGroup} {l l' : Level} {s s' : Settings} {m m' depth : ℕ} {t t' : List ℕ} {tree : Tree}
    → ((h : Tree) (d n : ℕ) (u : List ℕ) → CompletesLevel l s m t h d n u → CompletesLevel l' s' m' t' h d n u)
    → Resumes os l s m t tree depth → Resumes os l' s' m' t' tree depth
resume_by f (whole ends) = whole (f _ _ _ _ ends)
resume_by f (within ends closes after) = within (f _ _ _ _ ends) closes after

-- how a level ends
record EndsSomehow (l : Level) (s : Settings) (m : ℕ) (t : List ℕ) : Type 0 where
  tree : Tree
  depth : ℕ
  groups : ℕ
  after : List ℕ
  ends : CompletesLevel l s m t tree depth groups after

ends_in : {os : List OpenGroup} {l : Level} {s : Settings} {m depth : ℕ} {t : List ℕ} {tree : Tree} → Resumes os l s m t tree depth → EndsSomehow l s m t
ends_in (whole ends) = record { tree = _; depth = _; groups = _; after = _; ends = ends }
ends_in (within ends closes after) = record { tree = _; depth = _; groups = _; after = _; ends = ends }

record ItemsSomehow (s : Settings) (m : ℕ) (t : List ℕ) : Type 0 where
  list : List Tree
  depth : ℕ
  settings : Settings
  groups : ℕ
  after : List ℕ
  items : Items s m t list depth settings groups after

items_in : {s : Settings} {m n d : ℕ} {t u : List ℕ} {hs gs : List Tree} → Rest s m t hs gs d n u → ItemsSomehow s m t
items_in (last items stops) = record { list = _; depth = _; settings = _; groups = _; after = _; items = items }
items_in (bar items e others) = record { list = _; depth = _; settings = _; groups = _; after = _; items = items }

items_of : {os : List OpenGroup} {l : Level} {s : Settings} {m depth : ℕ} {t : List ℕ} {tree : Tree} → Resumes os l s m t tree depth → ItemsSomehow s m t
items_of resumes = items_in (ends_in resumes).ends.rest

-- what an open group is completed by
record Parts (o : OpenGroup) (os : List OpenGroup) (l : Level) (s : Settings) (m : ℕ) (t : List ℕ) (tree : Tree) (depth : ℕ) : Type 0 where
  inside : Tree
  d : ℕ
  n : ℕ
  u : List ℕ
  g : Tree
  e : ℕ
  v : List ℕ
  ends : CompletesLevel l s m t inside d n u
  closes : ClosesGroup o inside d u g e v
  after : Resumes os (with_item o.level g e) o.settings n v tree depth

parts : {o : OpenGroup} {os : List OpenGroup} {l : Level} {s : Settings} {m depth : ℕ} {t : List ℕ} {tree : Tree} → Resumes (o ∷ os) l s m t tree depth → Parts o os l s m t tree depth
parts (within ends closes after) = record { inside = _; d = _; n = _; u = _; g = _; e = _; v = _; ends = ends; closes = closes; after = after }

-- branches, and the rest of a level
record AsRest (s : Settings) (m : ℕ) (t : List ℕ) (first : Tree) (others : List Tree) (d n : ℕ) (u : List ℕ) : Type 0 where
  items : List Tree
  rest : Rest s m t items others d n u
  first_is : first ≡ concat_of items

as_rest : {s s' : Settings} {m n d : ℕ} {t u : List ℕ} {h : Tree} {hs : List Tree} → Branches s m t h hs d s' n u → AsRest s m t h hs d n u
as_rest (grammar.last items stops) = record { items = _; rest = last items stops; first_is = refl }
as_rest (grammar.bar items e others) = record { items = _; rest = bar items e others; first_is = refl }

record AsBranches (s : Settings) (m : ℕ) (t : List ℕ) (first : Tree) (others : List Tree) (d n : ℕ) (u : List ℕ) : Type 0 where
  after : Settings
  branches : Branches s m t first others d after n u

as_branches : {s : Settings} {m n d : ℕ} {t u : List ℕ} {items later : List Tree} → Rest s m t items later d n u → AsBranches s m t (concat_of items) later d n u
as_branches (last items stops) = record { after = _; branches = grammar.last items stops }
as_branches (bar items e others) = record { after = _; branches = grammar.bar items e others }

max-of_zero : (d : ℕ) → max 0 d ≡ d
max-of_zero d = grind arith

max-zero : (d : ℕ) → max d 0 ≡ d
max-zero d = grind arith

max_assoc : (a b c : ℕ) → max a (max b c) ≡ max (max a b) c
max_assoc a b c = grind arith

pub ends_branches : {s s' : Settings} {m n d : ℕ} {t u : List ℕ} {h : Tree} {hs : List Tree} → Branches s m t h hs d s' n u → CompletesLevel no_level s m t (alternation_of h hs) d n u
ends_branches {d = d} {hs = hs} branches =
    let rest = as_rest branches in
    record { items = rest.items; later = hs; deep = d; rest = rest.rest; tree_is = ap (λ x. alternation_of x hs) rest.first_is; depth_is = sym (max-of_zero d) }

pub record BranchesOf (s : Settings) (m : ℕ) (t : List ℕ) (tree : Tree) (d n : ℕ) (u : List ℕ) : Type 0 where
  pub first : Tree
  pub others : List Tree
  pub after : Settings
  pub branches : Branches s m t first others d after n u
  pub tree_is : tree ≡ alternation_of first others

pub branches_of : {s : Settings} {m n d : ℕ} {t u : List ℕ} {h : Tree} → CompletesLevel no_level s m t h d n u → BranchesOf s m t h d n u
branches_of {s = s} {m = m} {n = n} {t = t} {u = u} ends =
    let made = as_branches ends.rest in
    let depth = ends.depth_is ∙ max-of_zero ends.deep in
    record {
      first = concat_of ends.items;
      others = ends.later;
      after = made.after;
      branches = subst (λ x. Branches s m t (concat_of ends.items) ends.later x made.after n u) (sym depth) made.branches;
      tree_is = ends.tree_is;
    }

-- a setting
setting_items : {s s' z : Settings} {m n d : ℕ} {t v u : List ℕ} {hs : List Tree} → Setting s t s' v → Items s m t hs d z n u → Items s' m v hs d z n u
setting_items one (ended stops) = absurd (setting_goes_on one stops)
setting_items one (setting one' items) = let same = setting_unique one one' in items_along same.0 refl same.1 items
setting_items one (item atom postfixes items) = absurd (setting_or_atom one atom)

setting_rest : {s s' : Settings} {m n d : ℕ} {t v u : List ℕ} {hs gs : List Tree} → Setting s t s' v → Rest s m t hs gs d n u → Rest s' m v hs gs d n u
setting_rest one (last items stops) = last (setting_items one items) stops
setting_rest one (bar items e others) = bar (setting_items one items) e others

rest_setting : {s s' : Settings} {m n d : ℕ} {t v u : List ℕ} {hs gs : List Tree} → Setting s t s' v → Rest s' m v hs gs d n u → Rest s m t hs gs d n u
rest_setting one (last items stops) = last (setting one items) stops
rest_setting one (bar items e others) = bar (setting one items) e others

pub setting_on : {os : List OpenGroup} {l : Level} {s s' : Settings} {m depth : ℕ} {t v : List ℕ} {tree : Tree} → Setting s t s' v → Resumes os l s m t tree depth → Resumes os l s' m v tree depth
setting_on one resumes = resume_by (λ h d n u ends. record { items = ends.items; later = ends.later; deep = ends.deep; rest = setting_rest one ends.rest; tree_is = ends.tree_is; depth_is = ends.depth_is }) resumes

pub setting_back : {os : List OpenGroup} {l : Level} {s s' : Settings} {m depth : ℕ} {t v : List ℕ} {tree : Tree} → Setting s t s' v → Resumes os l s' m v tree depth → Resumes os l s m t tree depth
setting_back one resumes = resume_by (λ h d n u ends. record { items = ends.items; later = ends.later; deep = ends.deep; rest = rest_setting one ends.rest; tree_is = ends.tree_is; depth_is = ends.depth_is }) resumes

-- an item
record ItemsAfter (s : Settings) (k : ℕ) (w : List ℕ) (g : Tree) (e : ℕ) (hs : List Tree) (d : ℕ) (z : Settings) (n : ℕ) (u : List ℕ) : Type 0 where
  items : List Tree
  deep : ℕ
  reads : Items s k w items deep z n u
  items_is : hs ≡ g ∷ items
  deep_is : d ≡ max e deep

items_after : {s z : Settings} {m k n d e f : ℕ} {t v w u : List ℕ} {h g : Tree} {hs : List Tree} → Atom s m t h d k v → Postfixes s.swap_greed h d v g e w
    → Items s m t hs f z n u → ItemsAfter s k w g e hs f z n u
items_after atom postfixes (ended stops) = absurd (atom_goes_on atom stops)
items_after atom postfixes (setting one items) = absurd (setting_or_atom one atom)
items_after atom postfixes (item {f = f} {hs = hs} atom' postfixes' items) =
    let same = atom_unique atom atom' in
    let after = postfixes_unique postfixes (postfixes_along same.0 same.1 same.3 postfixes') in
    record {
      items = hs;
      deep = f;
      reads = items_along refl same.2 after.2 items;
      items_is = ap (λ x. x ∷ hs) (sym after.0);
      deep_is = ap (λ x. max x f) (sym after.1);
    }

record RestAfter (s : Settings) (k : ℕ) (w : List ℕ) (g : Tree) (e : ℕ) (hs gs : List Tree) (d n : ℕ) (u : List ℕ) : Type 0 where
  items : List Tree
  deep : ℕ
  reads : Rest s k w items gs deep n u
  items_is : hs ≡ g ∷ items
  deep_is : d ≡ max e deep

rest_after : {s : Settings} {m k n d e f : ℕ} {t v w u : List ℕ} {h g : Tree} {hs gs : List Tree} → Atom s m t h d k v → Postfixes s.swap_greed h d v g e w
    → Rest s m t hs gs f n u → RestAfter s k w g e hs gs f n u
rest_after atom postfixes (last items stops) =
    let after = items_after atom postfixes items in
    record { items = after.items; deep = after.deep; reads = last after.reads stops; items_is = after.items_is; deep_is = after.deep_is }
rest_after {e = e} atom postfixes (bar {e = f} items is others) =
    let after = items_after atom postfixes items in
    record {
      items = after.items;
      deep = max after.deep f;
      reads = bar after.reads is others;
      items_is = after.items_is;
      deep_is = ap (λ x. max x f) after.deep_is ∙ sym (max_assoc e after.deep f);
    }

record RestBefore (s : Settings) (m : ℕ) (t : List ℕ) (e : ℕ) (hs gs : List Tree) (d n : ℕ) (u : List ℕ) : Type 0 where
  deep : ℕ
  reads : Rest s m t hs gs deep n u
  deep_is : deep ≡ max e d

rest_before : {s : Settings} {m k n d e f : ℕ} {t v w u : List ℕ} {h g : Tree} {hs gs : List Tree} → Atom s m t h d k v → Postfixes s.swap_greed h d v g e w
    → Rest s k w hs gs f n u → RestBefore s m t e (g ∷ hs) gs f n u
rest_before atom postfixes (last items stops) = record { deep = _; reads = last (item atom postfixes items) stops; deep_is = refl }
rest_before {e = e} atom postfixes (bar {d = d} {e = f} items is others) =
    record { deep = _; reads = bar (item atom postfixes items) is others; deep_is = sym (max_assoc e d f) }

tree_with-item : (l : Level) (g : Tree) (e : ℕ) (hs gs : List Tree) → tree_with (with_item l g e) hs gs ≡ tree_with l (g ∷ hs) gs
tree_with-item l g e hs gs = ap (λ x. alternate (l.branches ++ concat_of x ∷ gs)) (append_assoc l.items (g ∷ []) hs)

item_ends : {l : Level} {s : Settings} {m k n d e f : ℕ} {t v w u : List ℕ} {h g tree : Tree} → Atom s m t h d k v → Postfixes s.swap_greed h d v g e w
    → CompletesLevel l s m t tree f n u → CompletesLevel (with_item l g e) s k w tree f n u
item_ends {l = l} {e = e} {g = g} atom postfixes ends =
    let after = rest_after atom postfixes ends.rest in
    record {
      items = after.items;
      later = ends.later;
      deep = after.deep;
      rest = after.reads;
      tree_is = ends.tree_is ∙ ap (λ x. tree_with l x ends.later) after.items_is ∙ sym (tree_with-item l g e after.items ends.later);
      depth_is = ends.depth_is ∙ ap (λ x. max l.depth x) after.deep_is ∙ max_assoc l.depth e after.deep;
    }

ends_item : {l : Level} {s : Settings} {m k n d e f : ℕ} {t v w u : List ℕ} {h g tree : Tree} → Atom s m t h d k v → Postfixes s.swap_greed h d v g e w
    → CompletesLevel (with_item l g e) s k w tree f n u → CompletesLevel l s m t tree f n u
ends_item {l = l} {e = e} {g = g} atom postfixes ends =
    let before = rest_before atom postfixes ends.rest in
    record {
      items = g ∷ ends.items;
      later = ends.later;
      deep = before.deep;
      rest = before.reads;
      tree_is = ends.tree_is ∙ tree_with-item l g e ends.items ends.later;
      depth_is = ends.depth_is ∙ sym (max_assoc l.depth e ends.deep) ∙ ap (λ x. max l.depth x) (sym before.deep_is);
    }

pub item_on : {os : List OpenGroup} {l : Level} {s : Settings} {m k d e depth : ℕ} {t v w : List ℕ} {h g tree : Tree} → Atom s m t h d k v → Postfixes s.swap_greed h d v g e w
    → Resumes os l s m t tree depth → Resumes os (with_item l g e) s k w tree depth
item_on atom postfixes resumes = resume_by (λ h d n u ends. item_ends atom postfixes ends) resumes

pub item_back : {os : List OpenGroup} {l : Level} {s : Settings} {m k d e depth : ℕ} {t v w : List ℕ} {h g tree : Tree} → Atom s m t h d k v → Postfixes s.swap_greed h d v g e w
    → Resumes os (with_item l g e) s k w tree depth → Resumes os l s m t tree depth
item_back atom postfixes resumes = resume_by (λ h d n u ends. ends_item atom postfixes ends) resumes

-- the end of a branch
Stops-from : {t u : List ℕ} {c : ℕ} (p : ℕ → Bool) → t ≡ c ∷ u → p c ≡ false → Stops p t
Stops-from p e fails = subst (Stops p) (sym e) fails

record RestInBranch (s : Settings) (m : ℕ) (w : List ℕ) (hs gs : List Tree) (d n : ℕ) (u : List ℕ) : Type 0 where
  items : List Tree
  later : List Tree
  deep : ℕ
  reads : Rest s m w items later deep n u
  items_is : hs ≡ []
  later_is : gs ≡ concat_of items ∷ later
  deep_is : d ≡ deep

rest_in_branch : {s : Settings} {m n d : ℕ} {t w u : List ℕ} {hs gs : List Tree} → t ≡ 124 ∷ w → Rest s m t hs gs d n u → RestInBranch s m w hs gs d n u
rest_in_branch e (last (ended here) stops) = absurd (Stops-not goes_on_in_branches stops e refl)
rest_in_branch e (last (setting one items) stops) = absurd (setting_goes_on one (Stops-from goes_on e refl))
rest_in_branch e (last (item atom postfixes items) stops) = absurd (atom_goes_on atom (Stops-from goes_on e refl))
rest_in_branch e (bar {e = f} {gs = gs} (ended here) e' others) =
    let made = as_rest (branches_along refl refl (rest_is e e') others) in
    record { items = made.items; later = gs; deep = f; reads = made.rest; items_is = refl; later_is = ap (λ x. x ∷ gs) made.first_is; deep_is = max-of_zero f }
rest_in_branch e (bar (setting one items) e' others) = absurd (setting_goes_on one (Stops-from goes_on e refl))
rest_in_branch e (bar (item atom postfixes items) e' others) = absurd (atom_goes_on atom (Stops-from goes_on e refl))

tree_with-branch : (l : Level) (hs gs : List Tree) → tree_with (with_branch l) hs gs ≡ tree_with l [] (concat_of hs ∷ gs)
tree_with-branch l hs gs =
    ap alternate (append_assoc l.branches (concat_of l.items ∷ []) (concat_of hs ∷ gs))
    ∙ ap (λ x. alternate (l.branches ++ concat_of x ∷ concat_of hs ∷ gs)) (sym (append-nil l.items))

branch_ends : {l : Level} {s : Settings} {m n f : ℕ} {t w u : List ℕ} {tree : Tree} → t ≡ 124 ∷ w → CompletesLevel l s m t tree f n u → CompletesLevel (with_branch l) s m w tree f n u
branch_ends {l = l} e ends =
    let branch = rest_in_branch e ends.rest in
    record {
      items = branch.items;
      later = branch.later;
      deep = branch.deep;
      rest = branch.reads;
      tree_is = ends.tree_is ∙ ap₂ (λ x y. tree_with l x y) branch.items_is branch.later_is ∙ sym (tree_with-branch l branch.items branch.later);
      depth_is = ends.depth_is ∙ ap (λ x. max l.depth x) branch.deep_is;
    }

ends_branch : {l : Level} {s : Settings} {m n f : ℕ} {t w u : List ℕ} {tree : Tree} → t ≡ 124 ∷ w → CompletesLevel (with_branch l) s m w tree f n u → CompletesLevel l s m t tree f n u
ends_branch {l = l} e ends =
    let made = as_branches ends.rest in
    record {
      items = [];
      later = concat_of ends.items ∷ ends.later;
      deep = max 0 ends.deep;
      rest = bar (ended (Stops-from goes_on e refl)) e made.branches;
      tree_is = ends.tree_is ∙ tree_with-branch l ends.items ends.later;
      depth_is = ends.depth_is ∙ ap (λ x. max l.depth x) (sym (max-of_zero ends.deep));
    }

pub branch_on : {os : List OpenGroup} {l : Level} {s : Settings} {m depth : ℕ} {t w : List ℕ} {tree : Tree} → t ≡ 124 ∷ w → Resumes os l s m t tree depth → Resumes os (with_branch l) s m w tree depth
branch_on e resumes = resume_by (λ h d n u ends. branch_ends e ends) resumes

pub branch_back : {os : List OpenGroup} {l : Level} {s : Settings} {m depth : ℕ} {t w : List ℕ} {tree : Tree} → t ≡ 124 ∷ w → Resumes os (with_branch l) s m w tree depth → Resumes os l s m t tree depth
branch_back e resumes = resume_by (λ h d n u ends. ends_branch e ends) resumes

-- the start of a group
record GroupFirst (s : Settings) (m : ℕ) (s' : Settings) (k : Capture) (v : List ℕ) : Type 0 where
  first : Tree
  others : List Tree
  d : ℕ
  z : Settings
  n : ℕ
  u : List ℕ
  w : List ℕ
  g : Tree
  e : ℕ
  x : List ℕ
  branches : Branches s' (opened m k) v first others d z n u
  close : u ≡ 41 ∷ w
  postfixes : Postfixes s.swap_greed (grouped m k (alternation_of first others)) (d + 1) w g e x

group_first : {s s' z : Settings} {k : Capture} {m n f : ℕ} {t v u : List ℕ} {hs : List Tree} → Opening s t s' k v → Items s m t hs f z n u → GroupFirst s m s' k v
group_first {t = t} opening (ended stops) = absurd (no_paren t (opening_begins opening) stops)
group_first opening (setting one items) = absurd (setting_or_opening one opening)
group_first {t = t} opening (item (plain_atom one) postfixes items) = absurd (plain_begins one (Stops-paren t (opening_begins opening)))
group_first {s = s} {m = m} opening (item {e = e} {w = x} {g = g} (group {d = d} {u = y} {h = h} {hs = hs} opening' inside close) postfixes items) =
    let head = opening_unique opening opening' in
    record {
      first = _;
      others = _;
      d = _;
      z = _;
      n = _;
      u = _;
      w = _;
      g = _;
      e = _;
      x = _;
      branches = branches_along head.0 (ap (opened m) head.1) head.2 inside;
      close = close;
      postfixes = subst (λ k. Postfixes s.swap_greed (grouped m k (alternation_of h hs)) (d + 1) y g e x) (sym head.1) postfixes;
    }

abbrev group_at : Level → Settings → ℕ → Capture → OpenGroup
group_at l s m k = record { level = l; settings = s; groups = m; capture = k }

pub open_on : {os : List OpenGroup} {l : Level} {s s' : Settings} {k : Capture} {m depth : ℕ} {t v : List ℕ} {tree : Tree} → Opening s t s' k v
    → Resumes os l s m t tree depth → Resumes (group_at l s m k ∷ os) no_level s' (opened m k) v tree depth
open_on opening resumes =
    let found = group_first opening (items_of resumes).items in
    within (ends_branches found.branches) (record { behind = found.w; parenthesis = found.close; postfixes = found.postfixes })
    (item_on (group opening found.branches found.close) found.postfixes resumes)

pub open_back : {os : List OpenGroup} {l : Level} {s s' : Settings} {k : Capture} {m depth : ℕ} {t v : List ℕ} {tree : Tree} → Opening s t s' k v
    → Resumes (group_at l s m k ∷ os) no_level s' (opened m k) v tree depth → Resumes os l s m t tree depth
open_back {s = s} {k = k} {m = m} opening resumes =
    let found = parts resumes in
    let of = branches_of found.ends in
    let postfixes = subst (λ h. Postfixes s.swap_greed (grouped m k h) (found.d + 1) found.closes.behind found.g found.e found.v) of.tree_is found.closes.postfixes in
    item_back (group opening of.branches found.closes.parenthesis) postfixes found.after

-- the end of a group, and of the text
Stops-both : (t : List ℕ) → Stops goes_on_in_branches t → Stops goes_on t
Stops-both [] stops = tt
Stops-both (c ∷ cs) stops = both c stops
  where
    both : (c : ℕ) → goes_on_in_branches c ≡ false → goes_on c ≡ false
    both c fails = grind (arith, nat_tests)

pub ends_here : {t : List ℕ} (l : Level) (s : Settings) (m : ℕ) → Stops goes_on_in_branches t → CompletesLevel l s m t (tree_at l) l.depth m t
ends_here {t = t} l s m stops = record {
  items = [];
  later = [];
  deep = 0;
  rest = last (ended (Stops-both t stops)) stops;
  tree_is = ap (λ x. alternate (l.branches ++ concat_of x ∷ [])) (sym (append-nil l.items));
  depth_is = sym (max-zero l.depth);
}

record NoRest (m : ℕ) (t : List ℕ) (hs gs : List Tree) (d n : ℕ) (u : List ℕ) : Type 0 where
  items_is : hs ≡ []
  later_is : gs ≡ []
  deep_is : d ≡ 0
  groups_is : n ≡ m
  text_is : u ≡ t

no_rest : {s : Settings} {m n d : ℕ} {t u : List ℕ} {hs gs : List Tree} → Stops goes_on_in_branches t → Rest s m t hs gs d n u → NoRest m t hs gs d n u
no_rest stops (last (ended here) stops') = record { items_is = refl; later_is = refl; deep_is = refl; groups_is = refl; text_is = refl }
no_rest {t = t} stops (last (setting one items) stops') = absurd (setting_goes_on one (Stops-both t stops))
no_rest {t = t} stops (last (item atom postfixes items) stops') = absurd (atom_goes_on atom (Stops-both t stops))
no_rest stops (bar (ended here) e others) = absurd (Stops-not goes_on_in_branches stops e refl)
no_rest {t = t} stops (bar (setting one items) e others) = absurd (setting_goes_on one (Stops-both t stops))
no_rest {t = t} stops (bar (item atom postfixes items) e others) = absurd (atom_goes_on atom (Stops-both t stops))

pub record Ended (l : Level) (m : ℕ) (t : List ℕ) (tree : Tree) (d n : ℕ) (u : List ℕ) : Type 0 where
  pub tree_is : tree ≡ tree_at l
  pub depth_is : d ≡ l.depth
  pub groups_is : n ≡ m
  pub text_is : u ≡ t

pub ended_here : {l : Level} {s : Settings} {m n d : ℕ} {t u : List ℕ} {tree : Tree} → Stops goes_on_in_branches t → CompletesLevel l s m t tree d n u → Ended l m t tree d n u
ended_here {l = l} stops ends =
    let none = no_rest stops ends.rest in
    record {
      tree_is = ends.tree_is ∙ ap₂ (λ x y. tree_with l x y) none.items_is none.later_is ∙ ap (λ x. alternate (l.branches ++ concat_of x ∷ [])) (append-nil l.items);
      depth_is = ends.depth_is ∙ ap (λ x. max l.depth x) none.deep_is ∙ max-zero l.depth;
      groups_is = none.groups_is;
      text_is = none.text_is;
    }

-- what closes the innermost group closes it with the tree that was read
pub closes_with : {o : OpenGroup} {l : Level} {s : Settings} {m n d e : ℕ} {t u v w : List ℕ} {h g : Tree} → t ≡ 41 ∷ v → CompletesLevel l s m t h d n u → ClosesGroup o h d u g e w
    → Postfixes o.settings.swap_greed (grouped o.groups o.capture (tree_at l)) (l.depth + 1) v g e w
closes_with {o = o} is ends closes =
    let end = ended_here (Stops-from goes_on_in_branches is refl) ends in
    postfixes_along (ap (λ x. grouped o.groups o.capture x) (sym end.tree_is)) (ap (λ x. x + 1) (sym end.depth_is)) (rest_is is (sym end.text_is ∙ closes.parenthesis)) closes.postfixes

resumes_along : {os : List OpenGroup} {s : Settings} {m m' depth e e' : ℕ} {g g' : Tree} {t t' : List ℕ} {tree : Tree} → (l : Level) → g ≡ g' → e ≡ e' → m ≡ m' → t ≡ t'
    → Resumes os (with_item l g' e') s m' t' tree depth → Resumes os (with_item l g e) s m t tree depth
resumes_along {os = os} {s = s} {m = m} {m' = m'} {depth = depth} {e = e} {e' = e'} {g = g} {g' = g'} {t = t} {t' = t'} {tree = tree} l eg ee em et resumes =
    let a = subst (λ x. Resumes os (with_item l x e') s m' t' tree depth) (sym eg) resumes in
    let b = subst (λ x. Resumes os (with_item l g x) s m' t' tree depth) (sym ee) a in
    let c = subst (λ x. Resumes os (with_item l g e) s x t' tree depth) (sym em) b in
    subst (λ x. Resumes os (with_item l g e) s m x tree depth) (sym et) c

pub close_on : {o : OpenGroup} {os : List OpenGroup} {l : Level} {s : Settings} {m e depth : ℕ} {t v w : List ℕ} {g tree : Tree} → t ≡ 41 ∷ v
    → Postfixes o.settings.swap_greed (grouped o.groups o.capture (tree_at l)) (l.depth + 1) v g e w
    → Resumes (o ∷ os) l s m t tree depth → Resumes os (with_item o.level g e) o.settings m w tree depth
close_on {o = o} is postfixes resumes =
    let found = parts resumes in
    let end = ended_here (Stops-from goes_on_in_branches is refl) found.ends in
    let same = postfixes_unique postfixes (closes_with is found.ends found.closes) in
    resumes_along o.level same.0 same.1 (sym end.groups_is) same.2 found.after

pub close_back : {o : OpenGroup} {os : List OpenGroup} {l : Level} {s : Settings} {m e depth : ℕ} {t v w : List ℕ} {g tree : Tree} → t ≡ 41 ∷ v
    → Postfixes o.settings.swap_greed (grouped o.groups o.capture (tree_at l)) (l.depth + 1) v g e w
    → Resumes os (with_item o.level g e) o.settings m w tree depth → Resumes (o ∷ os) l s m t tree depth
close_back {l = l} {s = s} {m = m} {v = v} is postfixes resumes =
    within (ends_here l s m (Stops-from goes_on_in_branches is refl)) (record { behind = v; parenthesis = is; postfixes = postfixes }) resumes

-- errors
record FirstPostfixes (swap : Bool) (h : Tree) (d : ℕ) (v : List ℕ) : Type 0 where
  g : Tree
  e : ℕ
  w : List ℕ
  postfixes : Postfixes swap h d v g e w

first_postfixes : {s z : Settings} {m k n d f : ℕ} {t v u : List ℕ} {h : Tree} {hs : List Tree} → Atom s m t h d k v → Items s m t hs f z n u → FirstPostfixes s.swap_greed h d v
first_postfixes atom (ended stops) = absurd (atom_goes_on atom stops)
first_postfixes atom (setting one items) = absurd (setting_or_atom one atom)
first_postfixes atom (item atom' postfixes' items) =
    let same = atom_unique atom atom' in
    record { g = _; e = _; w = _; postfixes = postfixes_along same.0 same.1 same.3 postfixes' }

pub no_item : {os : List OpenGroup} {l : Level} {s : Settings} {m k d depth : ℕ} {t v : List ℕ} {h tree : Tree} → Atom s m t h d k v
    → ((g : Tree) (e : ℕ) (w : List ℕ) → Postfixes s.swap_greed h d v g e w → ⊥) → Resumes os l s m t tree depth → ⊥
no_item atom none resumes =
    let first = first_postfixes atom (items_of resumes).items in
    none first.g first.e first.w first.postfixes

pub no_close : {o : OpenGroup} {os : List OpenGroup} {l : Level} {s : Settings} {m depth : ℕ} {t v : List ℕ} {tree : Tree} → t ≡ 41 ∷ v
    → ((g : Tree) (e : ℕ) (w : List ℕ) → Postfixes o.settings.swap_greed (grouped o.groups o.capture (tree_at l)) (l.depth + 1) v g e w → ⊥)
    → Resumes (o ∷ os) l s m t tree depth → ⊥
no_close is none resumes =
    let found = parts resumes in
    none found.g found.e found.v (closes_with is found.ends found.closes)

-- the end of a group without an open one
pub no_open_group : {l : Level} {s : Settings} {m depth : ℕ} {t v : List ℕ} {tree : Tree} → t ≡ 41 ∷ v → Resumes [] l s m t tree depth → ⊥
no_open_group is (whole ends) =
    let end = ended_here (Stops-from goes_on_in_branches is refl) ends in
    not_nil (end.text_is ∙ is)
  where
    not_nil : {c : ℕ} {cs : List ℕ} → [] ≡ c ∷ cs → ⊥
    not_nil e = absurd (cc)

-- nothing that begins with a parenthesis
no_items_head : {s z : Settings} {m n d : ℕ} {t u : List ℕ} {hs : List Tree} → Begins 40 t → NoHead s t → Items s m t hs d z n u → ⊥
no_items_head {t = t} begins none (ended stops) = no_paren t begins stops
no_items_head begins none (setting one items) = none.setting _ _ one
no_items_head {t = t} begins none (item (plain_atom one) postfixes items) = plain_begins one (Stops-paren t begins)
no_items_head begins none (item (group opening inside close) postfixes items) = none.opening _ _ _ opening

pub no_head : {os : List OpenGroup} {l : Level} {s : Settings} {m depth : ℕ} {t : List ℕ} {tree : Tree} → Begins 40 t → NoHead s t → Resumes os l s m t tree depth → ⊥
no_head begins none resumes = no_items_head begins none (items_of resumes).items

-- no atom that is no group
no_items_atom : {s z : Settings} {m n d : ℕ} {t u : List ℕ} {hs : List Tree} → (Begins 40 t → ⊥) → (Stops goes_on t → ⊥) → NoPlainAtom s t → Items s m t hs d z n u → ⊥
no_items_atom other inside none (ended stops) = inside stops
no_items_atom other inside none (setting one items) = other (setting_begins one)
no_items_atom other inside none (item (plain_atom one) postfixes items) = none _ _ one
no_items_atom other inside none (item (group opening within' close) postfixes items) = other (opening_begins opening)

pub no_atom : {os : List OpenGroup} {l : Level} {s : Settings} {m depth : ℕ} {t : List ℕ} {tree : Tree} → (Begins 40 t → ⊥) → (Stops goes_on t → ⊥) → NoPlainAtom s t → Resumes os l s m t tree depth → ⊥
no_atom other inside none resumes = no_items_atom other inside none (items_of resumes).items

-- the text ends
pub end_of_text : {l : Level} {s : Settings} {m depth : ℕ} {tree : Tree} → Resumes [] l s m [] tree depth → (tree ≡ tree_at l) × (depth ≡ l.depth)
end_of_text (whole ends) = let end = ended_here tt ends in (end.tree_is, end.depth_is)

pub end_in_group : {o : OpenGroup} {os : List OpenGroup} {l : Level} {s : Settings} {m depth : ℕ} {tree : Tree} → Resumes (o ∷ os) l s m [] tree depth → ⊥
end_in_group resumes =
    let found = parts resumes in
    let end = ended_here tt found.ends in
    not_nil (sym end.text_is ∙ found.closes.parenthesis)
  where
    not_nil : {c : ℕ} {cs : List ℕ} → [] ≡ c ∷ cs → ⊥
    not_nil e = absurd (cc)
