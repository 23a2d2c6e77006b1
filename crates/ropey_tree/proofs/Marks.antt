-- Leaves up to a mark, with others after them.
use Rattle.std.proofs.Common.{◌≡◌, ℕ, ◌≤◌, List, ap, sym, ◌∙◌, length, take}
use Rattle.std.proofs.lemmas.List.{take-map, take-take}
use Rattle.std.specs.declared.rc.Rc.{Rc}
use Rattle.std.specs.declared.alloc.Global.{Global}
use Rattle.ropey_tree.specs.declared.node.Node.{Node}
use Rattle.ropey_tree.specs.Siblings.{views}

pub front_stays : (old new : List (Rc Node Global)) (mark : ℕ) → mark ≤ length old → take (length old) new ≡ old → take mark (views new) ≡ take mark (views old)
front_stays old new mark within same =
    take-map (λ node. node.value) mark new ∙ ap views (sym (take-take mark (length old) new within) ∙ ap (take mark) same) ∙ sym (take-map (λ node. node.value) mark old)
