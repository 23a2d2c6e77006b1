-- Changes of a text, in order, by offsets. A change replaces a part of the old text by another; the
-- text between two changes stays.
use Rattle.std.specs.Prelude.{◌≡◌, ℕ, ◌+◌, List, [], ◌∷◌, ◌++◌}
use Rattle.str_indices.specs.Text.{byte_len, breaks}
use Rattle.ropey.specs.Chunks.{is_break}
use Rattle.rope_search_changes.specs.declared.Change.{Change}

-- The first change of the rest of two texts, from these two offsets on: a part stays, one is
-- removed from the old text, and one is inserted into the new text. It may search the inserted
-- part's breaks plus one lines, and the other changes the rest of the number.
pub record IsChange (Left : ℕ → ℕ → List ℕ → List ℕ → ℕ → Type 0)
    (at_old at_new : ℕ) (old new : List ℕ) (change : Change) (n : ℕ) : Type 0 where
  pub gap : List ℕ
  pub removed : List ℕ
  pub inserted : List ℕ
  pub old_behind : List ℕ
  pub new_behind : List ℕ
  pub left : ℕ
  pub old_is : old ≡ gap ++ removed ++ old_behind
  pub new_is : new ≡ gap ++ inserted ++ new_behind
  pub old_end : change.old_end ≡ at_old + byte_len gap + byte_len removed
  pub new_start : change.new_start ≡ at_new + byte_len gap
  pub new_end : change.new_end ≡ at_new + byte_len gap + byte_len inserted
  pub counts : n ≡ breaks is_break inserted + 1 + left
  pub further : Left change.old_end change.new_end old_behind new_behind left

-- The changes that make the new text of the old one, from two offsets on; after the last one both
-- are the same. Together they may search this number of lines.
abbrev pub AreChanges : List Change → ℕ → ℕ → List ℕ → List ℕ → ℕ → Type 0
AreChanges [] at_old at_new old new n = (old ≡ new) × (n ≡ 0)
AreChanges (change ∷ changes) at_old at_new old new n =
    IsChange (AreChanges changes) at_old at_new old new change n
