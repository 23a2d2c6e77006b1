-- The leading nodes, offset by offset, in sets that are computed one block at a time.
use Rattle.std.specs.Prelude.{◌≡◌, ℕ, ◌+◌, ◌*◌, ◌<◌, ◌≤◌, length}
use Rattle.rx_walks.specs.Finds.{Search}
use Rattle.rx_walks.specs.ProgramFinds.{lowest, highest}
use Rattle.rx_program.specs.Programs.{ByteProgram}
use Rattle.rx_lists.specs.declared.pass_back.Block.{Block}
use Rattle.rx_lists.specs.declared.blocks.Blocks.{Blocks}
use Rattle.rx_lists.specs.LeadingSets.{HasLeadingSets, AreLeadingSets}
use Rattle.rx_lists.specs.Passes.{IsReady}

-- the sets of a block reach back to an offset
abbrev pub BlockReaches : Block → ℕ → Type 0
BlockReaches b i = b.top < i + length b.sets

-- the sets kept at distances from the last offset of a search, and those of the current block,
-- which ends at one of these offsets, are of the leading nodes
pub record AreBlocks (p : ByteProgram) (s : Search) (b : Blocks) : Type 0 where
  pub ready : IsReady p b.pass
  pub first_is : b.first ≡ lowest s
  pub last_is : b.last ≡ highest s
  pub spaced : 0 < b.every
  pub kept : AreLeadingSets p s b.last b.every b.kept
  pub sets : AreLeadingSets p s b.block.top 1 b.block.sets
  pub numbered : (k : ℕ) × (k < length b.kept) × (b.block.top + k * b.every ≡ b.last)
  pub above : lowest s ≤ b.block.top
  pub known : HasLeadingSets p s (lowest s)
