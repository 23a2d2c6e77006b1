-- What a handle owns.
use mathlib.Core.Bool.{Bool, true, false}
use base.Fml.{Fml, feq, fsep}
use base.Stored.{Coded}
use denote.RawPtr.{Ptr}
use Rattle.std.specs.Prelude.{Option, None, Some}
use Rattle.std.specs.Box.Ownership.{box_owns}
use Rattle.std.specs.Global.{Global}
use Rattle.std_heap.specs.contracts.GlobalAllocator.TheImpl.{ghosts}
use Rattle.core.specs.contracts.option.Option as option
use Rattle.rope_search_c.specs.contracts.counting.CountingSession.{the_row}

-- an open handle owns what a box of the session owns; a closed one owns nothing
abbrev pub handle_owns : Global → Ptr → Bool → Option the_row.Denot → Fml
handle_owns alloc ptr is_open None = feq Bool is_open false
handle_owns alloc ptr is_open (Some session) =
    fsep (feq Bool is_open true) (box_owns (ghosts.dealloc_token alloc) the_row ptr session)

abbrev pub held_coded : Coded (Option the_row.Denot)
held_coded = (option.the_row the_row).coded
