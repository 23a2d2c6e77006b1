use Rattle.std.proofs.Common.{◌≡◌, ◌-◌, ◌++◌, [], length, take, drop, arith}
use Rattle.std.proofs.lemmas.List.{append-nil, drop_all, length-drop, take_all}
use Rattle.rope_search_c.proofs.PendingLemmas.{window-put}
use Rattle.rope_search_c.proofs.pending.put_window.Goals as goal

pub returns : goal.returns
returns c =
    let found = c.put_rows-found.ensures in
    let rest = c.put_rows.ensures in
    let out' = c.put_rows-found.new.out in
    let room = c.min-room.result in
    let left : take (length out' - room) (drop room out') ≡ drop room out' =
    take_all (length out' - room) (drop room out') (omega (arith, length-drop room out')) in
    let none : drop (length out' - room) (drop room out') ≡ [] = drop_all (length out' - room) (drop room out') (omega (arith, length-drop room out')) in
    rw (none, append-nil c.put_rows.new.out)
    (window-put c.args.from c.put_rows-found.result c.put_rows.result room c.args.done.now c.args.made.now c.args.out.now out'
    (take (length out' - room) (drop room out')) c.put_rows.new.out found.count rest.count found.put c.min-room.ensures left rest.put)
