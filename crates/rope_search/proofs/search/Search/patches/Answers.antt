use Rattle.std.proofs.Common.{◌^◌, ◌<◌, length, sym, subst, arith}
use Rattle.ropey.specs.Chunks.{text_of}
use Rattle.rope_search_reports.specs.Report.{IsReport}
use Rattle.rope_search_reports.specs.Patches.{patched, AreInTurn, growth_by, made_by}
use Rattle.rope_search.specs.Searched.{HasRoomFor}
use Rattle.rope_search.proofs.PatchLemmas.{growth-made, made-within}
use Rattle.rope_search.proofs.search.Search.patches.Goals as goal

pub room_for-requires-clause-few : goal.room_for-requires-clause-few
room_for-requires-clause-few c =
    let search = c.args.self.now in
    let new = text_of c.args.new.now in
    let rows = search.rows.items in
    let patches = c.in_ok-patches.patches.items in
    let long = c.a_row_a_line.ensures new search.finder (patched 0 rows patches) (c.in_ok-patches.ensures.report rows c.requires.report) in
    let few : made_by patches < 2 ^ 64 = omega (arith, made-within 0 rows patches, long, c.len_lines-len.ensures) in
    let grown : growth_by patches < 2 ^ 64 = omega (arith, few, growth-made patches) in
    subst (λ ps. growth_by ps < 2 ^ 64) (sym c.deref.ensures.value) grown

pub returns-clause-fit : goal.returns-clause-fit
returns-clause-fit c =
    let search = c.args.self.now in
    let patches = c.in_ok-patches.patches.items in
    let rows = c.a_row_a_line.ensures (text_of c.args.old.now) search.finder search.rows.items c.requires.report in
    record {
      in_turn = subst (λ rows. AreInTurn 0 (length rows) patches) (sym c.room_for.ensures.rows) (subst (λ n. AreInTurn 0 n patches) (sym rows) c.in_ok-patches.ensures.turn);
      room = subst (λ ps. HasRoomFor c.room_for.new.rows ps c.in_ok-room.room) c.deref.ensures.value c.in_ok-room.ensures.room;
    }

pub returns-clause-few : goal.returns-clause-few
returns-clause-few c =
    let search = c.args.self.now in
    let new = text_of c.args.new.now in
    let rows = search.rows.items in
    let patches = c.in_ok-patches.patches.items in
    let few = c.few_matches.ensures new search.finder (patched 0 rows patches) (c.in_ok-patches.ensures.report rows c.requires.report) in
    omega (arith, few, c.len_bytes.ensures.bytes, c.len_bytes.ensures.fits)

pub returns-clause-changed : goal.returns-clause-changed
returns-clause-changed c =
    c.stretch_by-changed.ensures.rows c.args.self.now.finder (λ rows is.
    subst (λ ps. IsReport (text_of c.args.new.now) c.args.self.now.finder (patched 0 rows ps)) (sym c.deref-2.ensures.value) (c.in_ok-patches.ensures.report rows is))
