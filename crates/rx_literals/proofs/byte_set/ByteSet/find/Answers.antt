use Rattle.std.proofs.Common.{[], length, refl, sym, ap, ◌∙◌, arith}
use Rattle.rx_literals.proofs.MemberLaws.{first_there, no_more, none_yet, on_way}
use Rattle.rx_literals.proofs.ScanLaws.{less_left}
use Rattle.rx_literals.proofs.byte_set.ByteSet.find.Goals as goal

pub returns-then-len-eq0-clause-found : goal.returns-then-len-eq0-clause-found
returns-then-len-eq0-clause-found g c =
    let i = c.args.input.now in
    let j = c.move_to.new.self in
    let hay = c.left_in_piece-hay.result.now in
    let told = c.loop-hay.invariant in
    let way = on_way i c.loop-hay.input j c.loop-hay.at hay told.same told.asked c.move_to.ensures c.left_in_piece-hay.ensures.part c.left_in_piece-hay.ensures.holds told.behind in
    no_more c.args.self.now i j c.loop-hay.at hay way told.none c.if-len-eq0.true

pub returns-in-Some-clause-found : goal.returns-in-Some-clause-found
returns-in-Some-clause-found g c =
    let i = c.args.input.now in
    let j = c.move_to.new.self in
    let hay = c.left_in_piece-hay.result.now in
    let told = c.loop-hay.invariant in
    let way = on_way i c.loop-hay.input j c.loop-hay.at hay told.same told.asked c.move_to.ensures c.left_in_piece-hay.ensures.part c.left_in_piece-hay.ensures.holds told.behind in
    first_there c.args.self.now i j c.loop-hay.at hay way c.if-len-eq0.false c.left_in_piece-hay.ensures.part told.none c.in-Some.index c.in-Some.ensures

pub loop-hay-preserved : goal.loop-hay-preserved
loop-hay-preserved g c =
    let i = c.args.input.now in
    let j = c.move_to.new.self in
    let hay = c.left_in_piece-hay.result.now in
    let told = c.loop-hay.invariant in
    let way = on_way i c.loop-hay.input j c.loop-hay.at hay told.same told.asked c.move_to.ensures c.left_in_piece-hay.ensures.part c.left_in_piece-hay.ensures.holds told.behind in
    record {
      same = record {
        content = c.move_to.ensures.same.content ∙ told.same.content;
        is_sized = c.move_to.ensures.same.is_sized ∙ told.same.is_sized;
      };
      asked = c.move_to.ensures.asked_is ∙ told.asked;
      behind = omega (arith, told.behind);
      none = none_yet c.args.self.now i j c.loop-hay.at hay way c.if-len-eq0.false c.left_in_piece-hay.ensures.part told.none c.in_default.ensures;
    }

pub loop-hay-smaller : goal.loop-hay-smaller
loop-hay-smaller g c =
    let i = c.args.input.now in
    let j = c.move_to.new.self in
    let hay = c.left_in_piece-hay.result.now in
    let told = c.loop-hay.invariant in
    let way = on_way i c.loop-hay.input j c.loop-hay.at hay told.same told.asked c.move_to.ensures c.left_in_piece-hay.ensures.part c.left_in_piece-hay.ensures.holds told.behind in
    less_left [] i j c.loop-hay.at (length hay) way c.if-len-eq0.false (length j.cursor.content) (length c.loop-hay.input.cursor.content)
    refl (ap length (sym c.move_to.ensures.same.content))
