use Rattle.std.proofs.Common.{length, sym, ap, ◌∙◌, arith}
use Rattle.rx_literals.proofs.ScanLaws.{under_way, over, in_span, found, none_yet, less_left}
use Rattle.rx_literals.proofs.literal.find.Goals as goal

pub returns-then-len-eq0-clause-found : goal.returns-then-len-eq0-clause-found
returns-then-len-eq0-clause-found g c =
    let i = c.args.input.now in
    let j = c.move_to.new.self in
    let hay = c.left_in_piece-len.result.now in
    let told = c.loop-at.invariant in
    let way = under_way c.args.prefilter.now i c.loop-at.input j c.loop-at.at hay told.same told.asked c.move_to.ensures c.left_in_piece-len.ensures.part c.left_in_piece-len.ensures.holds told.behind told.none in
    over c.args.prefilter.now i j c.loop-at.at (length hay) way c.needles_are_lawful.ensures c.if-len-eq0.true

pub find_in_piece-requires : goal.find_in_piece-requires
find_in_piece-requires g c =
    let i = c.args.input.now in
    let j = c.move_to.new.self in
    let hay = c.left_in_piece-len.result.now in
    let told = c.loop-at.invariant in
    let way = under_way c.args.prefilter.now i c.loop-at.input j c.loop-at.at hay told.same told.asked c.move_to.ensures c.left_in_piece-len.ensures.part c.left_in_piece-len.ensures.holds told.behind told.none in
    in_span c.args.prefilter.now i j c.loop-at.at (length hay) way c.if-len-eq0.false

pub returns-in-Some-clause-found : goal.returns-in-Some-clause-found
returns-in-Some-clause-found g c =
    let i = c.args.input.now in
    let j = c.move_to.new.self in
    let hay = c.left_in_piece-len.result.now in
    let told = c.loop-at.invariant in
    let way = under_way c.args.prefilter.now i c.loop-at.input j c.loop-at.at hay told.same told.asked c.move_to.ensures c.left_in_piece-len.ensures.part c.left_in_piece-len.ensures.holds told.behind told.none in
    found c.args.prefilter.now i j c.loop-at.at (length hay) way c.if-len-eq0.false c.in-Some.ensures.found

pub loop-at-preserved : goal.loop-at-preserved
loop-at-preserved g c =
    let i = c.args.input.now in
    let j = c.move_to.new.self in
    let hay = c.left_in_piece-len.result.now in
    let told = c.loop-at.invariant in
    let way = under_way c.args.prefilter.now i c.loop-at.input j c.loop-at.at hay told.same told.asked c.move_to.ensures c.left_in_piece-len.ensures.part c.left_in_piece-len.ensures.holds told.behind told.none in
    record {
      same = record {
        content = c.in_default.ensures.same.content ∙ c.move_to.ensures.same.content ∙ told.same.content;
        is_sized = c.in_default.ensures.same.is_sized ∙ c.move_to.ensures.same.is_sized ∙ told.same.is_sized;
      };
      asked = c.in_default.ensures.asked ∙ c.move_to.ensures.asked_is ∙ told.asked;
      behind = omega (arith, told.behind);
      none = none_yet c.args.prefilter.now i j c.loop-at.at (length hay) way c.if-len-eq0.false c.in_default.ensures.found;
    }

pub loop-at-smaller : goal.loop-at-smaller
loop-at-smaller g c =
    let i = c.args.input.now in
    let j = c.move_to.new.self in
    let hay = c.left_in_piece-len.result.now in
    let told = c.loop-at.invariant in
    let way = under_way c.args.prefilter.now i c.loop-at.input j c.loop-at.at hay told.same told.asked c.move_to.ensures c.left_in_piece-len.ensures.part c.left_in_piece-len.ensures.holds told.behind told.none in
    less_left c.args.prefilter.now i j c.loop-at.at (length hay) way c.if-len-eq0.false (length c.find_in_piece.new.input.cursor.content) (length c.loop-at.input.cursor.content)
    (ap length c.in_default.ensures.same.content) (ap length (sym c.move_to.ensures.same.content))
