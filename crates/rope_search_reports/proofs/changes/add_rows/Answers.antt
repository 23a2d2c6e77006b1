use Rattle.std.proofs.Common.{refl, inl, inr, arith}
use Rattle.ropey.specs.Chunks.{text_of}
use Rattle.rope_search_reports.proofs.TouchLemmas.{adds-patch}
use Rattle.rope_search_reports.proofs.changes.add_rows.Goals as goal

pub returns-then-first-end-clause-added : goal.returns-then-first-end-clause-added
returns-then-first-end-clause-added c = inl (refl, omega (arith, c.if-start-stop.true), omega (arith, c.if-first-end.true))

pub returns-clause-added : goal.returns-clause-added
returns-clause-added c = inr (adds-patch c.args.finder.now (text_of c.args.text.now) c.args.splice c.args.patches.now.items c.take_touching-patch.new.patches.items c.push.new.self.items
    c.take_touching-patch.result (record { first = c.take_touching-patch.result.first; end = c.args.splice.end; made = c.push_rows_ahead.new.rows })
    c.take_touching-patch.ensures c.in_ok-push_rows_ahead.ensures.rows refl refl c.in_ok-push.ensures.items)
