use Rattle.std.proofs.Common.{◌≡◌, ◌<◌, ◌≤◌, length, sym, ap, arith, vec_len}
use Rattle.std.proofs.lemmas.Grind.{common_steps}
use Rattle.rx_dfa.specs.Caches.{CacheView}
use Rattle.rx_dfa.proofs.TableLaws.{keep_all}
use Rattle.rx_dfa.proofs.DenseLaws.{known_all, rows_both, rows_end}
use Rattle.rx_dfa.specs.DenseTables.{no_more}
use Rattle.rx_dfa.proofs.cache.Cache.close.Goals as goal

pub loop-number-init : goal.loop-number-init
loop-number-init c = record { made = c.requires.made; kept = keep_all c.args.self.now.states; known = λ number column lt in_row. absurd (omega (arith, lt)); rows = no_more (omega arith) }

pub loop-number-preserved : goal.loop-number-preserved
loop-number-preserved c = record {
  made = c.fill_row.ensures.made;
  kept = λ number x e. c.in_ok-is_known.ensures.kept number x (c.loop-number.invariant.kept number x e);
  known = c.in_ok-is_known.ensures.known c.if-not-is_known.false;
  rows = rows_both c.args.self.now c.loop-number.self c.fill_row.new.self (sym c.loop-number.invariant.made.width) (sym c.fill_row.ensures.made.width) c.loop-number.invariant.rows (c.in_ok-is_known.ensures.rows c.if-not-is_known.false);
}

-- there are at most as many states as before, or as entries can lead to
pub loop-number-smaller : goal.loop-number-smaller
loop-number-smaller c =
    let cache = c.loop-number.self in
    let states = c.self.inside.states in
    let long : vec_len states ≡ length states.items = grind (arith, common_steps) in
    let there : c.loop-number.number < length cache.states = omega (arith, c.loop-number-test.true, c.len.ensures, long, ap (λ (v : CacheView). length v.states) c.self.view_is) in
    let below = rows_end c.args.self.now cache c.loop-number.number (omega (arith, c.loop-number.invariant.made.width)) c.loop-number.invariant.rows there in
    omega (arith, below)

pub returns-then-not-is_known-clause-kept : goal.returns-then-not-is_known-clause-kept
returns-then-not-is_known-clause-kept c = λ number x e. c.in_ok-is_known.ensures.kept number x (c.loop-number.invariant.kept number x e)

pub returns-clause-known : goal.returns-clause-known
returns-clause-known c = λ e.
    let cache = c.loop-number.self in
    let states = c.self.inside.states in
    let long : vec_len states ≡ length states.items = grind (arith, common_steps) in
    let all : length cache.states ≤ c.loop-number.number = omega (arith, c.loop-number-test.false, c.len.ensures, long, ap (λ (v : CacheView). length v.states) c.self.view_is) in
    known_all cache c.loop-number.number (length cache.states) all c.loop-number.invariant.known
