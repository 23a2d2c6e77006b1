use Rattle.std.proofs.Common.{◌≡◌, ℕ, List, Option, Vec, String, Global, ◌+◌, ◌*◌, ◌<◌, ◌^◌, length, ap, sym, arith, subst, get_or, [], option_map, string_bytes}
use Rattle.std.proofs.lemmas.List.{length-map}
use Rattle.rx_util.specs.Groups.{GroupNames, HasDistinctNames, names_of, named_groups}
use Rattle.rx_util.specs.Slots.{IsLaidOut}
use Rattle.rx_util.specs.declared.captures.GroupInfoInner.{GroupInfoInner}
use Rattle.rx_util.proofs.SlotLemmas.{AreStartsUpTo, AreStartsUpTo-none, AreStartsUpTo-more, next_at_end}
use Rattle.rx_util.proofs.NameLemmas.{named_groups-at}
use Rattle.rx_util.proofs.captures.GroupInfo.new.Goals as goal

-- a pattern has as many further groups as names are given for it
further_len : (patterns : List (Vec (Option (String Global)) Global)) (i len : ℕ) (pattern : Vec (Option (String Global)) Global) → i < length patterns
    → pattern ≡ get_or patterns i pattern → len ≡ pattern.len → len ≡ length (get_or (named_groups patterns) i [])
further_len patterns i len pattern lt is same =
    omega (arith, same, pattern.ok.0, length-map pattern.items (option_map string_bytes), ap length (named_groups-at patterns i pattern lt is))

-- all are laid out
laid_out : (groups : GroupNames) (n len : ℕ) (starts : List ℕ) → n ≡ length groups → HasDistinctNames groups → AreStartsUpTo groups n starts len → len < 2 ^ 64 → IsLaidOut groups starts len
laid_out groups n len starts e distinct all fits =
    let whole = subst (λ k. AreStartsUpTo groups k starts len) e all in
    let is = next_at_end groups whole in
    record { one_each = whole.one_each; starts_are = whole.starts_are; len_is = is; fits = omega (arith, is, fits); distinct = distinct }

pub loop-pattern-init : goal.loop-pattern-init
loop-pattern-init c =
    let patterns = c.args.names.items in
    let none : c.in-Some.slot_len ≡ 2 * length (named_groups patterns) =
    omega (arith, c.in-Some.ensures.0, c.len.ensures, c.args.names.ok.0, length-map patterns (λ (pattern : Vec (Option (String Global)) Global). names_of pattern.items)) in
    record {
      starts = subst (λ n. AreStartsUpTo (named_groups patterns) 0 c.new-starts.result.items n) (sym none)
          (subst (λ xs. AreStartsUpTo (named_groups patterns) 0 xs (2 * length (named_groups patterns))) (sym c.new-starts.ensures.items) (AreStartsUpTo-none (named_groups patterns)));
      fits = c.in-Some.ensures.1;
    }

pub loop-pattern-preserved : goal.loop-pattern-preserved
loop-pattern-preserved c =
    let patterns = c.args.names.items in
    let i = c.loop-pattern.pattern-index in
    let here = c.deref-pattern-items.ensures.value in
    let lt = subst (λ (xs : List (Vec (Option (String Global)) Global)). i < length xs) here c.loop-pattern-test.true in
    let is = subst (λ (xs : List (Vec (Option (String Global)) Global)). c.pattern-item.result ≡ get_or xs i c.pattern-item.result) here c.pattern-item.is in
    let further = further_len patterns i c.len-in-loop-pattern.result c.pattern-item.result lt is c.len-in-loop-pattern.ensures in
    let more : c.in-Some-slots_after.more ≡ c.loop-pattern.slot_len + 2 * length (get_or (named_groups patterns) i []) = omega (arith, c.in-Some-slots_after.ensures.0, further) in
    record {
      starts = subst (λ n. AreStartsUpTo (named_groups patterns) (i + 1) c.push.new.self.items n) (sym more)
          (subst (λ xs. AreStartsUpTo (named_groups patterns) (i + 1) xs (c.loop-pattern.slot_len + 2 * length (get_or (named_groups patterns) i []))) (sym c.in_ok-push.ensures.items)
          (AreStartsUpTo-more (named_groups patterns) i c.loop-pattern.invariant.starts (omega (arith, lt, length-map patterns (λ (pattern : Vec (Option (String Global)) Global). names_of pattern.items)))));
      fits = c.in-Some-slots_after.ensures.1;
    }

pub invariant_of-result : goal.invariant_of-result
invariant_of-result c =
    let patterns = c.args.names.items in
    let here = c.deref-pattern-items.ensures.value in
    let end : c.loop-pattern.pattern-index ≡ length (named_groups patterns) =
    omega (arith, c.loop-pattern-test.false, c.loop-pattern.auto.pattern-index-end, ap (λ (xs : List (Vec (Option (String Global)) Global)). length xs) here, length-map patterns (λ (pattern : Vec (Option (String Global)) Global). names_of pattern.items)) in
    subst (λ (x : GroupInfoInner). IsLaidOut (named_groups x.names.items) x.starts.items x.slot_len) (sym c.in_ok-inner.ensures.ok)
    (laid_out (named_groups patterns) c.loop-pattern.pattern-index c.loop-pattern.slot_len c.loop-pattern.starts.items end c.requires.distinct c.loop-pattern.invariant.starts c.loop-pattern.invariant.fits)
