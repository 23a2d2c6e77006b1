use Rattle.rx_grammar.proofs.ClassLaws.{ReadsUpTo-more, ReadsUpTo-closed, ReadsUpTo-hyphen, item_shorter}
use Rattle.rx_grammar.proofs.classes.class_items.Goals as goal

pub loop-item-smaller : goal.loop-item-smaller
loop-item-smaller c = item_shorter c.in-Some.ensures

pub loop-item-preserved : goal.loop-item-preserved
loop-item-preserved c = ReadsUpTo-more c.loop-item.invariant c.in-Some.ensures c.in_ok-push.ensures.items

pub returns-in-Some-eat : goal.returns-in-Some-eat
returns-in-Some-eat c = ReadsUpTo-closed c.loop-item.invariant c.in-Some-eat.ensures

pub returns : goal.returns
returns c = ReadsUpTo-hyphen c.loop-item.invariant c.in-Some-eat-2.ensures c.in-Some-eat-3.ensures c.in_ok-push-2.ensures.items
