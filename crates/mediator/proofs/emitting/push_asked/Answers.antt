use Rattle.std.proofs.Common.{sym, ◌∙◌, arith}
use Rattle.std.proofs.lemmas.List.{take_all}
use Rattle.aoe_client.specs.Asking.{due_tags}
use Rattle.mediator.proofs.DueItems.{all_told, most_due, told_all, told_one_more}
use Rattle.mediator.proofs.emitting.push_asked.Goals as goal

-- one tag more is told
pub loop-k-preserved : goal.loop-k-preserved
loop-k-preserved c =
    let items = c.push.ensures.items
    ∙ told_one_more _ _ _ _ _ (sym c.in-Some.ensures) c.loop-k.invariant.items in record {
      items = items;
      few = omega (arith, c.push.ensures.len, c.loop-k.invariant.few);
      bytes = c.loop-k.invariant.bytes;
    }

-- there are no more of them
pub returns-in-None-clause-items : goal.returns-in-None-clause-items
returns-in-None-clause-items c =
    told_all _ _ _ _ (all_told (due_tags c.args.client.now) c.loop-k.k (sym c.in-None.ensures)) c.loop-k.invariant.items

-- there never are more
pub returns-clause-items : goal.returns-clause-items
returns-clause-items c =
    let tags = due_tags c.args.client.now in
    let few = most_due c.args.client.now c.requires.block c.a_slot_has_a_blocks_tags.ensures.demand
    c.a_slot_has_a_blocks_tags.ensures.background in
    told_all _ _ _ _ (take_all c.loop-k.k tags (omega (arith, few, c.loop-k-test.false))) c.loop-k.invariant.items
