use Rattle.std.proofs.Common.{◌≡◌, Some, rules, subst}
use Rattle.aoe_client.specs.Asking.{HasTags, done_in, in_slot}
use Rattle.aoe_client.proofs.Fetched.{fetched_given}
use Rattle.aoe_client.proofs.client.Client.done.Goals as goal

pub returns-clause-finished : goal.returns-clause-finished
returns-clause-finished c source pool holds =
    let block = c.args.self.now.block in
    let asks = in_slot c.args.slot c.args.self.now in
    let done : done_in asks ≡ Some (c.block.result, c.end.result) = search rules in
    let tags = subst (HasTags block) c.in_slot.ensures.asks c.in_slot.ensures.tags in
    rw done at (fetched_given source block asks pool tags holds)
