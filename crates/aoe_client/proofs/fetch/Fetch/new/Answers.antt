use Rattle.std.proofs.Common.{take, ap, ◌∙◌}
use Rattle.std.proofs.lemmas.List.{take-replicate}
use Rattle.aoe_client.specs.declared.fetch.TheConstants.{MOST_TAGS}
use Rattle.aoe_client.specs.declared.tags.TagState.TheVariants.{Due}
use Rattle.aoe_client.proofs.fetch.Fetch.new.Goals as goal

pub returns : goal.returns
returns c =
    let tags = c.truncate.ensures.items ∙ ap (take c.args.count) c.from-tags.ensures.0
    ∙ take-replicate c.args.count MOST_TAGS Due c.requires.count in
    λ i. record { lease = c.args.lease; block = c.args.block; age = 0; tags = tags i }
