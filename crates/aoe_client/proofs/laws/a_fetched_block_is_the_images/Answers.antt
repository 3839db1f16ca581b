use Rattle.aoe_client.proofs.Fetched.{fetched_image}
use Rattle.aoe_client.proofs.laws.a_fetched_block_is_the_images.Goals as goal

pub returns : goal.returns
returns c = record { block = fetched_image }
