use Rattle.aoe_client.proofs.ServerReplies.{honest_sectors}
use Rattle.aoe_client.proofs.laws.the_servers_sectors_are_the_images.Goals as goal

pub returns : goal.returns
returns c = record {
  sectors = λ sectors image asked bytes tag honest taken.
      (honest_sectors sectors image tag asked bytes honest taken).1;
  within = λ sectors image asked bytes tag honest taken.
      (honest_sectors sectors image tag asked bytes honest taken).0;
}
