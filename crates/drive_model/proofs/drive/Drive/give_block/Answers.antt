use Rattle.std.proofs.Common.{◌≡◌, [], ap, length, arith}
use Rattle.drive_model.specs.CachedStore.{list_told}
use Rattle.drive_model.specs.Drive.{physical_of}
use Rattle.drive_store.specs.Store.{Sectors}
use Rattle.drive_model.proofs.Blocks.{whole_block}
use Rattle.drive_model.proofs.Told.{same_told}
use Rattle.drive_model.proofs.Worked.{given_becomes}
use Rattle.drive_model.proofs.drive.Drive.give_block.Goals as goal

pub returns-clause-after : goal.returns-clause-after
returns-clause-after g c =
    let unmoved = c.in_ok-words.ensures.unmoved in let cache = c.in_ok-words.ensures.cache in
    let stays = same_told _ _ c.offer.ensures.sectors in
    let size : length c.in_ok-words.words ≡ 256 = omega arith in
    given_becomes c.args.order c.args.done (physical_of c.args.self.now []) _ _ c.in_ok-words.words _ _ _ _ _
    (ap (λ (s : Sectors). s.count) unmoved) (λ i. record { durable = list_told (unmoved i).told; cache = cache i })
    (ap (λ (s : Sectors). s.told) unmoved) stays (whole_block c.in_ok-words.words size) c.in_ok-words.ensures.words
    c.offer.ensures.after
