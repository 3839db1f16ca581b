use Rattle.ata_taskfile.proofs.SectorBytes.{is_sector}
use Rattle.write_cache.specs.Cache.{entry_of}
use Rattle.drive_model.proofs.Entries.{written_whole, written_within}
use Rattle.drive_model.proofs.cached_store.CachedStore.put.Goals as goal

pub invariant_of-self-clause-within : goal.invariant_of-self-clause-within
invariant_of-self-clause-within g c = rw (c.put.ensures.after, c.set.ensures.count)
    (written_within _ (entry_of c.args.sector c.args.bytes.now) c.args.self.now.cache c.requires
    c.args.self.now.within)

pub invariant_of-self-clause-whole : goal.invariant_of-self-clause-whole
invariant_of-self-clause-whole g c =
    let is = is_sector c.args.bytes.now c.told-bytes c.fits-bytes in
    rw c.put.ensures.after
    (written_whole (entry_of c.args.sector c.args.bytes.now) c.args.self.now.cache is c.args.self.now.whole)

pub invariant_of-self-in-None-clause-within : goal.invariant_of-self-in-None-clause-within
invariant_of-self-in-None-clause-within g c = rw c.put.ensures.after
    (written_within _ (entry_of c.args.sector c.args.bytes.now) c.args.self.now.cache c.requires
    c.args.self.now.within)

pub invariant_of-self-in-None-clause-whole : goal.invariant_of-self-in-None-clause-whole
invariant_of-self-in-None-clause-whole g c =
    let is = is_sector c.args.bytes.now c.told-bytes c.fits-bytes in
    rw c.put.ensures.after
    (written_whole (entry_of c.args.sector c.args.bytes.now) c.args.self.now.cache is c.args.self.now.whole)
