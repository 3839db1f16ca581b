use Rattle.std.proofs.Common.{sym}
use Rattle.drive_model.proofs.Entries.{taken_at_whole, taken_at_within, entry_within}
use Rattle.drive_model.proofs.cached_store.CachedStore.destage.Goals as goal

pub set-requires : goal.set-requires
set-requires g c = entry_within _ c.args.k c.args.self.now.cache.entries c.in-Some.entry
    (sym c.in-Some.ensures.entry) c.args.self.now.within

pub invariant_of-self-2-clause-within : goal.invariant_of-self-2-clause-within
invariant_of-self-2-clause-within g c = rw (c.in-Some.ensures.after, c.set.ensures.count)
    (taken_at_within _ c.args.k c.args.self.now.cache.entries c.args.self.now.within)

pub invariant_of-self-2-clause-whole : goal.invariant_of-self-2-clause-whole
invariant_of-self-2-clause-whole g c = rw c.in-Some.ensures.after
    (taken_at_whole c.args.k c.args.self.now.cache.entries c.args.self.now.whole)
