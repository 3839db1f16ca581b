use Rattle.std.proofs.Common.{◌≡◌, length}
use Rattle.drive_model.specs.CachedStore.{IfBothTold, kept_of, all_stored}
use Rattle.drive_model.proofs.cached_store.CachedStore.flush.Given as goal

abbrev pub invariant-loop : goal.invariant-loop
invariant-loop g l = record {
  faults : g.S.Store.faults l.self.store ≡ g.S.Store.faults l.initial.self.store;
  rest : g.S.Store.rest l.self.store ≡ g.S.Store.rest l.initial.self.store;
  count : (g.S.Store.sectors l.self.store).count ≡ (g.S.Store.sectors l.initial.self.store).count;
  stored : IfBothTold (all_stored (kept_of l.self) ≡ all_stored (kept_of l.initial.self))
      (g.S.Store.sectors l.initial.self.store).told (g.S.Store.sectors l.self.store).told;
}

abbrev pub decreases-loop : goal.decreases-loop
decreases-loop g l = length l.self.cache.entries
