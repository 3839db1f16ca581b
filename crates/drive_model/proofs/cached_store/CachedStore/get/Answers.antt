use Rattle.std.proofs.Common.{ap, sym, ◌∙◌, arith}
use Rattle.std.specs.Option.{option_copied}
use Rattle.std.proofs.lemmas.Result.{on_ok_weaker}
use Rattle.drive_model.specs.CachedStore.{kept_of}
use Rattle.drive_model.proofs.Told.{told_many}
use Rattle.drive_model.proofs.Values.{value_newest, value_fetched}
use Rattle.drive_model.proofs.cached_store.CachedStore.get.Goals as goal

pub returns-in-Some-clause-value : goal.returns-in-Some-clause-value
returns-in-Some-clause-value g c = λ told.
    let many = told_many _ _ (g.met.S.Store.whole c.args.self.now.store) told in
    let within = c.requires in
    value_newest c.args.sector (kept_of c.args.self.now) c.in-Some.bytes.now (omega arith) (sym c.in-Some.ensures)

pub returns-clause-value : goal.returns-clause-value
returns-clause-value g c = on_ok_weaker c.get.result (λ read told.
    let many = told_many _ _ (g.met.S.Store.whole c.args.self.now.store) told in
    let within = c.requires in
    let none = sym c.newest.ensures ∙ ap option_copied c.in_default.is in
    value_fetched c.args.sector (g.S.Store.sectors c.args.self.now.store).told c.args.self.now.cache c.get.new.into
    (omega arith) none read told) c.get.ensures.read
