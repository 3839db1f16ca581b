-- What a host counts, as the outside that tells nothing.
use Rattle.std.specs.Prelude.{◌≡◌, None}
use Rattle.bm_host.specs.declared.Role.{Role}
use Rattle.bm_host.specs.declared.tally.Tally.{Tally}
use Rattle.bm_host.specs.ByRole.{value_of}
use Rattle.bm_host.specs.Outside.{Outside}

-- the outside of a host that tells nothing and counts so (own)
abbrev pub counted : Tally → Outside
counted tally = record {
  told = λ role. None;
  given = λ role. 0;
  read_faults = λ role. (value_of tally.faults role).reads;
  write_faults = λ role. (value_of tally.faults role).writes;
  looked = tally.looked;
}

-- nothing failed, was given or was looked at (own)
pub record IsFresh (o : Outside) : Type 0 where
  pub reads : (role : Role) → o.read_faults role ≡ 0
  pub writes : (role : Role) → o.write_faults role ≡ 0
  pub given : (role : Role) → o.given role ≡ 0
  pub looked : o.looked ≡ 0
