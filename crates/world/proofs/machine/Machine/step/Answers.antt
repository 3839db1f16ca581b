use Rattle.std.proofs.Common.{ℕ, length, subst, sym}
use Rattle.ata_taskfile.specs.Lawful.{IsLawfulState}
use Rattle.world.proofs.machine.Machine.step.Goals as goal

pub returns-clause-lawful : goal.returns-clause-lawful
returns-clause-lawful c =
    let d = c.args.self.now.drive in
    let P : ℕ → Type 0 = λ n. IsLawfulState d.file d.bus n (length d.sectors.store.sectors.items) in
    subst P (sym d.counted) d.lawful
