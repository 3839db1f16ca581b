use Rattle.bm_host.proofs.OutsideLaws.{same_counts_trans}
use Rattle.bm_host.specs.declared.Role.TheVariants.{Disk}
use Rattle.block_writes.proofs.Told.{IfTold-same}
use Rattle.run_words.specs.Options.{seen}
use Rattle.bmcast.proofs.Finding.{area_found, refused_found}
use Rattle.bmcast.proofs.lengths.measure.Goals as goal

pub returns-in-Err-clause-counts : goal.returns-in-Err-clause-counts
returns-in-Err-clause-counts g c = same_counts_trans _ (g.H.Host.outside c.length_of.new.host) _ c.in-Ok.ensures.counts
    c.in-Ok-length_of.ensures.counts

pub returns-in-Err-clause-stops : goal.returns-in-Err-clause-stops
returns-in-Err-clause-stops g c =
    rw c.why_of.ensures
    (refused_found (seen c.args.options.now) (g.H.Host.outside c.args.host.now) c.in-Ok.image c.in-Ok-length_of.disk
    c.in-Err.why c.in-Err.ensures.refused c.in-Ok.ensures.length
    (IfTold-same _ (c.in-Ok.ensures.files Disk) c.in-Ok-length_of.ensures.length))

pub returns-in-Ok-area_of-clause-area : goal.returns-in-Ok-area_of-clause-area
returns-in-Ok-area_of-clause-area g c =
    area_found (seen c.args.options.now) c.in-Ok-area_of.area (g.H.Host.outside c.args.host.now) c.in-Ok.image
    c.in-Ok-length_of.disk c.requires c.in-Ok-area_of.ensures.area c.in-Ok-area_of.ensures.suitable
    c.in-Ok-area_of.ensures.taken c.in-Ok.ensures.length
    (IfTold-same _ (c.in-Ok.ensures.files Disk) c.in-Ok-length_of.ensures.length)
