use Rattle.std.proofs.Common.{Ok, Err}
use Rattle.aoe_frame.specs.declared.message.FrameFault.TheVariants.{Short, NotAoe, Version}
use Rattle.aoe_frame.proofs.Readings.{reads_exactly}
use Rattle.aoe_frame.proofs.reading.parse.Goals as goal

pub returns-clause-message : goal.returns-clause-message
returns-clause-message c = λ m. reads_exactly _ _ (Ok m) (rw c.as_slice.ensures.bytes at c.read.ensures.reads)

pub returns-clause-short : goal.returns-clause-short
returns-clause-short c = reads_exactly _ _ (Err Short) (rw c.as_slice.ensures.bytes at c.read.ensures.reads)

pub returns-clause-not_aoe : goal.returns-clause-not_aoe
returns-clause-not_aoe c = reads_exactly _ _ (Err NotAoe) (rw c.as_slice.ensures.bytes at c.read.ensures.reads)

pub returns-clause-version : goal.returns-clause-version
returns-clause-version c = λ h. reads_exactly _ _ (Err (Version h))
    (rw c.as_slice.ensures.bytes at c.read.ensures.reads)
