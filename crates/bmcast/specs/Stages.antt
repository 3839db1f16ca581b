-- Inner: the stages of a run, and how it stops at each.
use Rattle.std.specs.Prelude.{◌⊎◌}
use Rattle.bm_host.specs.declared.Role.TheVariants.{Image, Disk, Schedule, Report, Out}
use Rattle.bm_host.specs.Outside.{Outside}
use Rattle.run_words.specs.Options.{Choice}
use Rattle.bmcast.specs.Lengths.{Finds, IsUnsuitable}
use Rattle.bmcast.specs.declared.stop.Stop.{Stop}
use Rattle.bmcast.specs.declared.stop.Stop.TheVariants as stop

-- the stages, in their order: the words are read; image and disk are measured, for this choice, and the header on the
-- disk is looked at; the other files are begun; the disk is read; the schedule is played; out is written. A line is
-- moved while the schedule is played: it is read, or its report is written; and its event is done between
pub data Stage : Type 0 where
  reading_words : Stage
  measuring : Choice → Outside → Stage
  checking : Choice → Outside → Stage
  beginning : Stage
  loading : Stage
  moving_lines : Stage
  doing_event : Stage
  playing : Stage
  writing_out : Stage

-- the stops of each stage: it has no others, and a fault is of a role that it reads or writes (own)
abbrev pub StopsAt : Stage → Stop → Type 0
StopsAt reading_words stop.Usage = Unit {0}
StopsAt (measuring choice o) (stop.Unsuitable reason) = Finds choice o (IsUnsuitable reason choice)
StopsAt (measuring choice o) (stop.ReadFault Image) = Unit {0}
StopsAt (measuring choice o) (stop.ReadFault Disk) = Unit {0}
StopsAt (checking choice o) (stop.Unsuitable reason) = Finds choice o (IsUnsuitable reason choice)
StopsAt (checking choice o) (stop.ReadFault Disk) = Unit {0}
StopsAt beginning (stop.ReadFault Schedule) = Unit {0}
StopsAt beginning (stop.WriteFault Report) = Unit {0}
StopsAt beginning (stop.WriteFault Out) = Unit {0}
StopsAt loading (stop.ReadFault Disk) = Unit {0}
StopsAt loading stop.NoMemory = Unit {0}
StopsAt moving_lines (stop.ReadFault Schedule) = Unit {0}
StopsAt moving_lines (stop.WriteFault Report) = Unit {0}
StopsAt doing_event (stop.ReadFault Schedule) = Unit {0}
StopsAt doing_event (stop.ReadFault Image) = Unit {0}
StopsAt doing_event (stop.WriteFault Report) = Unit {0}
StopsAt playing (stop.ReadFault Schedule) = Unit {0}
StopsAt playing (stop.ReadFault Image) = Unit {0}
StopsAt playing (stop.WriteFault Report) = Unit {0}
StopsAt playing (stop.BadLine number kind) = Unit {0}
StopsAt writing_out (stop.WriteFault Out) = Unit {0}
StopsAt stage other = ⊥

-- a stop of a stage behind good words, before the other files are begun
abbrev pub IsEarly : Choice → Outside → Stop → Type 0
IsEarly choice o one = StopsAt (measuring choice o) one ⊎ StopsAt (checking choice o) one

-- a stop of a stage behind good words, and files that a run can stand on
abbrev pub IsLate : Stop → Type 0
IsLate one = StopsAt beginning one ⊎ (StopsAt loading one
    ⊎ (StopsAt playing one ⊎ StopsAt writing_out one))
