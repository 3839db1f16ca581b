-- A guest's access to a device as a value: its answer, and the device after it.
use Rattle.std.specs.Prelude.{if◌then◌else◌}
use Rattle.ata_taskfile.specs.declared.Access.{Access}
use Rattle.ata_taskfile.specs.declared.Access.TheVariants as access
use Rattle.ata_taskfile.specs.declared.Answer.{Answer}
use Rattle.ata_taskfile.specs.declared.Answer.TheVariants as answer
use Rattle.ata_taskfile.specs.Device.{Device, byte_read, after_read8, after_write8, word_read, after_read_word, after_write_word, pointer_read, after_write_pointer, line_read}

-- what an access answers; a look at the line, 1 where it is high
abbrev pub answer_to : Access → Device → Answer
answer_to (access.Read8 r) d = answer.Byte (byte_read r d)
answer_to (access.Write8 r v) d = answer.Nothing
answer_to access.ReadWord d = answer.Word (word_read d)
answer_to (access.WriteWord w) d = answer.Nothing
answer_to access.ReadPointer d = answer.Long (pointer_read d)
answer_to (access.WritePointer v) d = answer.Nothing
answer_to access.Line d = answer.Byte (if line_read d then 1 else 0)

-- the device after an access
abbrev pub accessed : Access → Device → Device
accessed (access.Read8 r) d = after_read8 r d
accessed (access.Write8 r v) d = after_write8 r v d
accessed access.ReadWord d = after_read_word d
accessed (access.WriteWord w) d = after_write_word w d
accessed access.ReadPointer d = d
accessed (access.WritePointer v) d = after_write_pointer v d
accessed access.Line d = d
