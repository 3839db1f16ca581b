use Rattle.std.proofs.Common.{◌≡◌, ◌+◌, ◌-◌, [], ap, subst, sym, ◌∙◌, length, take, arith}
use Rattle.plain_drive.specs.Words.{bytes_of}
use Rattle.plain_drive.specs.Change.{writes}
use Rattle.plain_drive.specs.Physical.{kept_after}
use Rattle.plain_drive.specs.Step.{next_wanted}
use Rattle.plain_drive.proofs.Ends.{block_whole}
use Rattle.drive_model.specs.CachedStore.{IfBothTold, kept_of}
use Rattle.drive_model.specs.Drive.{physical_of}
use Rattle.drive_model.proofs.Blocks.{whole_block}
use Rattle.drive_model.proofs.Told.{same_told}
use Rattle.drive_model.proofs.Worked.{next_blind, worked_becomes}
use Rattle.drive_model.proofs.drive.Drive.write_block.Goals as goal

pub returns-clause-after : goal.returns-clause-after
returns-clause-after g c =
    let order = c.args.order in let done = c.args.done in let d = c.args.self.now in
    let stays = same_told _ _ c.want_next.ensures.sectors in
    let full : d.words ≡ 256 = block_whole d.file d.bus d.words _ order done c.requires.phase c.requires.takes
    c.requires.came d.lawful in
    let size : length d.block ≡ 256 = omega arith in
    let all : take d.words d.block ≡ d.block = ap (λ n. take n d.block) full ∙ whole_block d.block size in
    let bytes : c.bytes_of.result ≡ bytes_of (take d.words d.block) = c.bytes_of.ensures ∙ ap bytes_of (sym all) in
    let put = subst (λ v. IfBothTold (kept_of c.put.new.self ≡ kept_after (writes (order.first + (done - 1)) v)
    (kept_of d.sectors))
    (g.S.Store.sectors d.sectors.store).told (g.S.Store.sectors c.put.new.self.store).told) bytes
    c.in_ok-put.ensures.after in
    worked_becomes (next_wanted order done) (next_blind order done)
    (writes (order.first + (done - 1)) (bytes_of (take d.words d.block)))
    (physical_of d []) _ _ _ _ _ _ c.in_ok-put.ensures.called.count stays c.want_next.ensures.after put
