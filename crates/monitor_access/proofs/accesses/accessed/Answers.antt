use Rattle.std.proofs.Common.{◌∙◌}
use Rattle.monitor_state.specs.Seen.{file_seen}
use Rattle.monitor_access.proofs.Opening.{guest_goes_on, guest_stays, raising_goes_on, raising_stays}
use Rattle.monitor_access.proofs.Seen.{answered_alike, marked_alike}
use Rattle.monitor_access.proofs.accesses.accessed.Goals as goal

pub returns-in-Guest-clause-shown : goal.returns-in-Guest-clause-shown
returns-in-Guest-clause-shown g c = rw c.in-Guest.is c.guest.ensures.shown

pub returns-in-Guest-clause-answers : goal.returns-in-Guest-clause-answers
returns-in-Guest-clause-answers g c = λ memory q shows.
    answered_alike c.args.state c.args.parts.now (g.P.Ports.device c.args.ports.now) memory q c.args.access.now _
    c.requires.fits shows (rw c.in-Guest.is c.guest.ensures.answered)

pub returns-in-Guest-clause-marked : goal.returns-in-Guest-clause-marked
returns-in-Guest-clause-marked g c = λ memory q shows.
    rw c.in-Guest.is c.guest.ensures.mark
    ∙ marked_alike q.device.file (file_seen c.args.state (g.P.Ports.device c.args.ports.now)) c.args.parts.now
    c.args.access.now shows.file

pub returns-in-Guest-clause-opening : goal.returns-in-Guest-clause-opening
returns-in-Guest-clause-opening g c =
    guest_goes_on c.args.state c.guest.result.0 c.in-Guest.side c.args.parts.now c.guest.new.parts
    (g.P.Ports.device c.args.ports.now) (g.P.Ports.device c.guest.new.ports) c.in-Guest.is c.requires.fits

pub returns-in-Guest-clause-stays : goal.returns-in-Guest-clause-stays
returns-in-Guest-clause-stays g c =
    guest_stays c.args.state c.guest.result.0 c.in-Guest.side c.args.parts.now c.guest.new.parts
    (g.P.Ports.device c.args.ports.now) (g.P.Ports.device c.guest.new.ports) c.in-Guest.is c.requires.fits

pub returns-in-Monitor-clause-shown : goal.returns-in-Monitor-clause-shown
returns-in-Monitor-clause-shown g c = rw c.in-Monitor.is c.resting.ensures.shown

pub returns-in-Monitor-clause-answers : goal.returns-in-Monitor-clause-answers
returns-in-Monitor-clause-answers g c = λ memory q shows.
    answered_alike c.args.state c.args.parts.now (g.P.Ports.device c.args.ports.now) memory q c.args.access.now _
    c.requires.fits shows (rw c.in-Monitor.is c.resting.ensures.answered)

pub returns-in-Monitor-clause-marked : goal.returns-in-Monitor-clause-marked
returns-in-Monitor-clause-marked g c = λ memory q shows.
    rw c.in-Monitor.is c.resting.ensures.mark
    ∙ marked_alike q.device.file (file_seen c.args.state (g.P.Ports.device c.args.ports.now)) c.args.parts.now
    c.args.access.now shows.file

pub returns-in-Running-clause-shown : goal.returns-in-Running-clause-shown
returns-in-Running-clause-shown g c = rw c.in-Running.is c.running.ensures.shown

pub returns-in-Running-clause-answers : goal.returns-in-Running-clause-answers
returns-in-Running-clause-answers g c = λ memory q shows.
    answered_alike c.args.state c.args.parts.now (g.P.Ports.device c.args.ports.now) memory q c.args.access.now _
    c.requires.fits shows (rw c.in-Running.is c.running.ensures.answered)

pub returns-in-Running-clause-marked : goal.returns-in-Running-clause-marked
returns-in-Running-clause-marked g c = λ memory q shows.
    rw c.in-Running.is c.running.ensures.mark
    ∙ marked_alike q.device.file (file_seen c.args.state (g.P.Ports.device c.args.ports.now)) c.args.parts.now
    c.args.access.now shows.file

pub returns-in-Raising-clause-shown : goal.returns-in-Raising-clause-shown
returns-in-Raising-clause-shown g c = rw c.in-Raising.is c.raising.ensures.shown

pub returns-in-Raising-clause-answers : goal.returns-in-Raising-clause-answers
returns-in-Raising-clause-answers g c = λ memory q shows.
    answered_alike c.args.state c.args.parts.now (g.P.Ports.device c.args.ports.now) memory q c.args.access.now _
    c.requires.fits shows (rw c.in-Raising.is c.raising.ensures.answered)

pub returns-in-Raising-clause-marked : goal.returns-in-Raising-clause-marked
returns-in-Raising-clause-marked g c = λ memory q shows.
    rw c.in-Raising.is c.raising.ensures.mark
    ∙ marked_alike q.device.file (file_seen c.args.state (g.P.Ports.device c.args.ports.now)) c.args.parts.now
    c.args.access.now shows.file

pub returns-in-Raising-clause-opening : goal.returns-in-Raising-clause-opening
returns-in-Raising-clause-opening g c =
    raising_goes_on c.args.state c.raising.result.0 c.in-Raising.side c.in-Raising.dummy c.in-Raising.plan
    c.args.parts.now c.raising.new.parts (g.P.Ports.device c.args.ports.now)
    (g.P.Ports.device c.raising.new.ports) c.in-Raising.is c.requires.fits

pub returns-in-Raising-clause-stays : goal.returns-in-Raising-clause-stays
returns-in-Raising-clause-stays g c =
    raising_stays c.args.state c.raising.result.0 c.in-Raising.side c.in-Raising.dummy c.in-Raising.plan
    c.args.parts.now c.raising.new.parts (g.P.Ports.device c.args.ports.now)
    (g.P.Ports.device c.raising.new.ports) c.in-Raising.is c.requires.fits

pub returns-in-Guest-clause-buffers : goal.returns-in-Guest-clause-buffers
returns-in-Guest-clause-buffers g c = λ k plain has. rw c.in-Guest.is (c.guest.ensures.buffers k.image plain)

pub returns-in-Monitor-clause-buffers : goal.returns-in-Monitor-clause-buffers
returns-in-Monitor-clause-buffers g c = λ k plain has. rw c.in-Monitor.is (c.resting.ensures.buffers k.image plain)

pub returns-in-Running-clause-buffers : goal.returns-in-Running-clause-buffers
returns-in-Running-clause-buffers g c = λ k plain has. rw c.in-Running.is (c.running.ensures.buffers k.image plain)

pub returns-in-Raising-clause-buffers : goal.returns-in-Raising-clause-buffers
returns-in-Raising-clause-buffers g c = λ k plain has. rw c.in-Raising.is (c.raising.ensures.buffers k.image plain)
