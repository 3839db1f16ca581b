use Rattle.bmcast.proofs.Reading.{TakesFront-more, TakesFront-push}
use Rattle.bmcast.proofs.streams.Streams.next_line.Goals as goal

pub loop-byte-preserved : goal.loop-byte-preserved
loop-byte-preserved g c =
    let front = TakesFront-more _ _ _ _ _ _ _ c.loop-byte.invariant c.take_front.ensures in
    rw c.push.ensures.items
    (TakesFront-push _ _ _ _ _ _ _ c.in-Some.byte front
    c.in_ok-byte.ensures.counts c.in_ok-byte.ensures.files c.in_ok-byte.ensures.looked c.in_ok-byte.ensures.said
    (rw c.in-Some.is at c.in_ok-byte.ensures.byte) c.if-byte-eq10.false)
