use Rattle.std.proofs.Common.{rules}
use Rattle.schedule_text.proofs.Hex.{long_front}
use Rattle.schedule_text.proofs.parts.long_and_rest.Goals as goal

pub returns : goal.returns
returns c = record {
  told = (
    search rules,
    long_front c.in_ok-first.first c.in_ok-second.second c.in_ok-third.third c.in_ok-fourth.fourth
        c.from_be_bytes.result c.args.text.now c.in_ok-first.rest.now c.in_ok-second.rest.now c.in_ok-third.rest.now
        c.in_ok-fourth.rest.now c.in_ok-first.ensures.told.0 c.in_ok-second.ensures.told.0 c.in_ok-third.ensures.told.0
        c.in_ok-fourth.ensures.told.0 c.from_be_bytes.ensures c.in_ok-first.ensures.told.1 c.in_ok-second.ensures.told.1
        c.in_ok-third.ensures.told.1 c.in_ok-fourth.ensures.told.1,
  );
}
