use Rattle.std.proofs.Common.{◌≡◌, ◌≤◌, ◌∷◌, length, take, Some, None, sym, ap, ◌∙◌, arith}
use Rattle.circular_buffer.specs.Buffer.{buffer, last_item}
use Rattle.write_cache.proofs.Rings.{turned_within, turned_none}
use Rattle.write_cache.proofs.ring.bring_last.Goals as goal

pub returns-in-Some : goal.returns-in-Some
returns-in-Some c =
    let all = c.args.ring.now.items in
    let room = c.args.ring.now.capacity in
    let last : last_item all ≡ Some c.in-Some.entry = sym c.in-Some.ensures.value in
    let within : length all ≤ room = omega arith in
    c.push_front.ensures.items
    ∙ ap (λ b. buffer (take b.capacity (c.in-Some.entry ∷ b.items)) b.capacity) c.pop_back.ensures.items
    ∙ ap (λ l. buffer l room) (turned_within all c.in-Some.entry room within last)

pub returns-in_default : goal.returns-in_default
returns-in_default c =
    let none : last_item c.args.ring.now.items ≡ None = cc in
    c.pop_back.ensures.items ∙ ap (λ l. buffer l c.args.ring.now.capacity) (turned_none c.args.ring.now.items none)
