use Rattle.std.proofs.Common.{◌∙◌, subst, List, ℕ}
use Rattle.bmcast.specs.Status.{ConsoleSays}
use Rattle.bmcast.proofs.ConsoleLaws.{told_by}
use Rattle.bmcast.proofs.console.tell.Goals as goal

pub returns-clause-told : goal.returns-clause-told
returns-clause-told g c =
    subst (λ (text : List ℕ). ConsoleSays text (g.H.Host.outside c.args.host.now)
    (g.H.Host.outside c.write_next.new.self))
    (c.as_slice.ensures.value ∙ c.push_line.ensures)
    (told_by c.as_slice.result.now _ _ c.write_next.result c.write_next.ensures.cause c.write_next.ensures.told
    c.write_next.ensures.part)
