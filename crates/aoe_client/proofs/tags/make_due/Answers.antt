use Rattle.std.proofs.Common.{◌<◌, length, get_or, ap, ◌∙◌, arith}
use Rattle.std.specs.Prelude.{slice_set}
use Rattle.std.proofs.lemmas.List.{get_or_default}
use Rattle.std.proofs.lemmas.List.Edits.{map_over_more}
use Rattle.aoe_client.specs.declared.tags.TagState.TheVariants.{Due}
use Rattle.aoe_client.specs.Fetching.{due_again}
use Rattle.aoe_client.proofs.tags.make_due.Goals as goal

pub loop-state-preserved : goal.loop-state-preserved
loop-state-preserved c =
    let old = c.args.tags.now in let now = c.loop-state.state-items in let i = c.loop-state.state-index in
    let within : i < length now = omega arith in
    let before : i < length old = omega arith in
    ap (λ state. slice_set now i state) c.due_again.ensures
    ∙ map_over_more due_again old now i (get_or now i Due) before c.loop-state.invariant
    (get_or_default now i Due _ within)
