use Rattle.std.proofs.Common.{◌≡◌, ◌++◌, true, Some, ◌∙◌, sym}
use Rattle.std.proofs.lemmas.Bool.Decides.{Decides-eqb}
use Rattle.std.proofs.lemmas.Slice.Eq.{strip_suffix_is}
use Rattle.schedule_text.specs.Line.{keep_text}
use Rattle.schedule_text.proofs.Places.{kept_once}
use Rattle.schedule_text.proofs.parts.digits_and_keep.Goals as goal

-- the text is the digits and ` keep`
kept : (c : goal.In-Some) → c.args.text.now ≡ c.in-Some.digits.now ++ keep_text true
kept c = strip_suffix_is Decides-eqb c.args.text.now (keep_text true) (Some c.in-Some.digits) c.in-Some.ensures.cases

pub returns-in-Some-clause-told : goal.returns-in-Some-clause-told
returns-in-Some-clause-told c = kept c

pub returns-in-Some-clause-only : goal.returns-in-Some-clause-only
returns-in-Some-clause-only c = λ digits keep whole is.
    kept_once c.in-Some.digits.now digits keep whole (sym (kept c) ∙ is)
