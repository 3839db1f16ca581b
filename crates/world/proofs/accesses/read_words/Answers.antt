use Rattle.std.proofs.Common.{[], ◌∷◌, ◌++◌, ◌≡◌, ◌*◌, ◌+◌, ◌≤◌, length, refl, ap, ◌∙◌, subst, arith}
use Rattle.std.specs.Prelude.{replicate}
use Rattle.std.proofs.lemmas.List.{replicate_more}
use Rattle.ata_taskfile.specs.declared.Access.TheVariants.{ReadWord}
use Rattle.plain_run.specs.Guest.{bytes_answered}
use Rattle.mediator.specs.Mediator.{parts_of}
use Rattle.world.specs.Deployed.{watched_of}
use Rattle.world.specs.Keeping.{AnswersAccesses, KeepsAccesses}
use Rattle.world.specs.Machine.{physical}
use Rattle.world.proofs.Acting.{more_accessed}
use Rattle.world.proofs.Keeping.{one_answered, then_answered, then_kept}
use Rattle.world.proofs.KeptEvents.{untaken_none}
use Rattle.world.proofs.accesses.read_words.Goals as goal

pub loop-i-preserved : goal.loop-i-preserved
loop-i-preserved c =
    let was = c.loop-i.invariant in
    let one = c.make-answer.ensures in
    let m = c.args.mediator.now in
    let p = physical c.args.machine.now in
    let n = c.loop-i.mediator in
    let r = physical c.loop-i.machine in
    let o = c.make-answer.new.mediator in
    let s = physical c.make-answer.new.machine in
    let done = replicate c.loop-i._i ReadWord in
    let bytes = c.push_answer.new.out.bytes.items in
    let held = ap (λ x. x.items) one.bytes in
    let fewer : length bytes ≤ 4 * (c.loop-i._i + 1) =
    omega (arith, c.push_answer.ensures.few, ap length held, was.few) in
    record {
      accessed = more_accessed p r s (watched_of m) (watched_of n) (watched_of o) was.accessed one.accessed;
      ready = one.ready;
      items = ap (λ x. x.items) c.push_answer.ensures.items ∙ one.items ∙ ap (λ front. front ++ []) was.items;
      few = fewer;
      answered = subst (λ list. AnswersAccesses list m p bytes) (replicate_more c.loop-i._i ReadWord)
          (then_answered done (ReadWord ∷ []) m n p r c.loop-i.out.bytes.items
          (bytes_answered c.make-answer.result) bytes was.kept was.answered
          (one_answered ReadWord n r c.make-answer.result _ one.answered refl)
          (c.push_answer.ensures.bytes ∙ ap (λ front. front ++ bytes_answered c.make-answer.result) held));
      kept = subst (λ list. KeepsAccesses list m p o s) (replicate_more c.loop-i._i ReadWord)
          (then_kept done (ReadWord ∷ []) m n o p r s was.kept
          (λ k q lines stand. one.kept k q lines stand (untaken_none q.device.file (parts_of n) ReadWord refl)));
      area = one.area ∙ was.area;
      id = one.id ∙ was.id;
    }

pub returns-clause-kept : goal.returns-clause-kept
returns-clause-kept c =
    let all : c.loop-i._i ≡ c.args.n = omega (arith, c.loop-i-test.false, c.loop-i.auto._i-end) in
    subst (λ n. KeepsAccesses (replicate n ReadWord) c.args.mediator.now (physical c.args.machine.now)
    c.loop-i.mediator (physical c.loop-i.machine)) all c.loop-i.invariant.kept

pub returns-clause-answered : goal.returns-clause-answered
returns-clause-answered c =
    let all : c.loop-i._i ≡ c.args.n = omega (arith, c.loop-i-test.false, c.loop-i.auto._i-end) in
    subst (λ n. AnswersAccesses (replicate n ReadWord) c.args.mediator.now (physical c.args.machine.now)
    c.loop-i.out.bytes.items) all c.loop-i.invariant.answered
