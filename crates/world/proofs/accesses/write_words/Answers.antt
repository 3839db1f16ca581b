use Rattle.std.proofs.Common.{[], ◌∷◌, ◌++◌, refl, sym, ap, ◌∙◌, subst, append-nil, append_assoc}
use Rattle.std.specs.Prelude.{map}
use Rattle.ata_taskfile.specs.declared.Access.TheVariants.{WriteWord}
use Rattle.mediator.specs.Mediator.{parts_of}
use Rattle.world.specs.Deployed.{watched_of}
use Rattle.world.specs.Keeping.{KeepsAccesses}
use Rattle.world.specs.Machine.{physical}
use Rattle.world.proofs.Acting.{more_accessed}
use Rattle.world.proofs.EventLaws.{no_words, one_word}
use Rattle.world.proofs.Keeping.{then_kept}
use Rattle.world.proofs.KeptEvents.{untaken_none}
use Rattle.world.proofs.accesses.write_words.Goals as goal

pub loop-left-preserved : goal.loop-left-preserved
loop-left-preserved c =
    let was = c.loop-left.invariant in
    let one = c.make.ensures in
    let m = c.args.mediator.now in
    let p = physical c.args.machine.now in
    let n = c.loop-left.mediator in
    let r = physical c.loop-left.machine in
    let o = c.make.new.mediator in
    let s = physical c.make.new.machine in
    let left = c.loop-left.left.now in
    let word = c.from_le_bytes-word.result in
    let next = one_word left word c.in-len2-up.len_at_least c.from_le_bytes-word.ensures in
    record {
      accessed = more_accessed p r s (watched_of m) (watched_of n) (watched_of o) was.accessed one.accessed;
      ready = one.ready;
      items = one.items ∙ ap (λ front. front ++ []) was.items;
      bytes = one.bytes ∙ was.bytes;
      made = was.made ++ WriteWord word ∷ [];
      whole = was.whole ∙ ap (λ words. was.made ++ map (λ w. WriteWord w) words) next
          ∙ sym (append_assoc was.made (WriteWord word ∷ []) _);
      kept = then_kept was.made (WriteWord word ∷ []) m n o p r s was.kept
          (λ k q lines stand. one.kept k q lines stand (untaken_none q.device.file (parts_of n) (WriteWord word) refl));
      area = one.area ∙ was.area;
      id = one.id ∙ was.id;
    }

pub returns-clause-kept : goal.returns-clause-kept
returns-clause-kept c =
    let was = c.loop-left.invariant in
    let m = c.args.mediator.now in
    let p = physical c.args.machine.now in
    subst (λ list. KeepsAccesses list m p c.loop-left.mediator (physical c.loop-left.machine))
    (sym (was.whole
    ∙ ap (λ words. was.made ++ map (λ w. WriteWord w) words) (no_words c.loop-left.left.now c.in_default.len_below)
    ∙ append-nil was.made)) was.kept
