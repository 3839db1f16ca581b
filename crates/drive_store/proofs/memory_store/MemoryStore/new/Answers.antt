use Rattle.std.proofs.Common.{◌≡◌, ℕ, ◌++◌, ◌∷◌, [], List, Some, length, replicate, ap, ◌∙◌, arith}
use Rattle.std.proofs.lemmas.List.{length-replicate, replicate_more}
use Rattle.std.proofs.lemmas.List.Elements.{All-replicate, All-same}
use Rattle.ata_taskfile.specs.Sectors.{IsSector}
use Rattle.drive_store.proofs.Zeros.{zeros}
use Rattle.drive_store.proofs.memory_store.MemoryStore.new.Goals as goal

pub loop-preserved : goal.loop-preserved
loop-preserved c =
    c.in_ok-push.ensures.items
    ∙ ap (λ (l : List (List ℕ)). l ++ replicate 512 0 ∷ []) c.loop.invariant
    ∙ replicate_more c.loop.counter (replicate {A = ℕ} 512 0)

pub invariant_of-result : goal.invariant_of-result
invariant_of-result c = record {
  values = All-same IsSector c.loop.zeros.items _ c.loop.invariant
      (All-replicate IsSector c.loop.counter (replicate 512 0) zeros);
}

pub returns : goal.returns
returns c =
    let all : c.loop.counter ≡ c.args.sectors = omega arith in
    let items : c.loop.zeros.items ≡ replicate c.args.sectors (replicate 512 0) = c.loop.invariant
    ∙ ap (λ n. replicate n (replicate 512 0)) all in
    let number : length c.loop.zeros.items ≡ c.args.sectors = ap length items ∙ length-replicate c.args.sectors
    (replicate 512 0) in
    (λ i. record { count = number i; told = Some (items i) })
