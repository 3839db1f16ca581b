use Rattle.std.proofs.Common.{◌≡◌, ◌∙◌, ◌+◌, ◌-◌, ◌*◌, ◌/◌, sym, arith, length}
use Rattle.std.proofs.lemmas.Bool.{eqb-true, eqb-false}
use Rattle.bm_dma.specs.declared.search.Found.TheVariants.{All, TableEnded, Bad}
use Rattle.bm_dma.proofs.Searching.{meets_end, meets_bad, completes, ends_table, goes_on, piece_fits, found_all}
use Rattle.bm_dma.proofs.Bounds.{one_more}
use Rattle.bm_dma.proofs.search.find_places.Goals as goal

pub returns : goal.returns
returns c =
    let all = found_all c.args.pointer c.args.moved c.args.memory.now Bad c.loop-i.places.items
    (sym c.loop-i.invariant.rest ∙ meets_end ((length c.args.memory.now - c.args.pointer) / 8) c.loop-i.i
    (c.args.pointer + 8 * c.loop-i.i) c.loop-i.skipped
    c.args.memory.now c.loop-i.places.items (omega arith)) in
    record { places = all.places; found = all.found; one_more = λ e. cc }

pub returns-then-not-is_good : goal.returns-then-not-is_good
returns-then-not-is_good c =
    let all = found_all c.args.pointer c.args.moved c.args.memory.now Bad c.loop-i.places.items
    (sym c.loop-i.invariant.rest ∙ meets_bad ((length c.args.memory.now - c.args.pointer) / 8) c.loop-i.i
    (c.args.pointer + 8 * c.loop-i.i) c.loop-i.skipped
    c.args.memory.now c.loop-i.places.items c.read-descriptor.result (omega arith) c.read-descriptor.ensures.fields
    (sym c.is_good.ensures.good ∙ c.if-not-is_good.true)) in
    record { places = all.places; found = all.found; one_more = λ e. cc }

pub returns-then-is_full : goal.returns-then-is_full
returns-then-is_full c =
    let full : length c.add_piece.new.places.items ≡ 512 = eqb-true (length c.add_piece.new.places.items) 512
    (sym c.is_full.ensures.value ∙ c.if-is_full.true) in
    let all = found_all c.args.pointer c.args.moved c.args.memory.now (All c.ends_table_at.result)
    c.add_piece.new.places.items
    (sym c.loop-i.invariant.rest ∙ completes ((length c.args.memory.now - c.args.pointer) / 8) c.loop-i.i
    (c.args.pointer + 8 * c.loop-i.i) c.loop-i.skipped
    (c.loop-i.skipped + (512 - c.len.result)) c.args.memory.now c.loop-i.places.items c.add_piece.new.places.items
    c.read-descriptor.result c.ends_table_at.result
    (omega arith) c.read-descriptor.ensures.fields (sym c.is_good.ensures.good ∙ c.if-not-is_good.false)
    (omega arith) c.add_piece.ensures.piece full c.ends_table_at.ensures.last) in
    record {
      places = all.places;
      found = all.found;
      one_more = λ e. one_more c.args.pointer c.args.moved c.args.memory.now _ (λ k. let byte = c.type_inv.memory k in
          omega arith) c.requires.few (sym all.found ∙ e);
    }

pub returns-then-descriptor : goal.returns-then-descriptor
returns-then-descriptor c =
    let part : length c.add_piece.new.places.items ≡ 512 → ⊥ = eqb-false (length c.add_piece.new.places.items) 512
    (sym c.is_full.ensures.value ∙ c.if-is_full.false) in
    let all = found_all c.args.pointer c.args.moved c.args.memory.now TableEnded c.add_piece.new.places.items
    (sym c.loop-i.invariant.rest ∙ ends_table ((length c.args.memory.now - c.args.pointer) / 8) c.loop-i.i
    (c.args.pointer + 8 * c.loop-i.i) c.loop-i.skipped
    c.args.memory.now c.loop-i.places.items c.add_piece.new.places.items c.read-descriptor.result
    (omega arith) c.read-descriptor.ensures.fields (sym c.is_good.ensures.good ∙ c.if-not-is_good.false)
    c.add_piece.ensures.piece part c.if-descriptor.true) in
    record { places = all.places; found = all.found; one_more = λ e. cc }

pub loop-i-preserved : goal.loop-i-preserved
loop-i-preserved c =
    let part : length c.add_piece.new.places.items ≡ 512 → ⊥ = eqb-false (length c.add_piece.new.places.items) 512
    (sym c.is_full.ensures.value ∙ c.if-is_full.false) in
    record {
      few = piece_fits c.read-descriptor.result c.loop-i.skipped c.loop-i.places.items c.add_piece.new.places.items
          c.loop-i.invariant.few c.add_piece.ensures.piece part;
      low = omega arith;
      rest = goes_on ((length c.args.memory.now - c.args.pointer) / 8) c.loop-i.i (c.args.pointer + 8 * c.loop-i.i)
          (c.args.pointer + 8 * (c.loop-i.i + 1))
          c.loop-i.skipped c.saturating_sub-skipped.result
          c.args.memory.now c.loop-i.places.items c.add_piece.new.places.items c.read-descriptor.result
          (omega arith) c.read-descriptor.ensures.fields (sym c.is_good.ensures.good ∙ c.if-not-is_good.false)
          c.add_piece.ensures.piece part c.if-descriptor.false (omega arith) (omega arith)
          ∙ c.loop-i.invariant.rest;
    }
