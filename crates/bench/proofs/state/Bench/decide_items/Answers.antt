use Rattle.std.proofs.Common.{◌≡◌, refl, ◌+◌, ◌-◌, ap, ◌∙◌, arith}
use Rattle.bench.specs.Model.{model_of}
use Rattle.bench.specs.Flights.{on_core}
use Rattle.bench.specs.Settling.{decides_items}
use Rattle.bench.proofs.Decidings.{items_next}
use Rattle.bench.proofs.state.Bench.decide_items.Goals as goal

pub loop-item-init : goal.loop-item-init
unfolding decides_items
loop-item-init g c = (refl, omega arith)

pub loop-item-preserved : goal.loop-item-preserved
loop-item-preserved g c =
    let m = model_of g.S.Scheme.meaning c.args.self.now in
    let here : c.loop-item.item + 1 - 1 ≡ c.loop-item.item = omega arith in
    (rw here (items_next c.args.p c.loop-item.item m _ _ _ c.loop-item.auto.item c.decide.ensures c.loop-item.invariant.0), omega arith)

pub returns-2 : goal.returns-2
returns-2 g c =
    let m = model_of g.S.Scheme.meaning c.args.self.now in
    let all : c.loop-item.item ≡ c.args.items = omega (arith, c.loop-item-test.true) in
    items_next c.args.p c.loop-item.item m _ _ _ c.loop-item.auto.item c.decide.ensures c.loop-item.invariant.0 ∙ ap (λ k. on_core m (decides_items c.args.p k m.core)) all
