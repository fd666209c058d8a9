use Rattle.std.proofs.Common.{◌≡◌, refl, ◌+◌, ◌-◌, length, ap, ◌∙◌, arith}
use Rattle.bench.specs.Model.{model_of}
use Rattle.bench.specs.Flights.{on_core}
use Rattle.bench.specs.Settling.{decides_all}
use Rattle.bench.proofs.Decidings.{all_next}
use Rattle.bench.proofs.state.Bench.decide_all.Goals as goal

pub loop-p-init : goal.loop-p-init
unfolding decides_all
loop-p-init g c = (refl, omega arith)

pub loop-p-preserved : goal.loop-p-preserved
loop-p-preserved g c =
    let m = model_of g.S.Scheme.meaning c.args.self.now in
    let k = length c.agenda.result.now in
    let p = c.loop-p.p in
    let here : p + 1 - 1 ≡ p = omega arith in
    (rw here (all_next p k m _ _ c.loop-p.auto.p c.decide_items.ensures c.loop-p.invariant.0), omega arith)

pub returns-2 : goal.returns-2
returns-2 g c =
    let m = model_of g.S.Scheme.meaning c.args.self.now in
    let k = length c.agenda.result.now in
    let p = c.loop-p.p in
    let all : p ≡ c.args.plan.now.n = omega (arith, c.loop-p-test.true) in
    let last = all_next p k m _ _ c.loop-p.auto.p c.decide_items.ensures c.loop-p.invariant.0 in
    last ∙ ap (λ n. on_core m (decides_all n k m.core)) all ∙ ap (λ a. on_core m (decides_all c.args.plan.now.n (length a) m.core)) c.agenda.ensures
