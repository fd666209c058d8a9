use Rattle.std.proofs.Common.{sym, ap, ◌∙◌, subst}
use Rattle.bench.specs.Model.{Model, Core}
use Rattle.bench.specs.Making.{fresh}
use Rattle.bench.specs.Promise.{Promised}
use Rattle.bench.proofs.Keeping.{made_promised}
use Rattle.bench.proofs.Making.{made_timely}
use Rattle.bench.proofs.state.Bench.new.Goals as goal

pub returns-clause-promise : goal.returns-clause-promise
returns-clause-promise g c =
    let K = g.K.Kind in
    let laws = g.met.K.Kind in
    let scheme = g.S.Scheme.meaning c.args.scheme in
    let with-scheme : Core → Model = λ core. record { core = core; scheme = scheme } in
    let is = ap with-scheme (c.fresh.ensures ∙ ap fresh c.prepare-plan.ensures) in
    let kept = made_promised K.admitted K.same laws.reflexive laws.symmetric laws.transitive c.args.sizes.n c.args.sizes.f c.args.sizes.d c.args.sizes.e c.args.agenda.now scheme (g.met.S.Scheme.tidy c.args.scheme) in
    subst (Promised K.admitted K.same) (sym is) kept

pub invariant_of-result-clause-timely : goal.invariant_of-result-clause-timely
invariant_of-result-clause-timely g c =
    let setup = ap (λ (k : Core). k.plan) c.fresh.ensures ∙ c.prepare-plan.ensures in
    made_timely c.fresh.result.plan c.args.sizes.n c.args.sizes.f c.args.sizes.d c.args.sizes.e c.args.agenda.now (g.S.Scheme.meaning c.args.scheme) setup
