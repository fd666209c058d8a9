use Rattle.std.proofs.Common.{◌≡◌, ◌++◌, ◌∙◌, ℕ, List, Some, None, ap, append_assoc, subst, sym, string_bytes}
use Rattle.std.proofs.lemmas.Result.{IfOk-weaker}
use Rattle.bench.specs.Model.{model_of}
use Rattle.lines.specs.Left.{left}
use Rattle.script.specs.Printing.{printed}
use Rattle.script.specs.Calls.{answered, values}
use Rattle.script.specs.Transcript.{Prints, Taken, Runs, ending, report}
use Rattle.script.proofs.Turns.{step, run_end, run_more}
use Rattle.script.proofs.player.Player.run.Goals as goal

pub loop-bench-preserved : goal.loop-bench-preserved
loop-bench-preserved g c =
    let v = values g.K.Kind.admitted g.K.Kind.same in
    let m = model_of g.S.Scheme.meaning c.loop-bench.bench in
    let m' = model_of g.S.Scheme.meaning c.call-answer.new.bench in
    let ps = left c.loop-bench.self.lines in
    let qs = left c.next_line.new.self.lines in
    let line = c.in-Some.line.now in
    let a = c.call-answer.result in
    let out = string_bytes c.loop-bench.self.out in
    let taken : Taken (Some line) ps qs out (string_bytes c.next_line.new.self.out) = rw c.in-Some.is at c.in_ok-line.ensures in
    let said : string_bytes c.write.new.self ≡ out ++ printed a = c.in_ok-write.ensures.bytes ∙ ap (λ l. l ++ printed a) taken.2 in
    let z = c.call-answer.ensures.0 in
    let called = c.call-answer.ensures.1 ∙ ap (λ l. answered v z l m) c.in_ok-read.ensures in
    step (Runs v) {start = model_of g.S.Scheme.meaning c.args.bench} {a = m} {b = m'} (left c.args.self.now.lines) ps qs (string_bytes c.args.self.now.out) out (string_bytes c.write.new.self) (printed a) c.loop-bench.invariant said (run_more v m m' line ps qs a taken.0 taken.1 (z, called))

pub returns : goal.returns
returns g c =
    let v = values g.K.Kind.admitted g.K.Kind.same in
    let m = model_of g.S.Scheme.meaning c.loop-bench.bench in
    let ps = left c.loop-bench.self.lines in
    let out = string_bytes c.loop-bench.self.out in
    let now = string_bytes c.next_line.new.self.out in
    let taken : Taken None ps (left c.next_line.new.self.lines) out now = rw c.in_default.is at c.in_ok-line.ensures in
    let All : List ℕ → Type 0 = Prints (Runs v (model_of g.S.Scheme.meaning c.args.bench) (left c.args.self.now.lines)) (string_bytes c.args.self.now.out) in
    IfOk-weaker c.report.result _ (λ _. All (string_bytes c.report.new.self.out))
    (λ u e. subst All (sym (e ∙ ap (λ l. l ++ report m) taken.1 ∙ append_assoc out (ending ps) (report m))) (c.loop-bench.invariant (ending ps ++ report m) (run_end v m ps taken.0)))
    c.report.ensures
