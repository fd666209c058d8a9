use Rattle.std.proofs.Common.{◌≡◌, ◌-◌, ◌++◌, ◌∙◌, ap, append_assoc, rules, string_bytes, sym}
use Rattle.std.proofs.lemmas.List.{append-nil}
use Rattle.bench.specs.Model.{model_of}
use Rattle.bench.specs.Reports.{reports}
use Rattle.script.specs.Transcript.{item_lines, line_of}
use Rattle.script.proofs.Turns.{lines_none, lines_next}
use Rattle.script.proofs.player.Player.report.Goals as goal
use Rattle.script.proofs.player.Player.report.Goals.{in-Ok+in_ok-write, in_default}

pub loop-item-init : goal.loop-item-init
loop-item-init g c =
    let first = string_bytes c.args.self.now.out in
    sym (ap (λ l. first ++ l) (lines_none (model_of g.S.Scheme.meaning c.args.bench.now)) ∙ append-nil first)

pub loop-item-preserved : goal.loop-item-preserved
loop-item-preserved g c =
    let m = model_of g.S.Scheme.meaning c.args.bench.now in
    let i = c.loop-item.item in
    let first = string_bytes c.args.self.now.out in
    let line = line_of i (reports i m.core) in
    let bytes : string_bytes c.match-report.self.out ≡ string_bytes c.loop-item.self.out ++ line
    = elim c.match-report.branch [ in-Ok+in_ok-write w ↦ search rules | in_default w ↦ search rules ] in
    bytes ∙ ap (λ l. l ++ line) c.loop-item.invariant ∙ append_assoc first (item_lines m (i - 1)) line ∙ ap (λ l. first ++ l) (sym (lines_next m i c.loop-item.auto.item))
