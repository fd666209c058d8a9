use Rattle.std.proofs.Common.{◌≡◌, ◌++◌, ◌∙◌, ℕ, List, [], Some, None, refl, sym, ap, subst, string_bytes}
use Rattle.std.proofs.lemmas.List.{append-nil}
use Rattle.std.proofs.lemmas.Result.{IfOk-weaker}
use Rattle.bench.specs.Making.{made as making}
use Rattle.lines.specs.Left.{left}
use Rattle.script.specs.declared.setting.Heard.TheVariants.{Kept, OutOfOrder, Start}
use Rattle.script.specs.Settings.{setting_of, unset, heard}
use Rattle.script.specs.Transcript.{Prints, bad_line, ending, fresh_scheme, values_of, Opens, Started, Taken, bench_of}
use Rattle.script.proofs.Turns.{step, open_end, open_more}
use Rattle.script.proofs.player.Player.open.Goals as goal

pub loop-setting-preserved : goal.loop-setting-preserved
loop-setting-preserved c =
    let s = setting_of c.loop-setting.setting in
    let t = setting_of c.hear.new.self in
    let ps = left c.loop-setting.self.lines in
    let qs = left c.next_line.new.self.lines in
    let line = c.in-Some.line.now in
    let out = string_bytes c.loop-setting.self.out in
    let taken : Taken (Some line) ps qs out (string_bytes c.next_line.new.self.out) = rw c.in-Some.is at c.in_ok-line.ensures in
    let said : string_bytes c.push_str.new.self ≡ out ++ bad_line = c.in_ok-push_str-in-OutOfOrder.ensures.bytes ∙ ap (λ l. l ++ bad_line) taken.2 in
    let heard_as = ap (λ h. (h, t)) (sym c.in-OutOfOrder.is) ∙ c.in_ok-hear.ensures ∙ ap (λ l. heard l s) c.in_ok-read.ensures in
    step Opens {start = unset} {a = s} {b = t} (left c.args.self.now.lines) ps qs (string_bytes c.args.self.now.out) out (string_bytes c.push_str.new.self) bad_line c.loop-setting.invariant said (λ o h. open_more s line ps qs (OutOfOrder, t) taken.0 taken.1 heard_as (bad_line ++ o) (o, refl, h))

pub loop-setting-preserved-in-Kept : goal.loop-setting-preserved-in-Kept
loop-setting-preserved-in-Kept c =
    let s = setting_of c.loop-setting.setting in
    let t = setting_of c.hear.new.self in
    let ps = left c.loop-setting.self.lines in
    let qs = left c.next_line.new.self.lines in
    let line = c.in-Some.line.now in
    let out = string_bytes c.loop-setting.self.out in
    let now = string_bytes c.next_line.new.self.out in
    let taken : Taken (Some line) ps qs out now = rw c.in-Some.is at c.in_ok-line.ensures in
    let heard_as = ap (λ h. (h, t)) (sym c.in-Kept.is) ∙ c.in_ok-hear.ensures ∙ ap (λ l. heard l s) c.in_ok-read.ensures in
    step Opens {start = unset} {a = s} {b = t} (left c.args.self.now.lines) ps qs (string_bytes c.args.self.now.out) out now [] c.loop-setting.invariant (taken.2 ∙ sym (append-nil out)) (open_more s line ps qs (Kept, t) taken.0 taken.1 heard_as)

pub returns-in-Start : goal.returns-in-Start
returns-in-Start c =
    let s = setting_of c.loop-setting.setting in
    let t = setting_of c.hear.new.self in
    let z = c.in-Start.sizes in
    let kind = c.in-Start.kind in
    let scheme = c.in-Start.scheme in
    let ps = left c.loop-setting.self.lines in
    let qs = left c.next_line.new.self.lines in
    let line = c.in-Some.line.now in
    let out = string_bytes c.loop-setting.self.out in
    let now = string_bytes c.next_line.new.self.out in
    let taken : Taken (Some line) ps qs out now = rw c.in-Some.is at c.in_ok-line.ensures in
    let heard_as = ap (λ h. (h, t)) (sym c.in-Start.is) ∙ c.in_ok-hear.ensures ∙ ap (λ l. heard l s) c.in_ok-read.ensures in
    let All : List ℕ → Type 0 = Prints (Opens unset (left c.args.self.now.lines)) (string_bytes c.args.self.now.out) in
    IfOk-weaker c.start.result _ (λ _. All (string_bytes c.start.new.self.out))
    (λ u e.
    let rest = e.0 in
    let started : Started (values_of kind) (bench_of z t scheme) qs rest = subst (λ l. Started (values_of kind) (making z.n z.f z.d z.e l (fresh_scheme scheme)) qs rest) c.as_slice.ensures.value e.2 in
    subst All (sym (e.1 ∙ ap (λ l. l ++ rest) taken.2)) (c.loop-setting.invariant rest (open_more s line ps qs (Start z kind scheme, t) taken.0 taken.1 heard_as rest started)))
    c.start.ensures

pub returns : goal.returns
returns c =
    let ps = left c.loop-setting.self.lines in
    let taken : Taken None ps (left c.next_line.new.self.lines) (string_bytes c.loop-setting.self.out) (string_bytes c.next_line.new.self.out) = rw c.in_default.is at c.in_ok-line.ensures in
    subst (Prints (Opens unset (left c.args.self.now.lines)) (string_bytes c.args.self.now.out)) (sym taken.1) (c.loop-setting.invariant (ending ps) (open_end (setting_of c.loop-setting.setting) ps taken.0))
