-- What a line that a frame comes by answers, from what its call answers.
use Rattle.std.proofs.Common.{◌≡◌, ℕ, List, Result, ◌∙◌, ap, sym, subst, vec_items}
use Rattle.refusals.specs.declared.refusal.Refusal.{Refusal}
use Rattle.bench.specs.Model.{Model}
use Rattle.bench.specs.Sending.{delivers, injects}
use Rattle.lines.specs.declared.line.Line.{Line}
use Rattle.lines.specs.declared.line.Line.TheVariants.{Deliver, Inject}
use Rattle.lines.specs.Views.{viewed}
use Rattle.script.specs.declared.answer.Answer.{Answer}
use Rattle.script.specs.Calls.{Values, answering, called, flight_or}

answers : (a : Answer) (o : Result ℕ Refusal) (m : Model) (x : Result ℕ Refusal × Model) → a ≡ flight_or o → (o, m) ≡ x → (a, m) ≡ answering flight_or x
answers a o m x said is = ap (λ b. (b, m)) said ∙ ap (answering flight_or) is

pub injected : (v : Values) (z from to : ℕ) (bytes : _) (sent : List ℕ) (line : Line) (m m' : Model) (a : Answer) (o : Result ℕ Refusal)
    → line ≡ Inject from to bytes → sent ≡ vec_items bytes → a ≡ flight_or o → (o, m') ≡ injects v.admitted v.same z from to sent m → (a, m') ≡ called v z (viewed line) m
injected v z from to bytes sent line m m' a o read same said is =
    let P : Line → Type 0 = λ l. (a, m') ≡ called v z (viewed l) m in
    let Q : List ℕ → Type 0 = λ bs. (a, m') ≡ answering flight_or (injects v.admitted v.same z from to bs m) in
    subst P (sym read) (subst Q same (answers a o m' (injects v.admitted v.same z from to sent m) said is))

pub delivered : (v : Values) (z flight p : ℕ) (line : Line) (m m' : Model) (a : Answer) (o : Result ℕ Refusal)
    → line ≡ Deliver flight p → a ≡ flight_or o → (o, m') ≡ delivers v.admitted v.same z flight p m → (a, m') ≡ called v z (viewed line) m
delivered v z flight p line m m' a o read said is =
    let P : Line → Type 0 = λ l. (a, m') ≡ called v z (viewed l) m in
    subst P (sym read) (answers a o m' (delivers v.admitted v.same z flight p m) said is)
