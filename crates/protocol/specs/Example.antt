-- A run: three processors, one fault, d 5, e 2; item 1 has sender 1 and the reading 100. Processor 1 opens 7 at 100, both others hear of it, and at 114 all decide 7, after three broadcasts.
use Rattle.std.specs.Prelude.{◌≡◌, true, eqb, refl}
use Rattle.std.proofs.Common.{sym, ◌∙◌, lit≤}
use Rattle.std.proofs.lemmas.Bool.{eqb-true, eq-eqb}
use Rattle.protocol.specs.Model.{Plan, State, chosen}
use Rattle.protocol.specs.Agreement.{Made, Decided, broadcasts}

abbrev pub plan : Plan
plan = record {
  n = 3;
  f = 1;
  d = 5;
  e = 2;
  items = 1;
  sender = λ i. 1;
  moment = λ i. 100;
  admitted = λ v. true;
  same = eqb;
  spread = lit≤ tt;
  sender_low = λ i. lit≤ tt;
  sender_high = λ i. lit≤ tt;
  same_refl = λ v a. eq-eqb v v refl;
  same_sym = λ v w a b h. eq-eqb w v (sym (eqb-true v w h));
  same_trans = λ u v w a b c h k. eq-eqb u w (eqb-true u v h ∙ eqb-true v w k);
}

abbrev pub Happens : Type 0
Happens = (z : State) × Made plan z × Decided z 1 1 (chosen 7) × Decided z 2 1 (chosen 7) × Decided z 3 1 (chosen 7) × (broadcasts z 1 ≡ 3)
