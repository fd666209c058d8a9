use Rattle.std.proofs.Common.{◌≤◌, get_or, arith, rules}
use Rattle.std.proofs.lemmas.List.{take_rest}
use Rattle.frames.proofs.Reading.{read_facts}
use Rattle.frames.proofs.reader.read.Goals as goal

pub returns : goal.returns
returns c =
    let bs = c.args.bytes.now in
    let inside : (1 ≤ get_or bs 9 0) × (get_or bs 9 0 ≤ 8) = search rules in
    let facts = read_facts bs _ _ (omega arith) (take_rest bs 10) inside.0 inside.1 (omega arith) c.from_be_bytes-value.ensures (λ i. omega (arith, c.type_inv.bytes i)) in
    record { fields = facts.0; whole = facts.1; back = facts.2 }
