use Rattle.std.proofs.Common.{◌≡◌, rules}
use Rattle.seals.specs.Meanings.{given}
use Rattle.script.specs.Calls.{answer_or, flight_or}
use Rattle.script.proofs.Receiving.{delivered, injected}
use Rattle.script.proofs.calls.granted.Goals as goal

pub returns-in-Seal : goal.returns-in-Seal
returns-in-Seal g c = (given c.seal.result, search rules)

pub returns-in-Inject : goal.returns-in-Inject
returns-in-Inject g c =
    let said : answer_or c.or_else.result ≡ flight_or c.inject.result = search rules in
    (c.inject.ensures.0, injected _ _ _ _ _ _ _ _ _ _ _ c.in-Inject.is c.as_slice-in-Inject.ensures.value said c.inject.ensures.1)

pub returns-in-Deliver : goal.returns-in-Deliver
returns-in-Deliver g c =
    let said : answer_or c.or_else-in-Deliver.result ≡ flight_or c.deliver.result = search rules in
    (c.deliver.ensures.0, delivered _ _ _ _ _ _ _ _ _ c.in-Deliver.is said c.deliver.ensures.1)
