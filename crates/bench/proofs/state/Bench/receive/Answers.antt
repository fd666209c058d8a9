use Rattle.std.proofs.Common.{rules}
use Rattle.bench.specs.Flights.{receives}
use Rattle.bench.proofs.state.Bench.receive.Goals as goal

pub returns-in_err-receive-clause-is : goal.returns-in_err-receive-clause-is
unfolding receives
returns-in_err-receive-clause-is g c = (0, search rules)

pub returns-in_err-flight-in-Some-clause-is : goal.returns-in_err-flight-in-Some-clause-is
unfolding receives
returns-in_err-flight-in-Some-clause-is g c = (c.launch.ensures.is.0, search rules)

pub returns-in-None-clause-is : goal.returns-in-None-clause-is
unfolding receives
returns-in-None-clause-is g c = (0, search rules)

pub returns-in_ok-flight-in-Some-clause-is : goal.returns-in_ok-flight-in-Some-clause-is
unfolding receives
returns-in_ok-flight-in-Some-clause-is g c = (c.launch.ensures.is.0, search rules)
