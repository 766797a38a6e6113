-- By the order.
use Rattle.scenario_posting.proofs.OrdersTaken.{takes_days, takes_read, takes_level}
use Rattle.scenario_posting.proofs.take_order.Goals as goal

pub returns-in-Days : goal.returns-in-Days
returns-in-Days c = takes_days c.in-Days.is

pub returns-in_ok-post-in-Read : goal.returns-in_ok-post-in-Read
returns-in_ok-post-in-Read c = takes_read c.in-Read.is c.in_ok-post-in-Read.was c.post.ensures

pub returns-in_ok-post-in-Level : goal.returns-in_ok-post-in-Level
returns-in_ok-post-in-Level c = takes_level c.in-Level.is c.in_ok-post-in-Level.was c.post-in-Level.ensures
