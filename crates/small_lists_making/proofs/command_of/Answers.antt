-- Each arm has the command of its number's call.
use mathlib.Core.Path.{◌≡◌, ap}
use native.Mathlib.Omega.{arith}
use lib.ListN.{get_elem?}
use Rattle.small_lists.specs.Calls.{named_calls}
use Rattle.small_lists_making.proofs.command_of.Goals as goal

pub returns-in-0 : goal.returns-in-0
returns-in-0 c output = ap (get_elem? (named_calls output)) c.in-0.is

pub returns-in-1 : goal.returns-in-1
returns-in-1 c output = ap (get_elem? (named_calls output)) c.in-1.is

pub returns-in-2 : goal.returns-in-2
returns-in-2 c output = ap (get_elem? (named_calls output)) c.in-2.is

pub returns-in-3 : goal.returns-in-3
returns-in-3 c output = ap (get_elem? (named_calls output)) c.in-3.is

pub returns-in-4 : goal.returns-in-4
returns-in-4 c output = ap (get_elem? (named_calls output)) c.in-4.is

pub returns-in-5 : goal.returns-in-5
returns-in-5 c output = ap (get_elem? (named_calls output)) c.in-5.is

pub returns-in_default : goal.returns-in_default
returns-in_default c output = let six : c.args.number ≡ 6 = omega arith in ap (get_elem? (named_calls output)) six
