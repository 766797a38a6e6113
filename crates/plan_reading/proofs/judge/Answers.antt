-- The tests come in checking order: the first that finds a fault returns, and where each finds none the plan is accepted.
use Rattle.std.proofs.Common.{◌≡◌, sym, ◌∙◌, rules, arith}
use Rattle.plan_format.specs.Plan.{pair_wrong, field_wrong, name_wrong}
use Rattle.plan_format.specs.Lowest.{lowest}
use Rattle.plan_format.proofs.Lows.{lowest_all}
use Rattle.plan_format.proofs.Accepted.{shaped}
use Rattle.plan_reading.proofs.Promised.{judges}
use Rattle.plan_reading.proofs.Judging.{lowest_is, shape_out, pair_out, bytes_follow, field_out, name_out, none_out}
use Rattle.plan_reading.proofs.judge.Goals as goal

pub returns-then-shape_wrong : goal.returns-then-shape_wrong
returns-then-shape_wrong c = judges (sym (shape_out _ (sym c.shape_wrong.ensures ∙ c.if-shape_wrong.true)))

pub returns-in-Some : goal.returns-in-Some
returns-in-Some c =
    let h = c.in-Some.ensures in
    let shape = sym c.shape_wrong.ensures ∙ c.if-shape_wrong.false in
    let pair : c.in-Some.pair ≡ lowest (pair_wrong c.args.plan.now) c.load-n.result = lowest_is _ _ _ h.0 (λ k l. let x = h.1 k l in search rules) (let x = h.2 in search rules) in
    judges (sym (pair_out _ _ c.load-n.ensures shape _ h.0 pair))

pub returns-then-begin_of-plan : goal.returns-then-begin_of-plan
returns-then-begin_of-plan c =
    let shape = sym c.shape_wrong.ensures ∙ c.if-shape_wrong.false in
    let pairs : lowest (pair_wrong c.args.plan.now) c.load-n.result ≡ c.load-n.result = lowest_all _ _ (λ k l. let x = c.in_default.ensures k l in search rules) in
    judges (sym (bytes_follow _ _ c.load-n.ensures shape pairs (omega (arith, c.begin_of.ensures))))

pub returns-in-Some-lowest_wrong : goal.returns-in-Some-lowest_wrong
returns-in-Some-lowest_wrong c =
    let h = c.in-Some-lowest_wrong.ensures in
    let shape = sym c.shape_wrong.ensures ∙ c.if-shape_wrong.false in
    let pairs : lowest (pair_wrong c.args.plan.now) c.load-n.result ≡ c.load-n.result = lowest_all _ _ (λ k l. let x = c.in_default.ensures k l in search rules) in
    let field : c.in-Some-lowest_wrong.field ≡ lowest (field_wrong c.args.plan.now) c.load-n.result = lowest_is _ _ _ h.0 (λ k l. let x = h.1 k l in search rules) (let x = h.2 in search rules) in
    judges (sym (field_out _ _ c.load-n.ensures shape pairs (omega (arith, c.begin_of.ensures)) _ h.0 field))

pub lowest_wrong-requires-3 : goal.lowest_wrong-requires-3
lowest_wrong-requires-3 c k l κs ref_ptr e r s t u =
    let x = c.in_default.ensures k l in
    let m = shaped _ (sym c.shape_wrong.ensures ∙ c.if-shape_wrong.false) in
    let n = c.load-n.ensures in
    (omega arith, search rules)

pub returns-in-Some-lowest_wrong-2 : goal.returns-in-Some-lowest_wrong-2
returns-in-Some-lowest_wrong-2 c =
    let h = c.in-Some-lowest_wrong-2.ensures in
    let shape = sym c.shape_wrong.ensures ∙ c.if-shape_wrong.false in
    let pairs : lowest (pair_wrong c.args.plan.now) c.load-n.result ≡ c.load-n.result = lowest_all _ _ (λ k l. let x = c.in_default.ensures k l in search rules) in
    let fields : lowest (field_wrong c.args.plan.now) c.load-n.result ≡ c.load-n.result = lowest_all _ _ (λ k l. let x = c.in_default-lowest_wrong.ensures k l in search rules) in
    let name : c.in-Some-lowest_wrong-2.name ≡ lowest (name_wrong c.args.plan.now) c.load-n.result = lowest_is _ _ _ h.0 (λ k l. let x = h.1 k l in search rules) (let x = h.2 in search rules) in
    judges (sym (name_out _ _ c.load-n.ensures shape pairs (omega (arith, c.begin_of.ensures)) fields _ h.0 name))

pub returns : goal.returns
returns c =
    let shape = sym c.shape_wrong.ensures ∙ c.if-shape_wrong.false in
    let pairs : lowest (pair_wrong c.args.plan.now) c.load-n.result ≡ c.load-n.result = lowest_all _ _ (λ k l. let x = c.in_default.ensures k l in search rules) in
    let fields : lowest (field_wrong c.args.plan.now) c.load-n.result ≡ c.load-n.result = lowest_all _ _ (λ k l. let x = c.in_default-lowest_wrong.ensures k l in search rules) in
    let names : lowest (name_wrong c.args.plan.now) c.load-n.result ≡ c.load-n.result = lowest_all _ _ (λ k l. let x = c.in_default-lowest_wrong-2.ensures k l in search rules) in
    judges (sym (none_out _ _ c.load-n.ensures shape pairs (omega (arith, c.begin_of.ensures)) fields names))
