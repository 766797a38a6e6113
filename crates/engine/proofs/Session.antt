-- A list of calls on one buffer, each known by its promise alone, is a list of calls by the rules, and demand 3 holds of it.
use mathlib.Core.Path.{◌≡◌, refl, ap, ◌∙◌}
use mathlib.Core.List.{List, ◌∷◌}
use Prim.Native.Nat.{ℕ, ◌<◌}
use borrow.Author.Tests.{lt-leb}
use Rattle.refusal.specs.Tests.{accepted, or_next, judged}
use Rattle.refusal.proofs.CheckingOrder.{not_both}
use Rattle.line.specs.Station.{Plan}
use Rattle.rules.specs.Machine.{Machine}
use Rattle.rules.specs.Held.{record_of}
use Rattle.rules.specs.Engine.{chosen, Engine, opened, Record, Answer, Recorded}
use Rattle.rules.specs.Checks.{checks}
use Rattle.rules.specs.Calls.{Answers, refuse, recorded}
use Rattle.rules.specs.Demand as D
use Rattle.rules.specs.Demand.{Made, Calls}
use Rattle.rules.proofs.Calls.Demand3 as W
use Rattle.plan_format.specs.Line.{line_of}
use Rattle.engine_promises.specs.Represents.{Represents}
use Rattle.engine_promises.specs.Promises.{Becomes}
use Rattle.engine.specs.Session.{Chain, end, post, retract, run_station, run_lowest, commit, record_call, Claim}

-- ---- the rules' calls

-- the rules reach an engine that the bytes stand for
pub record Ends (p : Plan) (e : Engine) (ms : List Made) (ys : List ℕ) : Type 0 where
  pub engine : Engine
  pub calls : Calls p e ms engine
  pub stands : Represents p engine ys

call_more : {p : Plan} {e : Engine} {m : Made} {ms : List Made} {ys zs : List ℕ} (b : Becomes p e m.asked m.said ys) → Ends p b.after ms zs
    → Ends p e (m ∷ ms) zs
call_more b t = record { engine = t.engine; calls = D.next b.answers t.calls; stands = t.stands }

pub chain_calls : {p : Plan} {e : Engine} {xs ys : List ℕ} {ms : List Made} → Represents p e xs → Chain xs ms ys → Ends p e ms ys
chain_calls {p} {e} r end = record { engine = e; calls = D.end; stands = r }
chain_calls {p} {e} r (post _ a c) = let b = a.answer p e r in call_more b (chain_calls b.represents c)
chain_calls {p} {e} r (retract _ a c) = let b = a.answer p e r in call_more b (chain_calls b.represents c)
chain_calls {p} {e} r (run_station _ a c) = let b = a.answer p e r in call_more b (chain_calls b.represents c)
chain_calls {p} {e} r (run_lowest _ a c) = let b = a.answer p e r in call_more b (chain_calls b.represents c)
chain_calls {p} {e} r (commit _ a c) = let b = a.answered.answer p e r in call_more b (chain_calls b.represents c)
chain_calls {p} {e} r (record_call _ a c) = let b = a.answer p e r in call_more b (chain_calls b.represents c)

-- ---- a record

passes_station : (p : Plan) (e : Engine) (s : ℕ) → s < p.count → judged (checks p e (Record s)) ≡ accepted
unfolding checks judged or_next
passes_station p e s h = rw (lt-leb p.count s h)

record_said : {p : Plan} {e f : Engine} {s : ℕ} {a : Answer} → s < p.count → Answers p e (Record s) a f
    → a ≡ Recorded (record_of e.queue.states s e.queue.held)
record_said {p} {e} {f} {s} h (refuse j) = absurd (not_both (passes_station p e s h) j)
record_said h (recorded j) = refl

-- ---- the claim

pub whole : Claim
whole plan arity width capacity before r xs o = record {
  opening = o.number;
  refusal = o.refusal;
  whole = λ d ys ms c.
      let setting = chosen arity width capacity in
      let h : Represents (line_of plan) (opened (line_of plan) (chosen arity width capacity)) xs = o.opens d in
      let t = chain_calls h c in
      let q = W.demand (line_of plan) h.range setting t.calls in
      let g = W.reached (line_of plan) h.range setting t.calls in
      let one = W.one_machine (line_of plan) h.range setting t.calls in
      record {
        engine = t.engine;
        calls = t.calls;
        stands = t.stands;
        demand = q;
        one_machine = λ k e. one k q.machine e q.comes;
        records_then = λ s l a w.
            record_said l (w.answer (line_of plan) t.engine t.stands).answers
            ∙ ap Recorded (g.record_is_state s ∙ ap (λ (m : Machine). m.states s) (one g.machine q.machine g.comes q.comes));
      };
}
