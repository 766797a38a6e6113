-- What a run finds in the bytes: how it is judged, and what it does.
use mathlib.Core.Path.{◌≡◌, refl, sym, ap, ◌∙◌}
use mathlib.Core.Bool.{Bool, false}
use mathlib.Core.List.{List}
use Prim.Native.Nat.{ℕ, ◌+◌, ◌≤◌, ◌<◌}
use native.Mathlib.Omega.{arith}
use Rattle.std.specs.Prelude.{Option, Some, ok_or, Result, Ok, Err}
use lib.ListN.{length, get_or}
use Rattle.words.specs.Le.{load_at}
use Rattle.refusal.specs.declared.Refusal.{Refusal}
use Rattle.refusal.specs.declared.Refusal.TheVariants.{Space, Station, Idle, Count, Full}
use Rattle.refusal.specs.Numbers.{number_of}
use Rattle.refusal.specs.Tests.{refused, judged}
use Rattle.line.specs.declared.Effect.{Effect}
use Rattle.line.specs.declared.Event.{Event}
use Rattle.line.specs.Answer.{counted, sends_of, said}
use Rattle.line.specs.Station.{Plan, run_at}
use Rattle.rules.specs.Engine.{Engine, RunStation, Refused}
use Rattle.rules.specs.Checks.{checks}
use Rattle.engine_ends.specs.Ends.{first_unrun}
use Rattle.entry.specs.Entry.{event_at}
use Rattle.engine_records.specs.Records.{state_at, stored_config}
use Rattle.engine_rows.specs.Layout.{station_row, slot_row}
use Rattle.engine_index.specs.Layout.{slot_of}
use Rattle.engine_index.proofs.Places.FoundSlot.{FindsSlot}
use Rattle.engine_events.specs.Represents.{fits_in}
use Rattle.engine_events.specs.Promises.{AfterHeader}
use Rattle.engine_moves.specs.Promises.{RunsEvent}
use Rattle.engine_events.proofs.Fitting.{fits_gone}
use Rattle.engine_answers.specs.declared.RunAnswer.{RunAnswer}
use Rattle.engine_promises.specs.Represents.{Represents}
use Rattle.engine_promises.specs.Answers.{run_said}
use Rattle.engine_promises.specs.Promises.{Answered}
use Rattle.engine_promises.specs.Steps.{at_most, HasRoom}
use Rattle.engine_running.specs.declared.NextRun.{NextRun}
use Rattle.engine_running.specs.Promises.{RunsAt}
use Rattle.engine_running.specs.Steps.{AddsSend, JudgesRun, RunsNode}
use Rattle.engine_promises.proofs.Header.{fits_read}
use Rattle.engine_promises.proofs.PostRunChecks.{run_9}
use Rattle.engine_promises.proofs.Refused.{refused_so, refusing, ok_or_some, ok_or_none}
use Rattle.engine_promises.proofs.FoundSlots.{no_slot}
use Rattle.engine_running.proofs.Running.{Reads, idle_so, some_waits, over_so, full_so, accepted_so, run_so}

-- ---- a run is judged, once the station is known

refused_run : {n c s : ℕ} {xs : List ℕ} (r : Refusal)
    → ((p : Plan) (e : Engine) → Represents p e xs → p.count ≡ n → e.setting.capacity ≡ c → judged (checks p e (RunStation s)) ≡ refused (number_of r))
    → JudgesRun n c s xs (Err r)
refused_run r f = record { number = f; reads = λ g q. let z : ◌≡◌ {A = ℕ} 0 1 = cc in absurd (omega arith) }

-- no engine where the bytes are too few
pub too_short : {n c s : ℕ} {xs : List ℕ} {r : Bool} → r ≡ fits_in n c (length xs) → r ≡ false → JudgesRun n c s xs (Err Space)
too_short {n} {c} {s} {xs} {r} f z =
    refused_run Space
    (λ p e R a b.
    let g : r ≡ fits_in p.count e.setting.capacity (length xs) = rw (a, b) f in
    absurd (fits_gone g z R.holds.stores))

pub no_station : {n c s : ℕ} {xs : List ℕ} → n ≤ s → JudgesRun n c s xs (Err Station)
no_station {s = s} h = refused_run Station (λ p e R a b. run_9 p e s (omega arith))

pub none_waits : {n c s x i : ℕ} {xs : List ℕ} → s < n → x ≡ first_unrun xs n c s → FindsSlot n c (length xs) x i → c ≤ i
    → JudgesRun n c s xs (Err Idle)
none_waits {n} {c} {s} {x} {i} {xs} l j F h =
    refused_run Idle
    (λ p e R a b.
    let j' : x ≡ first_unrun xs p.count e.setting.capacity s = rw (a, b) j in
    let F' : FindsSlot p.count e.setting.capacity (length xs) x i = rw (a, b) F in
    idle_so R (omega arith) j' (no_slot F' (omega arith)))

module _ {n c s x : ℕ} {xs : List ℕ} {v : Event} {r : Option Effect} (G : Reads n c s x xs v r) where
  pub counts_pass : {d : Refusal} → ok_or r Count ≡ Err d → JudgesRun n c s xs (Err d)
  counts_pass q =
      let z = ok_or_none r Count q in
      rw z.1
      (refused_run Count
      (λ p e R a b.
      let g : Reads p.count e.setting.capacity s x xs v r = rw (a, b) G in
      over_so R g (some_waits R g.inside g.next g.above) z.0))

  module _ {f : Effect} (q : ok_or r Count ≡ Ok f) {room : ℕ} (h : HasRoom n c xs room) where
    pub places_few : room < length (sends_of f.first) + length (sends_of f.second) → JudgesRun n c s xs (Err Full)
    places_few k =
        refused_run Full
        (λ p e R a b.
        let g : Reads p.count e.setting.capacity s x xs v r = rw (a, b) G in
        let h' : HasRoom p.count e.setting.capacity xs room = rw (a, b) h in
        full_so R g (some_waits R g.inside g.next g.above) f (ok_or_some r Count q) h' k)

    pub run_judged : length (sends_of f.first) + length (sends_of f.second) ≤ room → JudgesRun n c s xs (Ok (record { node = x; effect = f }))
    run_judged k = record {
      number = λ p e R a b.
          let g : Reads p.count e.setting.capacity s x xs v r = rw (a, b) G in
          let h' : HasRoom p.count e.setting.capacity xs room = rw (a, b) h in
          accepted_so R g (some_waits R g.inside g.next g.above) f (ok_or_some r Count q) h' k;
      reads = λ f' i.
          let z : ◌≡◌ {A = NextRun} (record { node = x; effect = f }) f' = cc in
          rw (← z)
          (record {
            inside = G.inside;
            next = G.next;
            above = G.above;
            outcome = ap said (sym (ok_or_some r Count q)) ∙ G.outcome
                ∙ ap (λ (y : Event). counted (run_at (stored_config (station_row n s) xs) (state_at (station_row n s + 32) xs) y)) G.event;
            room = room;
            has_room = h;
            enough = k;
          });
    }

-- ---- it is run

pub node_run : (n c x : ℕ) (f : Effect) (xs : List ℕ) → ((j : ℕ) → get_or xs j 0 < 256) → (n1 k1 n2 k2 : ℕ) (ys zs us : List ℕ) → AddsSend n c xs f.first n1 k1 ys
    → AddsSend n c ys f.second n2 k2 zs → RunsEvent n c zs x f.state n1 n2 us → AfterHeader xs us → RunsNode n c x f (k1 + k2) xs us
node_run n c x f xs low n1 k1 n2 k2 ys zs us D E T F s G = record {
  refusal = λ m q. let z : ◌≡◌ {A = ℕ} 0 1 = cc in absurd (omega arith);
  answer = λ p e R a b.
      let g : Reads p.count e.setting.capacity s x xs (event_at (slot_row n (slot_of n x)) xs) (Some f) = rw (a, b) known in
      let h : HasRoom p.count e.setting.capacity xs G.room = rw (a, b) G.has_room in
      let D' : AddsSend p.count e.setting.capacity xs f.first n1 k1 ys = rw (a, b) D in
      let E' : AddsSend p.count e.setting.capacity ys f.second n2 k2 zs = rw (a, b) E in
      let T' : RunsEvent p.count e.setting.capacity zs x f.state n1 n2 us = rw (a, b) T in
      run_so R g (some_waits R g.inside g.next g.above) f refl h G.enough low n1 k1 n2 k2 ys zs us D' E' T' F;
}
  where
    known : Reads n c s x xs (event_at (slot_row n (slot_of n x)) xs) (Some f)
    known = record { inside = G.inside; next = G.next; above = G.above; event = refl; outcome = G.outcome }

-- ---- judged, then run

module _ {n c s : ℕ} {xs : List ℕ} where
  pub run_refusal : {r : Refusal} → JudgesRun n c s xs (Err r) → RunsAt n c s (Err r) xs xs
  run_refusal {r} J = record { refusal = λ k z. refl; answer = λ p e R a b. refused_so (RunStation s) (number_of r) R (J.number p e R a b) }

  pub run_accepted : {f : NextRun} → JudgesRun n c s xs (Ok f) → {u : ℕ} {ys : List ℕ} → RunsNode n c f.node f.effect u xs ys
      → RunsAt n c s (Ok (record { station = s; undone = u })) xs ys
  run_accepted {f} J D = D s (J.reads f refl)

-- ---- run station

-- a line has at most 256 stations
pub far_station : {s : ℕ} {xs : List ℕ} → 65535 < s → Answered (RunStation s) (Refused 9) xs xs
far_station {s} h =
    refusing (RunStation s) 9 (record { says = λ p e R. let most = R.holds.stores.stands.stations in run_9 p e s (omega arith) })

pub station_run : {n c : ℕ} {xs : List ℕ} → n ≡ at_most 256 (load_at 8 0 xs) → c ≡ at_most 4096 (load_at 8 8 xs) → {s : ℕ} {r : Result RunAnswer Refusal} {ys : List ℕ}
    → RunsAt n c s r xs ys → Answered (RunStation s) (run_said r) xs ys
station_run S K A = record { refusal = A.refusal; answer = λ p e R. A.answer p e R (fits_read R S K).0 (fits_read R S K).1 }
