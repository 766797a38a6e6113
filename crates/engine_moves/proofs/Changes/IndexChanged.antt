-- After a change of the index the bytes hold the changed queue: the stations stay, the times are of events that were there, and so are the sends.
use mathlib.Core.Path.{◌≡◌, ◌∙◌, subst}
use mathlib.Core.Logic.{inr}
use mathlib.Core.List.{List, Memᴰ}
use Prim.Native.Nat.{ℕ, ◌+◌, ◌≤◌}
use native.Mathlib.Omega.{arith}
use lib.ListN.{length}
use Rattle.refusal.specs.Tests.{horizon}
use Rattle.line.specs.declared.Event.{Event}
use Rattle.line.specs.declared.State.{State}
use Rattle.line.specs.Station.{Plan, run_event}
use Rattle.rules.specs.Held.{Held, ran, event, In, Queue}
use Rattle.rings.specs.Table.{Frame}
use Rattle.engine_rows.specs.Layout.{slot_row}
use Rattle.engine_rows.proofs.Rows.{config_in, state_in}
use Rattle.engine_index.specs.Layout.{index_bytes}
use Rattle.engine_index.specs.Promises.{Spares}
use Rattle.engine_index.specs.Represents.{Cell, cell, Stands}
use Rattle.engine_index.proofs.CellFrames.{row_kept}
use Rattle.engine_events.specs.Represents.{held_of, Has, From, Kids, Stores}
use Rattle.engine_moves.proofs.Cells.Split.{held_in, in_held}
use Rattle.engine_moves.proofs.Cells.SendNodes.{Still, nodes_map, sends_spared}
use Rattle.engine_moves.proofs.Cells.Members.{member_slot}

-- ---- times

abbrev pub Times : ℕ → List Held → Type 0
Times now h = (y : Held) → In y h → (now ≤ (event y).time) × ((event y).time ≤ horizon)

pub times_from : {now : ℕ} (old new : List Cell) → From old new → Times now (held_of old) → Times now (held_of new)
times_from {now} old new f t y m =
    let r = in_held new y m in
    let g = f (cell r.0 y) r.1 in
    subst (λ (e : Event). (now ≤ e.time) × (e.time ≤ horizon)) g.2 (t g.0 (held_in old (cell r.0 g.0) g.1))

-- ---- sends

-- a change after which no other event has run, and that leaves the cells of the run events' sends
pub kids_spared : (p : Plan) {n c z : ℕ} {xs ys : List ℕ} {cells : List Cell} {free : List ℕ} (new : List Cell)
    → Stands n c xs cells free → Spares n c z xs ys → Kids p n xs cells
    → ((x : ℕ) (e : Event) (b : State) → Has (cell x (ran e b)) new → Has (cell x (ran e b)) cells)
    → ((x : ℕ) (e : Event) (b : State) → Has (cell x (ran e b)) new → (y : ℕ) (h : Held) → Has (cell y h) cells → Memᴰ (event h) (run_event p b e).sends
    → Still new y h)
    → Kids p n ys new
kids_spared p {n} {c} new S P K old still x e b m =
    let k = old x e b m in
    rw (sends_spared x P (member_slot S (cell x (ran e b)) k)) (nodes_map (K x e b k) (still x e b m))

-- ---- a change of the index

pub index_stores : {p : Plan} {n c now : ℕ} {xs ys : List ℕ} {q : Queue} {cells : List Cell} (new : List Cell) (free : List ℕ) (held : List Held)
    → Stores p n c now xs q cells → Frame (slot_row n 0) (index_bytes n c) xs ys → Stands n c ys new free → length new + length free ≡ c → held_of new ≡ held
    → Times now held → Kids p n ys new → Stores p n c now ys (record { states = q.states; held = held }) new
index_stores {n = n} new free held S F T l e t k = record {
  count = S.count;
  some = S.some;
  long = rw F.size S.long;
  configs = λ s b. row_kept (config_in n s) F (inr (omega arith)) ∙ S.configs s b;
  states = λ s b. row_kept (state_in n s) F (inr (omega arith)) ∙ S.states s b;
  free = free;
  stands = T;
  places = l;
  held = e;
  times = t;
  kids = k;
}
