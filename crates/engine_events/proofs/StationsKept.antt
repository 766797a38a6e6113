-- A change beside stations and index leaves all that is stored.
use mathlib.Core.Path.{◌≡◌, sym, ◌∙◌, subst}
use mathlib.Core.Logic.{inl, inr}
use mathlib.Core.List.{List}
use Prim.Native.Nat.{ℕ, ◌+◌, ◌*◌, ◌≤◌, ◌<◌}
use native.Mathlib.Omega.{arith}
use Rattle.line.specs.Station.{Plan, run_event}
use Rattle.rules.specs.Held.{Queue}
use Rattle.line.proofs.Members.{all_in}
use Rattle.rings.specs.Table.{Outside, Frame}
use Rattle.engine_rows.specs.Layout.{station_row, slot_row}
use Rattle.engine_rows.proofs.Rows.{config_in, state_in}
use Rattle.engine_index.specs.Layout.{slot_of, index_bytes}
use Rattle.engine_index.specs.Represents.{Cell}
use Rattle.engine_index.proofs.CellFrames.{row_kept}
use Rattle.engine_index.proofs.Slots.OtherBytes.{stands_elsewhere, slots_below}
use Rattle.engine_events.specs.Represents.{sends_at, Nodes, Stores}

-- the bytes of stations, slots, links and log
abbrev pub stored_bytes : ℕ → ℕ → ℕ
stored_bytes n c = 128 * n + index_bytes n c

module _ {a l : ℕ} {xs ys : List ℕ} (F : Frame a l xs ys) where
  pub sends_kept : (n c x : ℕ) → slot_of n x < c → Outside a l (station_row n 0) (stored_bytes n c) → sends_at n x ys ≡ sends_at n x xs
  unfolding sends_at
  sends_kept n c x b (inl h) =
      rw (F.loads 2 (slot_row n (slot_of n x) + 56) (inl (omega arith)), F.loads 2 (slot_row n (slot_of n x) + 58) (inl (omega arith)))
  sends_kept n c x b (inr h) =
      rw (F.loads 2 (slot_row n (slot_of n x) + 56) (inr (omega arith)), F.loads 2 (slot_row n (slot_of n x) + 58) (inr (omega arith)))

  pub stores_kept : {p : Plan} {n c now : ℕ} {q : Queue} {cells : List Cell} → Outside a l (station_row n 0) (stored_bytes n c) → Stores p n c now xs q cells
      → Stores p n c now ys q cells
  stores_kept {p} {n} {c} {now} {q} {cells} h S =
      record {
        count = S.count;
        some = S.some;
        long = rw F.size S.long;
        configs = λ s b. row_kept (config_in n s) F (within (station_row n s) 128 (omega arith) (omega arith)) ∙ S.configs s b;
        states = λ s b. row_kept (state_in n s) F (within (station_row n s) 128 (omega arith) (omega arith)) ∙ S.states s b;
        free = S.free;
        stands = stands_elsewhere F (within (slot_row n 0) (index_bytes n c) (omega arith) (omega arith)) S.stands;
        places = S.places;
        held = S.held;
        times = S.times;
        kids = λ x e b m.
            let i = all_in (λ (y : Cell). slot_of n y.node < c) m (slots_below S.stands) in
            subst (λ (ks : List ℕ). Nodes cells ks (run_event p b e).sends) (sym (sends_kept n c x i h)) (S.kids x e b m);
      }
    where
      -- a part of what is stored lies outside too
      within : (at w : ℕ) → station_row n 0 ≤ at → at + w ≤ station_row n 0 + stored_bytes n c → Outside a l at w
      within at w low high = narrow h
        where
          narrow : Outside a l (station_row n 0) (stored_bytes n c) → Outside a l at w
          narrow (inl o) = inl (omega arith)
          narrow (inr o) = inr (omega arith)
