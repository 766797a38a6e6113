-- What was put of a state or a station's numbers is read back where it stands, and what stands beside it is not touched.
use mathlib.Core.Path.{◌≡◌, refl, ◌∙◌}
use mathlib.Core.Logic.{inl, inr}
use mathlib.Core.List.{List, [], ◌∷◌}
use Prim.Native.Nat.{ℕ, ◌+◌, ◌≤◌}
use native.Mathlib.Nat.{add-zero}
use native.Mathlib.Omega.{arith}
use lib.ListN.{length}
use Rattle.words.specs.Le.{load_at, store_at}
use Rattle.words.proofs.Laws.{Apart, length_store, load_other, load_stored}
use Rattle.line.specs.declared.State.{State}
use Rattle.line.specs.declared.Config.{Config}
use Rattle.line.specs.Flag.{flag_of}
use Rattle.line.proofs.Flag.{flag_low, flag_back}
use Rattle.engine_records.specs.Records.{state_bytes, config_bytes, state_at, put_state, stored_config, put_config}
use Rattle.line.specs.Widths.{StateFits, ConfigFits}
use Rattle.words.proofs.Run.{Run, puts, size, Fit, Reads, length_puts, puts_beside, puts_back}

-- ---- a record as a run of numbers

abbrev state_run : State → Run
state_run s = (4, s.draw) ∷ (4, s.level) ∷ (4, s.heard) ∷ (4, s.lost) ∷ (4, s.sent) ∷ (8, s.last) ∷ (4, flag_of s.reached) ∷ []

state_run_lem : (at : ℕ) (s : State) (xs : List ℕ) → put_state at s xs ≡ puts at 0 (state_run s) xs
unfolding put_state puts
state_run_lem at s xs = rw (add-zero at)

-- after the parent and two free bytes
abbrev config_run : Config → Run
config_run c = (4, c.calm) ∷ (4, c.spring) ∷ (4, c.threshold) ∷ (4, c.hop) ∷ (4, c.noise) ∷ (4, c.seed) ∷ []

config_run_lem : (at : ℕ) (c : Config) (xs : List ℕ) → put_config at c xs ≡ puts at 4 (config_run c) (store_at 2 at c.parent xs)
unfolding put_config puts
config_run_lem at c xs = refl

-- ---- lengths

pub length_state : (at : ℕ) (s : State) (xs : List ℕ) → length (put_state at s xs) ≡ length xs
length_state at s xs = rw state_run_lem (length_puts at 0 (state_run s) xs)

pub length_config : (at : ℕ) (c : Config) (xs : List ℕ) → length (put_config at c xs) ≡ length xs
length_config at c xs = rw (config_run_lem, length_puts at 4 (config_run c)) (length_store 2 at c.parent xs)

-- ---- beside a record

pub state_beside : (at : ℕ) (s : State) (xs : List ℕ) (m j : ℕ) → Apart at state_bytes j m → load_at m j (put_state at s xs) ≡ load_at m j xs
unfolding size
state_beside at s xs m j a = rw state_run_lem (puts_beside at 0 (state_run s) xs m j (rw add-zero a))

pub config_beside : (at : ℕ) (c : Config) (xs : List ℕ) (m j : ℕ) → Apart at config_bytes j m → load_at m j (put_config at c xs) ≡ load_at m j xs
unfolding size
config_beside at c xs m j (inl h) =
    rw config_run_lem (puts_beside at 4 (config_run c) (store_at 2 at c.parent xs) m j (inl (omega arith)) ∙ load_other m 2 at c.parent xs j (inl (omega arith)))
config_beside at c xs m j (inr h) =
    rw config_run_lem (puts_beside at 4 (config_run c) (store_at 2 at c.parent xs) m j (inr (omega arith)) ∙ load_other m 2 at c.parent xs j (inr h))

-- ---- read back

pub state_back : (at : ℕ) (s : State) (xs : List ℕ) → at + state_bytes ≤ length xs → StateFits s → state_at at (put_state at s xs) ≡ s
unfolding state_at size Fit Reads
state_back at s xs h f =
    let fit : Fit (state_run s) = (f.draw, (f.level, (f.heard, (f.lost, (f.sent, (f.last, (omega (arith, flag_low s.reached), tt))))))) in
    let r : Reads at 0 (state_run s) (put_state at s xs) = rw state_run_lem (puts_back at 0 (state_run s) xs (rw add-zero h) fit) in
    let t = r.1.1.1.1 in
    rw (rw add-zero at r.0, r.1.0, r.1.1.0, r.1.1.1.0, t.0, t.1.0, t.1.1.0, flag_back s.reached)

pub config_back : (at : ℕ) (c : Config) (xs : List ℕ) → at + config_bytes ≤ length xs → ConfigFits c → stored_config at (put_config at c xs) ≡ c
unfolding stored_config size Fit Reads
config_back at c xs h f =
    let ys : List ℕ = store_at 2 at c.parent xs in
    let fit : Fit (config_run c) = (f.calm, (f.spring, (f.threshold, (f.hop, (f.noise, (f.seed, tt)))))) in
    let p : load_at 2 at (put_config at c xs) ≡ c.parent =
    rw config_run_lem (puts_beside at 4 (config_run c) ys 2 at (inr (omega arith)) ∙ load_stored 2 at c.parent xs (omega arith) f.parent) in
    let r : Reads at 4 (config_run c) (put_config at c xs) =
    rw config_run_lem (puts_back at 4 (config_run c) ys (rw (length_store 2 at c.parent xs) (omega arith)) fit) in
    rw (p, r.0, r.1.0, r.1.1.0, r.1.1.1.0, r.1.1.1.1.0, r.1.1.1.1.1.0)
