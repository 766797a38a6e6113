-- The matters that number 10 accepts: which they are, that a kind and a value mean no other, and that running an event sends no other.
use mathlib.Core.Path.{◌≡◌, refl, ap, ◌∙◌, sym}
use mathlib.Core.Bool.{Bool, true, false, cond, ◌&&◌}
use Prim.Native.Nat.{ℕ, suc, ◌+◌, ◌*◌, ◌/◌, ◌%◌, ◌≤◌, ◌<◌}
use native.Mathlib.Omega.{arith}
use borrow.Author.Tests.{ltb-true, lt-ltb, leb-true, le-leb, eqb-true}
use lib.Arith.{digits_mod}
use lib.Dec.{eqb, ltb, leb}
use Rattle.std.specs.Prelude.{Ok, Err}
use Rattle.refusal.specs.Tests.{largest}
use Rattle.refusal.specs.declared.Refusal.TheVariants as R
use Rattle.line.specs.declared.Event.{Event}
use Rattle.line.specs.declared.Config.{Config}
use Rattle.line.specs.declared.Matter.{Matter}
use Rattle.line.specs.declared.Matter.TheVariants.{Read, Frame, Level}
use Rattle.line.specs.declared.State.{State}
use Rattle.line.specs.Matter.{suited, frame_of, matter_of, kind_of, value_of, Suits}
use Rattle.line.specs.Order.{All}
use Rattle.line.specs.Station.{Plan, InRange, run_event}
use Rattle.line.specs.Widths.{MatterFits}
use Rattle.line.proofs.All.{all_map}
use Rattle.line.proofs.Outcomes.{MaySend, next_reading, own_frame, repeated, passed_on}
use Rattle.line.proofs.Sends.{sends_allowed}

-- ---- a frame's value

-- it holds the origin and the repeats
pub value_parts : (origin repeats : ℕ) → origin < 256 → ((origin + 256 * repeats) % 256 ≡ origin) × ((origin + 256 * repeats) / 256 ≡ repeats)
value_parts origin repeats h =
    let o : (origin + 256 * repeats) % 256 ≡ origin = ap (λ n. n % 256) (omega arith) ∙ digits_mod repeats h in
    (o, omega (arith, o))

-- ---- which matters suit

means : (v : Bool) {a m : Matter} → suited v a ≡ Ok m → (v ≡ true) × (a ≡ m)
means true e = (refl, cc)
means false e = let z : ◌≡◌ {A = ℕ} 0 1 = cc in absurd (omega arith)

-- the tests of a frame's value, where it means one
frame_means : (n value : ℕ) {m : Matter} → frame_of n value ≡ Ok m → (value / 256 ≤ 3) × (value % 256 < n) × (Frame (value % 256) (value / 256) ≡ m)
unfolding frame_of
frame_means n value {m} e = go (leb (value / 256) 3) (ltb (value % 256) n) refl refl e
  where
    go : (u v : Bool) → leb (value / 256) 3 ≡ u → ltb (value % 256) n ≡ v → suited (u && v) (Frame (value % 256) (value / 256)) ≡ Ok m
        → (value / 256 ≤ 3) × (value % 256 < n) × (Frame (value % 256) (value / 256) ≡ m)
    go true true i j k = (leb-true _ 3 i, ltb-true _ n j, (means true k).1)
    go true false i j k = let z : ◌≡◌ {A = ℕ} 0 1 = cc in absurd (omega arith)
    go false v i j k = let z : ◌≡◌ {A = ℕ} 0 1 = cc in absurd (omega arith)

-- a frame suits exactly where its origin is below N and its repeats are at most 3
pub frame_suits : (n origin repeats : ℕ) → n ≤ 256 → origin < n → repeats ≤ 3 → Suits n (Frame origin repeats)
unfolding matter_of frame_of
frame_suits n origin repeats h k l =
    let v = value_parts origin repeats (omega (arith, h, k)) in
    rw (v.0, v.1, le-leb repeats 3 l, lt-ltb origin n k)

pub suits_frame : (n origin repeats : ℕ) → Suits n (Frame origin repeats) → (origin < n) × (repeats ≤ 3)
unfolding matter_of
suits_frame n origin repeats e =
    let f = frame_means n (origin + 256 * repeats) e in
    let o : (origin + 256 * repeats) % 256 ≡ origin = cc in
    let r : (origin + 256 * repeats) / 256 ≡ repeats = cc in
    (rw o at f.1, rw r at f.0)

-- one that suits fits its widths
pub suits_fit : (n : ℕ) (m : Matter) → n ≤ 256 → Suits n m → MatterFits m
unfolding matter_of
suits_fit n Read h e = tt
suits_fit n (Frame origin repeats) h e = let f = suits_frame n origin repeats e in (omega (arith, f.0), omega (arith, f.1))
suits_fit n (Level mm) h e = omega (arith, leb-true mm largest (means (leb mm largest) e).0)

-- ---- a kind and a value mean a matter of that kind and value, so one that suits

means_back : (n kind value : ℕ) (m : Matter) → matter_of n kind value ≡ Ok m → (kind_of m ≡ kind) × (value_of m ≡ value)
unfolding matter_of
means_back n kind value m e = go (eqb kind 1) (eqb kind 2) (eqb kind 3) refl refl refl e
  where
    go : (a b d : Bool) → eqb kind 1 ≡ a → eqb kind 2 ≡ b → eqb kind 3 ≡ d
        → cond a (suited (eqb value 0) Read) (cond b (frame_of n value) (cond d (suited (leb value largest) (Level value)) (Err R.Matter))) ≡ Ok m
        → (kind_of m ≡ kind) × (value_of m ≡ value)
    go true b d i j k e = let f = means (eqb value 0) e in rw (← f.1) (sym (eqb-true kind 1 i), sym (eqb-true value 0 f.0))
    go false true d i j k e = let f = frame_means n value e in rw (← f.2) (sym (eqb-true kind 2 j), omega arith)
    go false false true i j k e = let f = means (leb value largest) e in rw (← f.1) (sym (eqb-true kind 3 k), refl)
    go false false false i j k e = let z : ◌≡◌ {A = ℕ} 0 1 = cc in absurd (omega arith)

pub means_suits : (n kind value : ℕ) (m : Matter) → matter_of n kind value ≡ Ok m → Suits n m
means_suits n kind value m e = let b = means_back n kind value m e in rw (b.0, b.1) e

-- ---- what an event that suits sends suits

matter_suits : (n : ℕ) {c : Config} {s t : ℕ} {st : State} {u to : ℕ} {m k : Matter} → n ≤ 256 → s < n → Suits n m → MaySend c s t st m u to k → Suits n k
unfolding matter_of
matter_suits n l h e next_reading = refl
matter_suits n {s = s} l h e own_frame = frame_suits n s 0 l h (omega arith)
matter_suits n l h e (repeated {origin} {repeats} i) = frame_suits n origin (suc repeats) l (suits_frame n origin repeats e).0 i
matter_suits n l h e (passed_on {origin} {repeats}) = frame_suits n origin 0 l (suits_frame n origin repeats e).0 (omega arith)

pub sends_suit : (p : Plan) → InRange p → (st : State) (x : Event) → x.target < p.count → Suits p.count x.matter
    → All (λ y. Suits p.count y.matter) (run_event p st x).sends
sends_suit p S st x h e = all_map (λ y a. matter_suits p.count S.most h e a) (run_event p st x).sends (sends_allowed p st x)
