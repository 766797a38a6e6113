-- What was put of an event is read back where it stands, and is its entry; what stands beside it is not touched.
use mathlib.Core.Path.{◌≡◌, refl, ap, ◌∙◌}
use mathlib.Core.Logic.{◌≢◌}
use mathlib.Core.Bool.{Bool, true, false, cond}
use mathlib.Core.List.{List, [], ◌∷◌, ◌++◌, append-nil}
use Prim.Native.Nat.{ℕ, ◌+◌, ◌/◌, ◌%◌, ◌^◌, ◌≤◌, ◌<◌}
use native.Mathlib.Nat.{add-zero}
use native.Mathlib.Omega.{arith}
use lib.Dec.{ltb, eqb}
use lib.ListN.{length, get_or, take, drop}
use Rattle.words.specs.Le.{load_at}
use Rattle.words.proofs.Laws.{Apart, load_lt}
use Rattle.words.proofs.Run.{Run, puts, size, bytes, Fit, Reads, length_puts, puts_beside, puts_back, puts_parts}
use Rattle.line.specs.declared.Event.{Event}
use Rattle.line.specs.declared.Matter.{Matter}
use Rattle.line.specs.declared.Matter.TheVariants.{Read, Frame, Level}
use Rattle.line.specs.Matter.{kind_of, value_of}
use Rattle.line.specs.Event.{before}
use Rattle.line.specs.Widths.{MatterFits, EventFits}
use Rattle.line.proofs.Order.{lex_apart}
use Rattle.line.proofs.Suits.{value_parts}
use Rattle.entry.specs.Entry.{matter_or, event_at, put_event, entry}

-- ---- an event as a run of numbers

abbrev pub event_run : Event → Run
event_run x = (8, x.time) ∷ (4, x.number) ∷ (4, value_of x.matter) ∷ (2, x.target) ∷ (2, x.source) ∷ (4, kind_of x.matter) ∷ []

pub event_run_lem : (at : ℕ) (x : Event) (xs : List ℕ) → put_event at x xs ≡ puts at 0 (event_run x) xs
unfolding put_event puts
event_run_lem at x xs = rw (add-zero at)

pub length_event : (at : ℕ) (x : Event) (xs : List ℕ) → length (put_event at x xs) ≡ length xs
length_event at x xs = rw event_run_lem (length_puts at 0 (event_run x) xs)

-- ---- beside it

pub event_beside : (at : ℕ) (x : Event) (xs : List ℕ) (m j : ℕ) → Apart at 24 j m → load_at m j (put_event at x xs) ≡ load_at m j xs
unfolding size
event_beside at x xs m j a = rw event_run_lem (puts_beside at 0 (event_run x) xs m j (rw add-zero a))

-- ---- read back

matter_back : (m : Matter) → MatterFits m → matter_or (kind_of m) (value_of m) ≡ m
unfolding matter_or
matter_back Read f = refl
matter_back (Frame origin repeats) f =
    let v = value_parts origin repeats f.0 in
    let r : repeats % 256 ≡ repeats = omega (arith, f.1) in
    rw (v.0, v.1, r)
matter_back (Level mm) f = refl

pub value_fits : (m : Matter) → MatterFits m → value_of m < 256 ^ 4
value_fits Read f = omega arith
value_fits (Frame origin repeats) f = omega arith
value_fits (Level mm) f = f

pub kind_fits : (m : Matter) → kind_of m < 256 ^ 4
kind_fits Read = omega arith
kind_fits (Frame origin repeats) = omega arith
kind_fits (Level mm) = omega arith

pub event_back : (at : ℕ) (x : Event) (xs : List ℕ) → at + 24 ≤ length xs → EventFits x → event_at at (put_event at x xs) ≡ x
unfolding event_at size Fit Reads
event_back at x xs h f =
    let fit : Fit (event_run x) = (f.time, (f.number, (value_fits x.matter f.matter, (f.target, (f.source, (kind_fits x.matter, tt)))))) in
    let r : Reads at 0 (event_run x) (put_event at x xs) = rw event_run_lem (puts_back at 0 (event_run x) xs (rw add-zero h) fit) in
    rw (rw add-zero at r.0, r.1.0, r.1.1.0, r.1.1.1.0, r.1.1.1.1.0, r.1.1.1.1.1.0, matter_back x.matter f.matter)

-- ---- its bytes

pub event_parts : (at : ℕ) (x : Event) (xs : List ℕ) → at + 24 ≤ length xs → put_event at x xs ≡ take at xs ++ (entry x ++ drop (at + 24) xs)
unfolding size bytes entry
event_parts at x xs h = rw (event_run_lem at x xs) (simp (add-zero, append-nil) at (puts_parts at 0 (event_run x) xs (rw add-zero h)))

-- ---- what is read fits its widths

matter_fits : (kind value : ℕ) → value < 2 ^ 32 → MatterFits (matter_or kind value)
unfolding matter_or
matter_fits kind value h = go (eqb kind 2) (eqb kind 3)
  where
    go : (a b : Bool) → MatterFits (cond a (Frame (value % 256) (value / 256 % 256)) (cond b (Level value) Read))
    go true b = (omega arith, omega arith)
    go false true = h
    go false false = tt

pub event_fits : (at : ℕ) (xs : List ℕ) → ((j : ℕ) → get_or xs j 0 < 256) → EventFits (event_at at xs)
unfolding event_at
event_fits at xs low = record {
  time = load_lt 8 at xs low;
  number = load_lt 4 (at + 8) xs low;
  matter = matter_fits _ _ (load_lt 4 (at + 12) xs low);
  target = load_lt 2 (at + 16) xs low;
  source = load_lt 2 (at + 18) xs low;
}

-- ---- a field alone

pub event_time : (at : ℕ) (xs : List ℕ) → load_at 8 at xs ≡ (event_at at xs).time
unfolding event_at
event_time at xs = refl

-- where the times differ they decide the event order
pub told_by_time : (at : ℕ) (xs : List ℕ) (e : Event) {t : ℕ} → t ≡ load_at 8 at xs → t ≢ e.time → ltb t e.time ≡ before (event_at at xs) e
unfolding before event_at
told_by_time at xs e p q = ap (λ t. ltb t e.time) p ∙ lex_apart _ (λ h. q (p ∙ h))
