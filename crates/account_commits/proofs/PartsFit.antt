-- Number 19 holds of no log that the plain machine writes, and so of no piece of it that has whole entries.
use mathlib.Core.Path.{◌≡◌, refl}
use mathlib.Core.Logic.{◌⊎◌, inl, inr}
use mathlib.Core.Bool.{Bool, true, false, not, ◌||◌}
use mathlib.Core.List.{List, [], ◌∷◌, ◌++◌, map}
use Prim.Native.Nat.{ℕ, ◌%◌, ◌<◌}
use native.Mathlib.Omega.{arith}
use borrow.Author.Tests.{lt-ltb, le-ltb, lt-leb, eq-eqb}
use lib.Dec.{eqb, ltb}
use lib.ListN.{length, length-append}
use Rattle.refusal.specs.Tests.{horizon}
use Rattle.line.specs.declared.Event.{Event}
use Rattle.line.specs.Event.{posted}
use Rattle.line.specs.Order.{All}
use Rattle.line.specs.Station.{Plan, InRange}
use Rattle.line.proofs.Fits.{or_false}
use Rattle.entry.specs.Entry.{entries}
use Rattle.entry.proofs.Entries.{entries_length}
use Rattle.rules.proofs.Calls.LogEvents.{LogEvent}
use Rattle.account_parts.specs.Part.{entries_of, source_out, entry_out, any_entry_out, part_out}
use Rattle.account_parts.proofs.FirstEntries.{any_join}
use Rattle.account_parts.proofs.WholeParts.{part_whole}
use Rattle.account_parts.proofs.Joined.{entries_join}
use Rattle.account_commits.specs.CommittedCharge.{entry_of}
use Rattle.account_commits.proofs.EntryRead.{entries_read}

-- ---- the machine's log

source_in : (n s : ℕ) → (s < n) ⊎ (s ≡ posted) → source_out n s ≡ false
source_in n s (inl h) = rw (lt-ltb s n h)
source_in n s (inr h) = go (ltb s n)
  where
    go : (v : Bool) → not (v || eqb s posted) ≡ false
    go true = refl
    go false = rw (eq-eqb s posted h)

entry_fits : (p : Plan) (x : Event) → LogEvent p x → entry_out p.count (entry_of x) ≡ false
unfolding entry_out
entry_fits p x w =
    rw (le-ltb horizon x.time w.timely, lt-leb p.count x.target w.inside, source_in p.count x.source w.sender, w.suits)

any_fits : (p : Plan) (l : List Event) → All (LogEvent p) l → any_entry_out p.count (map entry_of l) ≡ false
unfolding any_entry_out
any_fits p [] a = refl
any_fits p (x ∷ l) a = rw (entry_fits p x a.0) (any_fits p l a.1)

pub log_fits : (p : Plan) → InRange p → (l : List Event) → All (LogEvent p) l → part_out p.count (entries l) ≡ false
unfolding part_out
log_fits p S l a =
    rw (eq-eqb (length (entries l) % 24) 0 (omega (arith, entries_length l)), entries_read p S l a) (any_fits p l a)

-- ---- its pieces

part_fits : (n : ℕ) (xs : List ℕ) → length xs % 24 ≡ 0 → any_entry_out n (entries_of xs) ≡ false → part_out n xs ≡ false
unfolding part_out
part_fits n xs e h = rw (eq-eqb (length xs % 24) 0 e) h

pub pieces_fit : (n : ℕ) (xs ys : List ℕ) → length xs % 24 ≡ 0 → part_out n (xs ++ ys) ≡ false → (part_out n xs ≡ false) × (part_out n ys ≡ false)
pieces_fit n xs ys e h =
    let w = part_whole n (xs ++ ys) h in
    let a = or_false (any_entry_out n (entries_of xs)) _ (rw (entries_join xs ys e, any_join n (entries_of xs) (entries_of ys)) at w.1) in
    (part_fits n xs e a.0, part_fits n ys (omega (arith, w.0, length-append xs ys)) a.1)
