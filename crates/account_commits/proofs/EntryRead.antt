-- The entries that an account reads of a log's bytes are those of its events.
use mathlib.Core.Path.{◌≡◌, refl, sym, ap, ap₂, ◌∙◌}
use mathlib.Core.Logic.{◌⊎◌, inl, inr}
use mathlib.Core.List.{List, [], ◌∷◌, ◌++◌, append-nil, map}
use Prim.Native.Nat.{ℕ, ◌+◌, ◌^◌, ◌<◌}
use native.Mathlib.Omega.{arith}
use lib.ListN.{drop}
use lib.Seq.{drop-drop, drop_at}
use Rattle.words.specs.Le.{bytes_of}
use Rattle.words.proofs.Bytes.{load_found}
use Rattle.words.proofs.Laws.{length_bytes}
use Rattle.line.specs.declared.Event.{Event}
use Rattle.line.specs.Event.{posted}
use Rattle.line.specs.Matter.{kind_of, value_of}
use Rattle.line.specs.Order.{All}
use Rattle.line.specs.Station.{Plan, InRange}
use Rattle.line.proofs.Suits.{suits_fit}
use Rattle.entry.specs.Entry.{entry, entries}
use Rattle.entry.proofs.Entries.{entry_length}
use Rattle.entry.proofs.EntryLaws.{value_fits, kind_fits}
use Rattle.rules.proofs.Calls.LogEvents.{LogEvent}
use Rattle.account_parts.specs.Part.{entry_at, first_entries, entries_of}
use Rattle.account_parts.proofs.Joined.{entries_join}
use Rattle.account_commits.specs.CommittedCharge.{entry_of}

-- the number v of n bytes stands at i and ends at j: what follows stands at j
past : (n i j v : ℕ) (xs ys : List ℕ) → i + n ≡ j → drop i xs ≡ bytes_of n v ++ ys → drop j xs ≡ ys
past n i j v xs ys e d = ap (λ m. drop m xs) (sym e) ∙ sym (drop-drop n i xs) ∙ ap (drop n) d ∙ drop_at (bytes_of n v) ys n (length_bytes n v)

module _ (p : Plan) (S : InRange p) where
  source_fits : (s : ℕ) → (s < p.count) ⊎ (s ≡ posted) → s < 256 ^ 2
  source_fits s (inl h) = omega (arith, h, S.most)
  source_fits s (inr h) = omega (arith, h)

  entry_read : (x : Event) → LogEvent p x → entry_at 0 (entry x) ≡ entry_of x
  unfolding entry_at entry
  entry_read x w =
      let t = load_found 8 0 8 x.time (entry x) _ (omega arith) refl (omega (arith, w.timely)) refl in
      let n = past 4 8 12 x.number (entry x) _ refl t.1 in
      let f = value_fits x.matter (suits_fit p.count x.matter S.most w.suits) in
      let v = load_found 4 12 16 (value_of x.matter) (entry x) _ (omega arith) refl f n in
      let g = load_found 2 16 18 x.target (entry x) _ (omega arith) refl (omega (arith, w.inside, S.most)) v.1 in
      let s = load_found 2 18 20 x.source (entry x) _ (omega arith) refl (source_fits x.source w.sender) g.1 in
      let k = load_found 4 20 24 (kind_of x.matter) (entry x) [] (omega arith) refl (kind_fits x.matter) (s.1 ∙ sym (append-nil _)) in
      rw (t.0, v.0, g.0, s.0, k.0)

  entry_alone : (x : Event) → LogEvent p x → entries_of (entry x) ≡ entry_of x ∷ []
  unfolding entries_of first_entries
  entry_alone x w = rw (entry_length x) (ap (λ e. e ∷ []) (entry_read x w))

  pub entries_read : (l : List Event) → All (LogEvent p) l → entries_of (entries l) ≡ map entry_of l
  unfolding entries entries_of first_entries
  entries_read [] a = refl
  entries_read (x ∷ l) a = entries_join (entry x) (entries l) (omega (arith, entry_length x)) ∙ ap₂ ◌++◌ (entry_alone x a.0) (entries_read l a.1)
