-- What an answer stands for: an outcome whose counts stay is said as it is, one that passes stays passed under one more send, and a send on
-- top of an effect is the send of its state alone with the effect's sends ahead of it.
use mathlib.Core.Path.{◌≡◌, refl, sym, ap, ◌∙◌}
use mathlib.Core.Bool.{Bool, true, false, cond}
use mathlib.Core.List.{List, ◌++◌, append-nil}
use Prim.Native.Nat.{ℕ, suc, ◌+◌, ◌≤◌, ◌<◌}
use native.Mathlib.Omega.{arith}
use borrow.Author.Tests.{le-ltb, ltb-false, le-leb, lt-leb}
use lib.Dec.{ltb, leb, eqb}
use Rattle.std.specs.Prelude.{None, Some, Option}
use Rattle.refusal.specs.Tests.{horizon, largest, passes}
use Rattle.line.specs.declared.Config.{Config}
use Rattle.line.specs.declared.Event.{Event}
use Rattle.line.specs.declared.Matter.{Matter}
use Rattle.line.specs.declared.Matter.TheVariants.{Frame}
use Rattle.line.specs.declared.Effect.{Effect}
use Rattle.line.specs.Station.{Outcome, silent, send, repeat, pass}
use Rattle.line.specs.Answer.{counts_pass, Counted, within, refused_by, over, counted, sends_of, said}
use Rattle.line.proofs.Either.{either}
use Rattle.line.proofs.Sends.{made}

-- the counts of a state fit 32 bits, or one of them passes
pub kept : (o : Outcome) → o.after.heard ≤ largest → o.after.lost ≤ largest → o.after.sent ≤ largest → counted o ≡ within o
unfolding counted
kept o h l s = rw (le-ltb _ _ h, le-ltb _ _ l, le-ltb _ _ s)

pub passed : (o : Outcome) → (o.after.heard ≤ largest → o.after.lost ≤ largest → o.after.sent ≤ largest → ⊥) → over ≡ counted o
unfolding counted
passed o h = rw (go (passes o.after.heard) (passes o.after.lost) (passes o.after.sent) refl refl refl)
  where
    go : (u v w : Bool) → passes o.after.heard ≡ u → passes o.after.lost ≡ v → passes o.after.sent ≡ w → counts_pass o.after ≡ true
    go true v w p q r = rw p
    go false true w p q r = rw (p, q)
    go false false true p q r = rw (p, q, r)
    go false false false p q r = absurd (h (ltb-false _ _ p) (ltb-false _ _ q) (ltb-false _ _ r))

past : (o : Outcome) → over ≡ counted o → o.after.heard ≤ largest → o.after.lost ≤ largest → o.after.sent ≤ largest → ⊥
past o e h l s =
    let k = kept o h l s in
    let z : ◌≡◌ {A = ℕ} 0 1 = cc in
    omega arith

-- an answer that is not over is the outcome
whole : (o x : Outcome) → within x ≡ counted o → o ≡ x
unfolding counted
whole o x = go (counts_pass o.after)
  where
    go : (v : Bool) → within x ≡ cond v over (within o) → o ≡ x
    go true e = cc
    go false e = cc

-- ---- one send more

-- what an answer says, with sends ahead of its own
abbrev pub ahead : List Event → Counted → Counted
ahead l (within o) = within (record { after = o.after; sends = l ++ o.sends })
ahead l (refused_by n) = refused_by n

-- an answer for o that has no second send
abbrev pub One : Option Effect → Outcome → Type 0
One r o = (said r ≡ counted o) × ((e : Effect) → r ≡ Some e → e.second ≡ None)

pub single : (r : Option Effect) (o : Outcome) → One r o → (e : Effect) → r ≡ Some e → within (record { after = e.state; sends = sends_of e.first }) ≡ counted o
single r o p e h = ap (λ l. within (record { after = e.state; sends = l })) (sym (append-nil _) ∙ ap (λ x. sends_of e.first ++ sends_of x) (sym (p.1 e h))) ∙ (ap said (sym h) ∙ p.0)

module _ (s u to : ℕ) (m : Matter) where
  -- after the horizon it is not made, up to the horizon it is, and a count that passed stays so
  pub late : {k : Counted} (o : Outcome) → horizon < u → k ≡ counted o → k ≡ counted (send s u to m o)
  unfolding send
  late o h e = rw (lt-leb u horizon h) e

  pub timely : {k : Counted} (o : Outcome) → u ≤ horizon → k ≡ counted (made s u to m o) → k ≡ counted (send s u to m o)
  unfolding send
  timely o h e = rw (le-leb u horizon h) e

  pub stays : (o : Outcome) → over ≡ counted o → over ≡ counted (send s u to m o)
  unfolding send
  stays o e = either (λ r. over ≡ counted r) (leb u horizon) (made s u to m o) o (passed (made s u to m o) (λ h l k. past o e h l (omega arith))) e

  -- on a state with sends, it is the send on the state alone with those sends ahead
  onto : (o : Outcome) → counted (send s u to m o) ≡ ahead o.sends (counted (send s u to m (silent o.after)))
  unfolding send silent counted
  onto o = go (leb u horizon)
    where
      two : (w : Bool) (x y : Outcome) → ahead o.sends (within y) ≡ within x → cond w over (within x) ≡ ahead o.sends (cond w over (within y))
      two true x y h = refl
      two false x y h = sym h

      go : (v : Bool) → counted (cond v (made s u to m o) o) ≡ ahead o.sends (counted (cond v (made s u to m (silent o.after)) (silent o.after)))
      go true = two (counts_pass (made s u to m o).after) _ _ refl
      go false = two (counts_pass o.after) _ _ (ap (λ l. within (record { after = o.after; sends = l })) (append-nil o.sends))

  pub chain : (r : Option Effect) (o : Outcome) → One r o → (e : Effect) → r ≡ Some e → counted (send s u to m o) ≡ ahead (sends_of e.first) (counted (send s u to m (silent e.state)))
  chain r o p e h = rw (whole o _ (single r o p e h)) (onto _)

-- the same where a frame may be repeated or passed on
pub repeat_stays : (c : Config) (s t origin repeats : ℕ) (o : Outcome) → over ≡ counted o → over ≡ counted (repeat c s t origin repeats o)
unfolding repeat
repeat_stays c s t origin repeats o e = either (λ r. over ≡ counted r) (ltb repeats 3) _ o (stays s (t + c.hop) s (Frame origin (suc repeats)) o e) e

pub pass_stays : (c : Config) (s t origin : ℕ) (o : Outcome) → over ≡ counted o → over ≡ counted (pass c s t origin o)
unfolding pass
pass_stays c s t origin o e = either (λ r. over ≡ counted r) (eqb s 0) o _ e (stays s (t + c.hop) c.parent (Frame origin 0) o e)
