-- What the calls' private steps ensure; no promise to a caller cites these.
use Rattle.std.specs.Prelude.{◌≡◌, Bool, cond, List, ℕ, suc, ◌+◌, ◌≤◌, ltb, leb, length, Result, Ok, Err}
use Rattle.refusal.specs.declared.Refusal.{Refusal}
use Rattle.refusal.specs.Numbers.{number_of}
use Rattle.refusal.specs.Tests.{Verdict, accepted, refused, judged}
use Rattle.line.specs.Station.{Plan}
use Rattle.rules.specs.Held.{Queue}
use Rattle.rules.specs.Engine.{Setting, Engine, Call}
use Rattle.rules.specs.Checks.{checks}
use Rattle.engine_index.specs.Represents.{Cell}
use Rattle.engine_events.specs.Represents.{Holds}
use Rattle.engine_promises.specs.Represents.{Represents}

-- ---- the header

-- a word that is at most m; m + 1 where it is more
abbrev pub at_most : ℕ → ℕ → ℕ
at_most m w = cond (ltb m w) (suc m) w

-- ---- judging

-- a call is judged by reading alone: v is the number that refuses it, or accepted, at the engine that the bytes stand for
pub record JudgesCall (call : Call) (v : Verdict) (xs : List ℕ) : Type 0 where
  pub says : (p : Plan) (e : Engine) → Represents p e xs → judged (checks p e call) ≡ v

-- what a judging says, whatever it finds where it accepts
abbrev pub verdict_of : {A : Type 0} → Result A Refusal → Verdict
verdict_of (Ok found) = accepted
verdict_of (Err r) = refused (number_of r)

-- r is the judging of a call: its verdict, and what is found where it accepts is so
pub record JudgesAndFinds {A : Type 0} (call : Call) (xs : List ℕ) (r : Result A Refusal) (IsSo : A → Type 0) : Type 0 where
  pub number : JudgesCall call (verdict_of r) xs
  pub found : (x : A) → r ≡ Ok x → IsSo x

-- n and c are the line's numbers of stations and slots
abbrev pub Numbered : ℕ → ℕ → List ℕ → Type 0
Numbered n c xs = (p : Plan) (e : Engine) → Represents p e xs → (p.count ≡ n) × (e.setting.capacity ≡ c)

-- ---- post

-- is no place free?
abbrev pub Full : ℕ → ℕ → List ℕ → Bool → Type 0
Full n c xs r = (p : Plan) (setting : Setting) (now : ℕ) (q : Queue) (cells : List Cell) → Holds p setting n c now xs q cells → r ≡ leb c (length cells)

-- ---- run

-- so many places are free, and 2 where more are
abbrev pub HasRoom : ℕ → ℕ → List ℕ → ℕ → Type 0
HasRoom n c xs r =
    (p : Plan) (setting : Setting) (now : ℕ) (q : Queue) (cells : List Cell) → Holds p setting n c now xs q cells → (m : ℕ) → m ≤ 2
    → leb m r ≡ leb (length cells + m) c
