-- A call is refused with 7 where the bytes are too few for the header's numbers: no engine stands there.
use mathlib.Core.Path.{◌≡◌, refl}
use mathlib.Core.Bool.{Bool, false}
use mathlib.Core.List.{List}
use Prim.Native.Nat.{ℕ}
use lib.ListN.{length}
use Rattle.words.specs.Le.{load_at}
use Rattle.refusal.specs.Tests.{Verdict}
use Rattle.rules.specs.Engine.{Call, Answer}
use Rattle.engine_events.specs.Represents.{fits_in}
use Rattle.engine_promises.specs.Promises.{Answered}
use Rattle.engine_promises.specs.Steps.{at_most, JudgesCall}
use Rattle.engine_promises.proofs.Header.{unfit}

pub unfit_call : {asked : Call} {said : Answer} {xs : List ℕ} {n c : ℕ} {r : Bool} → n ≡ at_most 256 (load_at 8 0 xs) → c ≡ at_most 4096 (load_at 8 8 xs)
    → r ≡ fits_in n c (length xs) → r ≡ false → Answered asked said xs xs
unfit_call k m f z = record { refusal = λ i q. refl; answer = λ p e R. absurd (unfit k m f z R) }

-- so a judging may say any number there
pub unfit_judged : {call : Call} {v : Verdict} {xs : List ℕ} {n c : ℕ} {r : Bool} → n ≡ at_most 256 (load_at 8 0 xs) → c ≡ at_most 4096 (load_at 8 8 xs)
    → r ≡ fits_in n c (length xs) → r ≡ false → JudgesCall call v xs
unfit_judged k m f z = record { says = λ p e R. absurd (unfit k m f z R) }
