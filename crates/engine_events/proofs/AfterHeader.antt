-- A change from byte 64 on is a change after the header, and so is a row of them.
use mathlib.Core.Path.{◌≡◌, sym, ◌∙◌}
use mathlib.Core.Logic.{inl, inr}
use mathlib.Core.List.{List}
use Prim.Native.Nat.{ℕ, ◌≤◌, ◌<◌}
use native.Mathlib.Omega.{arith}
use lib.ListN.{length}
use Rattle.words.specs.Le.{load_at}
use Rattle.words.proofs.Total.{load_out}
use Rattle.rings.specs.Table.{Outside, Frame}
use Rattle.rings.proofs.Frames.{frame_same, frame_on}
use Rattle.engine_events.specs.Promises.{AfterHeader}

-- past its end each list reads 0
past : (m j : ℕ) (xs ys : List ℕ) → length ys ≡ length xs → length xs < j → load_at m j ys ≡ load_at m j xs
past m j xs ys e h = load_out m j ys (omega arith) ∙ sym (load_out m j xs (omega arith))

pub after_header : {a l : ℕ} {xs ys : List ℕ} → 64 ≤ a → Frame a l xs ys → AfterHeader xs ys
after_header {a} {l} {xs} {ys} h F = record { size = F.size; loads = λ m j o. go m j o }
  where
    go : (m j : ℕ) → Outside 64 (length xs) j m → load_at m j ys ≡ load_at m j xs
    go m j (inl o) = past m j xs ys F.size (omega arith)
    go m j (inr o) = F.loads m j (inr (omega arith))

pub after_header_same : (xs : List ℕ) → AfterHeader xs xs
after_header_same xs = frame_same 64 (length xs) xs

pub after_header_on : {xs ys zs : List ℕ} → AfterHeader xs ys → AfterHeader ys zs → AfterHeader xs zs
after_header_on {xs} {ys} {zs} F G = frame_on F (rw F.size at G)
