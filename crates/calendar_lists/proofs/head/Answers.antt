-- The head of a bucket leads to its least station.
use mathlib.Core.Path.{◌≡◌, refl, sym, ◌∙◌}
use Prim.Native.Nat.{suc, ◌-◌}
use native.Mathlib.Omega.{arith}
use Rattle.calendar_cells.proofs.Heads.{head_within}
use Rattle.calendar_lists.proofs.HeadLaws.{head_of}
use Rattle.calendar_lists.proofs.head.Goals as goal

pub returns-then-list-ge65792 : goal.returns-then-list-ge65792
returns-then-list-ge65792 c = record {
  within = tt;
  none = λ h. refl;
  first = λ a l. absurd (omega arith);
}

pub returns-then-h-eq0 : goal.returns-then-h-eq0
returns-then-h-eq0 c = record {
  within = tt;
  none = λ h. refl;
  first = λ a _ l T. sym c.link-h.ensures ∙ c.if-h-eq0.true;
}

pub returns-then-h-gt256 : goal.returns-then-h-gt256
returns-then-h-gt256 c = record {
  within = tt;
  none = λ h. refl;
  first = λ a _ l T. absurd (head_within a c.args.b.now T _ _ l c.link-h.ensures c.if-h-gt256.true);
}

pub returns : goal.returns
returns c =
    let front : c.link-h.result ≡ suc (c.link-h.result - 1) = omega (arith, c.if-h-eq0.false) in
    record {
      within = omega (arith, c.if-h-gt256.false, front);
      none = λ h. absurd (omega arith);
      first = λ a _ l T. head_of a c.args.b.now T _ _ l (sym c.link-h.ensures ∙ front);
    }
