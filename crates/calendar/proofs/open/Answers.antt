-- The arity is looked up in the table of shapes.
use mathlib.Core.Path.{◌≡◌, subst}
use Prim.Native.Nat.{ℕ}
use native.Mathlib.Omega.{arith}
use Rattle.std.specs.Prelude.{Some, None}
use Rattle.std.proofs.lemmas.Result.{err_from_is_err_and}
use Rattle.refusal.specs.declared.Refusal.TheVariants.{Arity}
use Rattle.refusal.proofs.Arities.{arity_none}
use Rattle.calendar_shapes.specs.Rule.{EntryIs}
use Rattle.calendar_header.specs.Promises.{OpensCalendar}
use Rattle.calendar.proofs.Opening.{open_missing}
use Rattle.calendar.proofs.open.Goals as goal

pub open_shape-requires : goal.open_shape-requires
open_shape-requires c =
    let some : c.shape_of.result ≡ Some c.in_ok-at.at = grind arith in
    let E = subst (EntryIs c.args.arity) some c.shape_of.ensures in (E.0, E.1)

pub returns : goal.returns
returns c =
    let some : c.shape_of.result ≡ Some c.in_ok-at.at = grind arith in
    let E = subst (EntryIs c.args.arity) some c.shape_of.ensures in
    subst (λ (m : ℕ). OpensCalendar c.args.n m c.args.width c.args.b.now c.open_shape.result c.open_shape.new.b) E.2 c.open_shape.ensures

pub returns-in_err-at : goal.returns-in_err-at
returns-in_err-at c =
    let p = err_from_is_err_and c.from_residual.result c.from_residual.ensures.1 in
    let none : c.shape_of.result ≡ None = grind arith in
    let e : c.in_err-at.field-0.0 ≡ Arity = grind arith in
    rw (p.1, p.2, e)
    (open_missing c.args.b.now c.args.n c.args.arity c.args.width (arity_none c.args.arity (subst (EntryIs c.args.arity) none c.shape_of.ensures)))
