-- The tuples are compared as the definition compares the keys: the first two numbers that differ decide.
use Prim.Native.Nat.{ℕ, compare}
use Prim.Native.Nat as nat
use Rattle.std.proofs.Common.{◌≡◌, false, Some}
use Rattle.std.specs.declared.cmp.Ordering.{Ordering}
use Rattle.std.specs.declared.cmp.Ordering.TheVariants.{Less, Equal, Greater}
use Rattle.std.specs.Ordering.{partial_ordering_then, nat_cmp, is_some_and, is_lt}
use Rattle.std.specs.Cmp.{nat_cmp_is}
use mathlib.Core.Path.{refl, ap, ◌∙◌}
use Rattle.line.specs.Event.{before, lex, decide}
use Rattle.line.proofs.Order.{Tri, below, level, above, tri, ltb_is}
use Rattle.line.proofs.before.Goals as goal

abbrev answer : Ordering → nat.Ordering
answer Less = nat.Ordering.lt
answer Equal = nat.Ordering.eq
answer Greater = nat.Ordering.gt

compared : (m n : ℕ) → compare m n ≡ answer (nat_cmp m n)
compared m n = go (tri m n)
  where
    go : Tri m n → compare m n ≡ answer (nat_cmp m n)
    go (below h e) = e ∙ ap answer (nat_cmp_is m n Less h)
    go (level h e) = e ∙ ap answer (nat_cmp_is m n Equal h)
    go (above h e) = e ∙ ap answer (nat_cmp_is m n Greater h)

four : (p q r s : Ordering)
    → is_some_and is_lt (partial_ordering_then (partial_ordering_then (partial_ordering_then (Some p) (Some q)) (Some r)) (Some s))
    ≡ decide (answer p) (decide (answer q) (decide (answer r) (decide (answer s) false)))
unfolding decide
four Less q r s = refl
four Greater q r s = refl
four Equal Less r s = refl
four Equal Greater r s = refl
four Equal Equal Less s = refl
four Equal Equal Greater s = refl
four Equal Equal Equal Less = refl
four Equal Equal Equal Equal = refl
four Equal Equal Equal Greater = refl

pub returns : goal.returns
unfolding before lex
returns c =
    let a = c.args.a in
    let b = c.args.b in
    rw (ltb_is a.number b.number, compared a.time b.time, compared a.target b.target, compared a.source b.source, compared a.number b.number)
    (c.lt.ensures ∙ four _ _ _ _)
