-- An absent station is left alone; any other is unlinked.
use mathlib.Core.Path.{refl, sym, ◌∙◌, subst}
use Prim.Native.Nat.{ℕ}
use native.Mathlib.Omega.{arith}
use Rattle.calendar_cells.specs.Table.{Table}
use Rattle.calendar_cells.proofs.TableLaws.{too_short, by_row}
use Rattle.calendar_buckets.specs.Promises.{Gone}
use Rattle.calendar_buckets.proofs.Takes.{take_nothing, gone_already, kept_same}
use Rattle.calendar_buckets.proofs.take.Goals as goal

pub returns-then-s-ge256 : goal.returns-then-s-ge256
returns-then-s-ge256 c = record {
  kept = kept_same _;
  none = λ h. refl;
  gone = λ a T l. absurd (omega arith);
}

pub returns-then-b-lt-BYTES : goal.returns-then-b-lt-BYTES
returns-then-b-lt-BYTES c = record {
  kept = kept_same _;
  none = λ h. refl;
  gone = λ a T l. absurd (too_short T c.if-b-lt-BYTES.true);
}

pub returns-then-due-eq0 : goal.returns-then-due-eq0
returns-then-due-eq0 c = record {
  kept = kept_same _;
  none = λ h. refl;
  gone = λ a T l. gone_already _ _ _ T (sym (c.due.ensures.0 l) ∙ c.if-due-eq0.true);
}

pub returns : goal.returns
returns c =
    let args = c.args in
    let if1 = c.if-s-ge256 in
    let if2 = c.if-b-lt-BYTES in
    let due = c.due in
    let if3 = c.if-due-eq0 in
    let word = c.word-row in
    let unlink = c.unlink in record {
      kept = unlink.ensures.kept;
      none = λ h. absurd (take_nothing _ _ if1.false if2.false h);
      gone = λ a T l.
          let e = by_row a _ _ word.ensures T in
          subst (λ (m : ℕ). Gone m args.s args.b.now unlink.new.b) (sym e)
          (unlink.ensures.gone (subst (λ (m : ℕ). Table m args.b.now) e T) (λ z. if3.false (due.ensures.0 l ∙ z)));
    }
