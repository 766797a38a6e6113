-- The station is taken out where it is registered, then put in.
use mathlib.Core.Path.{refl, sym, subst}
use Prim.Native.Nat.{ℕ}
use native.Mathlib.Omega.{arith}
use Rattle.calendar_shapes.specs.Rule.{arity_in}
use Rattle.calendar_cells.specs.Table.{Table}
use Rattle.calendar_cells.proofs.TableLaws.{too_short, by_row}
use Rattle.calendar_buckets.specs.Promises.{Placed, bucket_for}
use Rattle.calendar_buckets.proofs.Takes.{kept_same, kept_on}
use Rattle.calendar_buckets.proofs.Puts.{put_after, put_nothing}
use Rattle.calendar_buckets.proofs.put.Goals as goal

pub returns-then-s-ge256 : goal.returns-then-s-ge256
returns-then-s-ge256 c = record {
  kept = kept_same _;
  none = λ h. refl;
  placed = λ a T l d m. absurd (omega arith);
}

pub returns-then-due-eq0 : goal.returns-then-due-eq0
returns-then-due-eq0 c = record {
  kept = kept_same _;
  none = λ h. refl;
  placed = λ a T l d m. absurd (omega arith);
}

pub returns-then-due-gt-LAST : goal.returns-then-due-gt-LAST
returns-then-due-gt-LAST c = record {
  kept = kept_same _;
  none = λ h. refl;
  placed = λ a T l d m. absurd (omega arith);
}

pub returns-then-b-lt-BYTES : goal.returns-then-b-lt-BYTES
returns-then-b-lt-BYTES c = record {
  kept = kept_same _;
  none = λ h. refl;
  placed = λ a T l d m. absurd (too_short T c.if-b-lt-BYTES.true);
}

pub returns : goal.returns
returns c =
    let args = c.args in
    let if1 = c.if-s-ge256 in
    let if2 = c.if-due-eq0 in
    let if3 = c.if-due-gt-LAST in
    let if4 = c.if-b-lt-BYTES in
    let take = c.take in
    let word = c.word-row in
    let bucket = c.bucket-list in
    let insert = c.insert in record {
      kept = kept_on take.ensures.kept insert.ensures.kept;
      none = λ h. absurd (put_nothing _ _ _ if1.false if2.false if3.false if4.false h);
      placed = λ a T l d m.
          let G = take.ensures.gone a T l in
          let e = by_row a _ _ word.ensures G.changed.table in
          put_after G
          (subst (λ (k : ℕ). Placed k args.s args.due (bucket_for k args.leaf args.s) take.new.b insert.new.b) (sym e)
          (subst (λ (k : ℕ). Placed (arity_in word.result) args.s args.due k take.new.b insert.new.b) bucket.ensures.0
          (insert.ensures.placed (subst (λ (k : ℕ). Table k take.new.b) e G.changed.table) G.due_is)));
    }
