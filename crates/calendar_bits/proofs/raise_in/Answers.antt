-- Both bits are set.
use mathlib.Core.Path.{refl}
use mathlib.Core.Logic.{inl, inr}
use native.Mathlib.Omega.{arith}
use Rattle.calendar_shapes.proofs.Powers.{row_sizes}
use Rattle.calendar_bits.proofs.Refreshes.{refresh_out, inside, raise_at}
use Rattle.calendar_bits.proofs.raise_in.Goals as goal

pub returns-then-leaves-list : goal.returns-then-leaves-list
returns-then-leaves-list c = record {
  raised = refresh_out _ _ _ _ (inl (let e = c.leaves.ensures.0 in omega (arith, c.if-leaves-list.true)));
  none = λ h. refl;
}

pub returns-then-b-table_bytes : goal.returns-then-b-table_bytes
returns-then-b-table_bytes c = record {
  raised = refresh_out _ _ _ _ (inr (let e = c.table_bytes.ensures.0 in omega (arith, c.if-b-table_bytes.true)));
  none = λ h. refl;
}

pub returns : goal.returns
returns c =
    let leaves = c.leaves in
    let if1 = c.if-leaves-list in
    let table-bytes = c.table_bytes in
    let if2 = c.if-b-table_bytes in
    let arity = c.arity-a in
    let above = c.above-j in
    let nodes-at = c.nodes_at in
    let word = c.word in
    let child-of = c.child_of in
    let with-child = c.with_child in
    let set_word = c.set_word in
    let above2 = c.above-r in
    let word2 = c.word-2 in
    let child-of2 = c.child_of-2 in
    let with-child2 = c.with_child-2 in
    let set-word2 = c.set_word-2 in record {
      raised = raise_at _ (row_sizes _) _ _ _ _ _ _ _ _ arity.ensures.0 nodes-at.ensures.0 above.ensures.0 child-of.ensures.0 set_word.ensures
          (rw (← word.ensures) with-child.ensures.child) _ _ _ _ above2.ensures.0 child-of2.ensures.0 set-word2.ensures
          (rw (← word2.ensures) with-child2.ensures.child);
      none = λ h. absurd (inside _ _ _ _ _ leaves.ensures.0 table-bytes.ensures.0 if1.false if2.false h);
    }
