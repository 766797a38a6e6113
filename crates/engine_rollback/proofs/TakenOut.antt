-- What is held and what is run where an event is to be taken out: it waits, so it is held; it is not run; no run event has sent it.
use mathlib.Core.Path.{◌≡◌, refl}
use mathlib.Core.List.{List, [], ◌∷◌}
use Rattle.line.specs.declared.Event.{Event}
use Rattle.line.specs.Station.{Plan, States}
use Rattle.line.specs.Order.{Lt, Differ, All}
use Rattle.line.proofs.Order.{irr, clash, differ_sym}
use Rattle.rules.specs.Held.{Held, unrun, In, Queue}
use Rattle.rules.specs.Replay.{insert_sorted, insert_all_sorted, Clear, Fresh, Replayed}
use Rattle.line.proofs.Members.{all_in}
use Rattle.rules.proofs.Replay.Replay.{sends_of}
use Rattle.rules.proofs.Replay.Neat.{run_in}
use Rattle.rules.proofs.Undo.Exist.{IsHeld, is_unrun, is_run, all_inserted, waiting_held}
use Rattle.rules.proofs.Replay.Registered.{differ_same}
use Rattle.engine_moves.specs.Promises.{Unsent}

each_inserted : (P : Event → Type 0) (xs ws : List Event) → All P (insert_all_sorted xs ws) → All P xs
unfolding insert_all_sorted
each_inserted P [] ws a = tt
each_inserted P (x ∷ xs) ws a = let i = all_inserted P x (insert_all_sorted xs ws) a in (i.0, each_inserted P xs ws i.1)

-- what waits is held
pub is_held : {p : Plan} (e : Event) (ws : List Event) {st : States} {q : Queue} → Replayed p (insert_sorted e ws) st q → IsHeld e q.held
is_held {p} e ws {st} {q} o = (all_inserted (λ y. IsHeld y q.held) e ws (waiting_held p (insert_sorted e ws) st q.states q.held o.replay)).0

pub are_held : {p : Plan} (es ws : List Event) {st : States} {q : Queue} → Replayed p (insert_all_sorted es ws) st q → All (λ y. IsHeld y q.held) es
are_held {p} es ws {st} {q} o =
    each_inserted (λ y. IsHeld y q.held) es ws (waiting_held p (insert_all_sorted es ws) st q.states q.held o.replay)

-- where no event of its target is run from it on it is unrun
pub is_waiting : {e : Event} {h : List Held} → Clear e.target e h → IsHeld e h → In (unrun e) h
is_waiting c (is_unrun m) = m
is_waiting {e} {h} c (is_run b m) = absurd (clash (run_in (λ y a. y.target ≡ e.target → Lt y e) e b h m c refl) (irr e))

pub fresh_unsent : (p : Plan) (e : Event) (h : List Held) → Fresh p e h → Unsent p e h
fresh_unsent p e h f y b m z k = differ_same (differ_sym (all_in (Differ e) k (run_in (λ w a. All (Differ e) (sends_of p a w)) y b h m f)))
